-- What names find, by the code's steps and where all of them read. Assumes nothing.
use Prim.Native.Nat.{ℕ, zero, suc, ◌+◌, ◌-◌, ◌≤◌, ◌<◌}
use mathlib.Core.Path.{◌≡◌, refl, sym, ap, ap₂, ◌∙◌}
use mathlib.Core.List.{List, ◌∷◌}
use native.Mathlib.Numerals.{add-one}
use native.Mathlib.Omega.{arith}
use lib.ListN.{length, set, length-set}
use lib.Seq.{sets}
use Rattle.number.specs.Grammar.{slot, number, many, Outcome, done, refused, below, read}
use Rattle.number.proofs.Reading.{read_number, given, front}
use Rattle.image.specs.Finds.{finds_on, finds_at}

-- all of them read
pub finds_read_lem : (count : ℕ) (s : List ℕ) (at : ℕ) (fs : List ℕ) (n : ℕ) → read (many count (number slot 513)) s at ≡ done fs n → finds_at count s at ≡ fs
unfolding finds_at many read
finds_read_lem zero s at fs n e = (given e).0
finds_read_lem (suc c) s at fs n e =
    let f = front (number slot 513) s c at fs n e in
    ap (λ o. finds_on o (finds_at c s)) (sym (read_number slot 513 s at) ∙ f.here)
    ∙ ap (λ (xs : List ℕ). f.first ∷ xs) (finds_read_lem c s f.middle f.others n f.rest)
    ∙ sym f.whole

-- `i` of `count` have been read, up to p, and written into a table that had l₀
module _ (s : List ℕ) (count at : ℕ) (l₀ : List ℕ) where
  pub record Written (p i : ℕ) (l : List ℕ) : Type 0 where
    pub long : length l ≡ length l₀
    pub rest : sets l₀ 0 (finds_at count s at) ≡ sets l i (finds_at (count - i) s p)

  pub written_start : Written at 0 l₀
  written_start = let z : count - 0 ≡ count = omega arith in record { long = refl; rest = rw z }

  module _ (p i : ℕ) (l : List ℕ) (w : Written p i l) where
    pub written_on : i < count → (v n : ℕ) → below 513 s p ≡ done v n → (l' : List ℕ) → l' ≡ set l i v → Written n (i + 1) l'
    unfolding finds_at
    written_on h v n e l' m =
        let d : count - i ≡ suc (count - (i + 1)) = omega arith in
        record {
          long = ap length m ∙ length-set l i v ∙ w.long;
          rest = w.rest ∙ ap (λ (k : ℕ). sets l i (finds_at k s p)) d ∙ ap (λ o. sets l i (finds_on o (finds_at (count - (i + 1)) s))) e
              ∙ ap₂ (λ (x : List ℕ) (k : ℕ). sets x k (finds_at (count - (i + 1)) s n)) (sym m) (sym (add-one i));
        }

    pub written_stop : i < count → (r q : ℕ) → below 513 s p ≡ refused r q → l ≡ sets l₀ 0 (finds_at count s at)
    unfolding finds_at
    written_stop h r q e =
        let d : count - i ≡ suc (count - (i + 1)) = omega arith in
        sym (w.rest ∙ ap (λ (k : ℕ). sets l i (finds_at k s p)) d ∙ ap (λ o. sets l i (finds_on o (finds_at (count - (i + 1)) s))) e)

    pub written_end : count ≤ i → l ≡ sets l₀ 0 (finds_at count s at)
    unfolding finds_at
    written_end h = let z : count - i ≡ 0 = omega arith in sym (w.rest ∙ ap (λ (k : ℕ). sets l i (finds_at k s p)) z)

-- no more than there are names
pub finds_few : (count : ℕ) (s : List ℕ) (at : ℕ) → length (finds_at count s at) ≤ count
unfolding finds_at
finds_few zero s at = omega arith
finds_few (suc c) s at = go (below 513 s at) (λ n. finds_few c s n)
  where
    go : (o : Outcome ℕ) → ((n : ℕ) → length (finds_at c s n) ≤ c) → length (finds_on o (finds_at c s)) ≤ suc c
    go (done v n) h = omega (arith, h n)
    go (refused r q) h = omega arith
