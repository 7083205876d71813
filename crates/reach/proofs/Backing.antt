-- The search for a start that is or leads to a number. Assumes nothing.
use Prim.Native.Nat.{ℕ, zero, suc, ◌+◌, ◌*◌, ◌<◌, ◌≤◌}
use native.Mathlib.Omega.{arith}
use native.Mathlib.Numerals.{unary_clauses}
use mathlib.Core.Path.{◌≡◌, refl, sym, ap, ◌∙◌}
use mathlib.Core.List.{List}
use mathlib.Core.Bool.{Bool, true, false, ◌&&◌, ◌||◌, or-false, or_assoc, and-false}
use lib.ListN.{length, get_or}
use lib.Dec.{eqb}
use Rattle.std.specs.List.{list_any, range_with_len}
use Rattle.graph.specs.Ways.{via, lowest}
use Rattle.graph.specs.Loops.{lowest_same}
use Rattle.graph.specs.Table.{grid, Closed}
use Rattle.graph.proofs.Rows.{ways}
use Rattle.reach.specs.Back.{any_below, is_from, leading_back}
use Rattle.reach.proofs.Ordered.{any_same}

-- by a table: s is a start, and is or leads to i
abbrev pub hits : (rows : List ℕ) (starts : List Bool) (i : ℕ) → ℕ → Bool
hits rows starts i s = get_or starts s false && (eqb s i || grid rows s i)

-- by a closed table: i is reached and leads back
abbrev pub back_at : (rows : List ℕ) (starts : List Bool) (n : ℕ) → ℕ → Bool
back_at rows starts n i = any_below (hits rows starts i) n && grid rows i i

-- one number after the other
any_more : (p : ℕ → Bool) (a n : ℕ) → list_any p (range_with_len a (suc n)) ≡ (list_any p (range_with_len a n) || p (a + n))
any_more p a zero = simp unary_clauses (or-false (p a))
any_more p a (suc n) =
    ap (λ (b : Bool). p a || b) (any_more p (a + 1) n) ∙ sym (or_assoc (p a) (list_any p (range_with_len (a + 1) n)) (p (a + 1 + n)))
    ∙ ap (λ (k : ℕ). (p a || list_any p (range_with_len (a + 1) n)) || p k) (omega arith)

pub any_in_order : (p : ℕ → Bool) (n : ℕ) → list_any p (range_with_len 0 n) ≡ any_below p n
unfolding any_below
any_in_order p zero = refl
any_in_order p (suc n) = any_more p 0 n ∙ rw (any_in_order p n) (ap (λ (k : ℕ). any_below p n || p k) (omega arith))

-- what the closed table says is what is asked
pub closed_back : (m m' : List ℕ) (starts : List Bool) (n : ℕ) → n * 8 ≤ length m → n ≤ 512 → Closed m n n m' → lowest (back_at m' starts n) n 0 ≡ leading_back (grid m) n starts
unfolding leading_back is_from
closed_back m m' starts n f h c =
    lowest_same _ _ n 0
    (λ j b. let l : j < n = omega arith in
    rw (any_same (hits m' starts j) (λ s. get_or starts s false && (eqb s j || via (grid m) n s j)) n (λ s q. rw (way s j q l)), way j j l l))
  where
    way : (a b : ℕ) → a < n → b < n → grid m' a b ≡ via (grid m) n a b
    way a b p q = ways m n n m' f h c a b p (omega arith)

module _ (rows : List ℕ) (starts : List Bool) (n i : ℕ) where
  pub back_here : grid rows i i ≡ true → any_below (hits rows starts i) n ≡ true → back_at rows starts n i ≡ true
  back_here p q = rw (p, q)

  pub no_loop : grid rows i i ≡ false → back_at rows starts n i ≡ false
  no_loop p = rw p (and-false (any_below (hits rows starts i) n))

  pub not_from : any_below (hits rows starts i) n ≡ false → back_at rows starts n i ≡ false
  not_from q = rw q
