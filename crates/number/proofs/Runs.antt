-- A run of readings that writes a number of each thing into a table. Assumes nothing.
use Prim.Native.Nat.{ℕ, suc, ◌+◌, ◌-◌, ◌≤◌, ◌<◌}
use mathlib.Core.Path.{◌≡◌, refl, sym, ap, ap₂, subst, ◌∙◌}
use mathlib.Core.List.{List, [], ◌∷◌, map}
use native.Mathlib.Omega.{arith}
use native.Mathlib.Numerals.{add-one}
use lib.ListN.{length, set, length-set}
use lib.Seq.{sets}
use Rattle.number.specs.Grammar.{Grammar, many, done, read}
use Rattle.number.specs.Answers.{next}
use Rattle.number.specs.declared.Next.{Next}
use Rattle.number.proofs.Reading.{given, many_none, many_on, many_stop, front}

-- what a run of `count` things says of where it ends, and of a table that had l₀
abbrev pub Said : {A : Type 0} → Grammar A → (put : A → ℕ) → (s : List ℕ) → (count at : ℕ) → (l₀ : List ℕ) → (end : Next) → (table : List ℕ) → Type 0
Said {A} g put s count at l₀ end table =
    (end ≡ next (read (many count g) s at)) × ((xs : List A) (n : ℕ) → read (many count g) s at ≡ done xs n → table ≡ sets l₀ 0 (map put xs))

-- `i` of `count` things have been read, up to p, and the table holds their numbers
pub record Turn {A : Type 0} (g : Grammar A) (put : A → ℕ) (s : List ℕ) (count at : ℕ) (l₀ : List ℕ) (p i : ℕ) (l : List ℕ) : Type 0 where
  pub low : i ≤ count
  pub long : length l ≡ length l₀
  pub ends : next (read (many count g) s at) ≡ next (read (many (count - i) g) s p)
  pub written : (xs : List A) (n : ℕ) → read (many count g) s at ≡ done xs n
      → (ys : List A) × (read (many (count - i) g) s p ≡ done ys n) × (sets l₀ 0 (map put xs) ≡ sets l i (map put ys))

module _ {A : Type 0} (g : Grammar A) (put : A → ℕ) (s : List ℕ) (count at : ℕ) (l₀ : List ℕ) where
  pub first_turn : Turn g put s count at l₀ at 0 l₀
  first_turn =
      let z : count - 0 ≡ count = omega arith in
      record { low = omega arith; long = refl; ends = rw z; written = λ xs n e. (xs, rw z e, refl) }

  module _ (p i : ℕ) (l : List ℕ) (t : Turn g put s count at l₀ p i l) where
    pub stop_turn : (r q : ℕ) (l' : List ℕ) → i < count → next (read g s p) ≡ Next.Refused r q → Said g put s count at l₀ (Next.Refused r q) l'
    stop_turn r q l' h e =
        let f = t.ends ∙ many_stop g s p (count - i) (omega arith) r q e in
        (sym f, λ xs n k. absurd (no_next f (ap next k)))
      where
        no_next : {x : Next} {n : ℕ} → x ≡ Next.Refused r q → x ≡ Next.At n → ⊥
        no_next u v = let z : ◌≡◌ {A = ℕ} 0 1 = cc in omega arith

    pub last_turn : count ≤ i → Said g put s count at l₀ (Next.At p) l
    unfolding many read
    last_turn h =
        let z : count - i ≡ 0 = omega arith in (
          sym (t.ends ∙ many_none g s p (count - i) (omega arith)),
          λ xs n e.
              let w = t.written xs n e in
              let k = given (rw z at w.1) in
              sym (w.2 ∙ ap (λ (ys : List A). sets l i (map put ys)) (sym k.0)),
        )

    front_of : (n v : ℕ) → i < count → next (read g s p) ≡ Next.At n → ((x : A) → read g s p ≡ done x n → put x ≡ v)
        → (ys : List A) (end : ℕ) → read (many (count - i) g) s p ≡ done ys end
        → (zs : List A) × (read (many (count - (i + 1)) g) s n ≡ done zs end) × (sets l i (map put ys) ≡ sets (set l i v) (i + 1) (map put zs))
    front_of n v h e is ys end q =
        let d : count - i ≡ suc (count - (i + 1)) = omega arith in
        let f = front g s (count - (i + 1)) p ys end (rw d at q) in
        let m : f.middle ≡ n = same_next (ap next f.here) e in
        let b = is f.first (f.here ∙ ap (done f.first) m) in (
          f.others,
          subst (λ (k : ℕ). read (many (count - (i + 1)) g) s k ≡ done f.others end) m f.rest,
          ap (λ (zs : List A). sets l i (map put zs)) f.whole ∙ ap₂ (λ (a k : ℕ). sets (set l i a) k (map put f.others)) b (sym (add-one i)),
        )
      where
        same_next : {x : Next} {a b : ℕ} → x ≡ Next.At a → x ≡ Next.At b → a ≡ b
        same_next u w = cc

    pub next_turn : (n v : ℕ) (l' : List ℕ) → i < count → l' ≡ set l i v → next (read g s p) ≡ Next.At n → ((x : A) → read g s p ≡ done x n → put x ≡ v)
        → Turn g put s count at l₀ n (i + 1) l'
    next_turn n v l' h m e is =
        let d : count - i - 1 ≡ count - (i + 1) = omega arith in
        rw m
        record {
          low = omega arith;
          long = length-set l i v ∙ t.long;
          ends = t.ends ∙ many_on g s p (count - i) (omega arith) n e ∙ ap (λ (k : ℕ). next (read (many k g) s n)) d;
          written = λ xs end q.
              let w = t.written xs end q in
              let f = front_of n v h e is w.0 end w.1 in
              (f.0, f.1, w.2 ∙ f.2);
        }

-- numbers written as they are
pub numbers_said : (g : Grammar ℕ) (s : List ℕ) (count at : ℕ) (l₀ : List ℕ) (end : Next) (table : List ℕ) → Said g (λ x. x) s count at l₀ end table
    → (xs : List ℕ) (n : ℕ) → read (many count g) s at ≡ done xs n → table ≡ sets l₀ 0 xs
numbers_said g s count at l₀ end table e xs n f = e.1 xs n f ∙ ap (λ (ys : List ℕ). sets l₀ 0 ys) (itself xs)
  where
    itself : (l : List ℕ) → map (λ x. x) l ≡ l
    itself [] = refl
    itself (x ∷ l) = ap (λ (k : List ℕ). x ∷ k) (itself l)
