-- A number that is cut passes the limit exactly where the number does. Assumes nothing.
use mathlib.Core.Path.{◌≡◌, refl, sym, ap, ap₂, ◌∙◌}
use mathlib.Core.Bool.{Bool, true, false, cond, ◌||◌}
use mathlib.Core.Option.{Option, none, some}
use Prim.Native.Nat.{ℕ, ◌+◌, ◌*◌, ◌/◌, ◌^◌, min, ◌<◌, ◌≤◌}
use native.Mathlib.Nat.{mul-zero, pos_of_ne-zero, min-eq_left, min-eq_right, le-div_iff_mul-le, div-lt_iff_lt-mul}
use native.Mathlib.Decide.{dec_le}
use native.Mathlib.Omega.{arith}
use lib.Dec.{ltb}
use borrow.Author.Tests.{lt-ltb, le-ltb}
use Rattle.sizes.specs.declared.Size.{Size}
use Rattle.sizes.specs.declared.Size.TheVariants.{Fixed, Bounded, Open}
use Rattle.sizes.specs.declared.Operation.{Operation}
use Rattle.sizes.specs.declared.Worked.{Worked}
use Rattle.sizes.specs.declared.Worked.TheVariants.{Sized, Over}
use Rattle.number.specs.Shortest.{groups_of}
use Rattle.sizes.specs.Sizes.{limit, limited, limited_sum, limited_product, then, smallest, variable, both, multiplied, up_to}
use Rattle.measures.specs.Cut.{cut_sum}

-- whatever made the size
module _ (o : Operation) where
  -- one law for every number of a size
  cut : (x : ℕ) (f : ℕ → Worked) → cond (ltb limit (min x (2 ^ 63))) (Over o) (f (min x (2 ^ 63))) ≡ cond (ltb limit x) (Over o) (f x)
  cut x f = go (dec_le x limit)
    where
      go : Dec (x ≤ limit) → cond (ltb limit (min x (2 ^ 63))) (Over o) (f (min x (2 ^ 63))) ≡ cond (ltb limit x) (Over o) (f x)
      go (yes h) = let e : min x (2 ^ 63) ≡ x = omega arith in rw e
      go (no h) =
          let e : min x (2 ^ 63) ≡ 2 ^ 63 = omega arith in
          let p : ltb limit x ≡ true = lt-ltb limit x (omega arith) in
          rw (e, p)

  bounded_is : (x y : ℕ) → limited o (Bounded x y) ≡ cond (ltb limit x) (Over o) (cond (ltb limit y) (Over o) (Sized (Bounded x y)))
  unfolding limited
  bounded_is x y = go (ltb limit x) (ltb limit y)
    where
      go : (a b : Bool) → cond (a || b) (Over o) (Sized (Bounded x y)) ≡ cond a (Over o) (cond b (Over o) (Sized (Bounded x y)))
      go true b = refl
      go false b = refl

  pub cut_fixed : (x : ℕ) → limited o (Fixed (min x (2 ^ 63))) ≡ limited o (Fixed x)
  unfolding limited
  cut_fixed x = cut x (λ y. Sized (Fixed y))

  pub cut_open : (x : ℕ) → limited o (Open (min x (2 ^ 63))) ≡ limited o (Open x)
  unfolding limited
  cut_open x = cut x (λ y. Sized (Open y))

  pub cut_bounded : (x y : ℕ) → limited o (Bounded (min x (2 ^ 63)) (min y (2 ^ 63))) ≡ limited o (Bounded x y)
  cut_bounded x y =
      bounded_is (min x (2 ^ 63)) (min y (2 ^ 63))
      ∙ cut x (λ l. cond (ltb limit (min y (2 ^ 63))) (Over o) (Sized (Bounded l (min y (2 ^ 63)))))
      ∙ ap (cond (ltb limit x) (Over o)) (cut y (λ h. Sized (Bounded x h)))
      ∙ sym (bounded_is x y)

  -- the smallest and the largest are sums
  pub cut_sums : (x : ℕ) (a b : Option ℕ) → limited o (variable (min x (2 ^ 63)) (both cut_sum a b)) ≡ limited o (variable x (both ◌+◌ a b))
  cut_sums x (some a) (some b) = cut_bounded x (a + b)
  cut_sums x (some a) none = cut_open x
  cut_sums x none b = cut_open x

  -- a size whose numbers are sums, by the code's steps
  pub summed : (x : ℕ) (a b : Option ℕ) {w : Worked} {z : Size} (l : ℕ) (h : Option ℕ) → w ≡ limited o z → z ≡ variable l h → l ≡ min x (2 ^ 63)
      → h ≡ both cut_sum a b → w ≡ limited o (variable x (both ◌+◌ a b))
  summed x a b l h p q r t = p ∙ ap (limited o) (q ∙ ap₂ variable r t) ∙ cut_sums x a b

  cut_optional : (h : Option ℕ) → limited o (variable 1 (both cut_sum (some 1) h)) ≡ limited o (variable 1 (both ◌+◌ (some 1) h))
  cut_optional (some h) = cut_bounded 1 (1 + h)
  cut_optional none = refl

  pub one_more : (a : Option ℕ) {w : Worked} {z : Size} (h : Option ℕ) → w ≡ limited o z → z ≡ variable 1 h → h ≡ both cut_sum (some 1) a
      → w ≡ limited o (variable 1 (both ◌+◌ (some 1) a))
  one_more a h p q t = p ∙ ap (limited o) (q ∙ ap (variable 1) t) ∙ cut_optional a

-- a product and the limit, over the factor
module _ (x k : ℕ) where
  pub product_none : k ≡ 0 → 0 ≡ min (x * k) (2 ^ 63)
  product_none e = rw (e, mul-zero)

  pub product_past : ((k ≡ 0) → ⊥) → limit / k < x → 2 ^ 63 ≡ min (x * k) (2 ^ 63)
  product_past p h = sym (min-eq_right ((div-lt_iff_lt-mul (pos_of_ne-zero p)).0 h))

  pub product_within : ((k ≡ 0) → ⊥) → x ≤ limit / k → x * k ≤ limit
  product_within p h = (le-div_iff_mul-le (pos_of_ne-zero p)).0 h

  pub product_same : ((k ≡ 0) → ⊥) → x ≤ limit / k → x * k ≡ min (x * k) (2 ^ 63)
  product_same p h = let w = product_within p h in sym (min-eq_left (omega arith))

-- what `limited` says, by the tests
module _ (o : Operation) {s : Size} where
  pub fixed_over : {b : ℕ} → s ≡ Fixed b → limit < b → Over o ≡ limited o s
  unfolding limited
  fixed_over e h = let t = lt-ltb _ _ h in rw (e, t)

  pub fixed_sized : {b : ℕ} → s ≡ Fixed b → b ≤ limit → Sized (Fixed b) ≡ limited o s
  unfolding limited
  fixed_sized e h = let t = le-ltb _ _ h in rw (e, t)

  pub low_over : {l h : ℕ} → s ≡ Bounded l h → limit < l → Over o ≡ limited o s
  unfolding limited
  low_over e p = let t = lt-ltb _ _ p in rw (e, t)

  pub high_over : {l h : ℕ} → s ≡ Bounded l h → l ≤ limit → limit < h → Over o ≡ limited o s
  unfolding limited
  high_over e p q = let t = le-ltb _ _ p in let u = lt-ltb _ _ q in rw (e, t, u)

  pub bounded_sized : {l h : ℕ} → s ≡ Bounded l h → l ≤ limit → h ≤ limit → Sized (Bounded l h) ≡ limited o s
  unfolding limited
  bounded_sized e p q = let t = le-ltb _ _ p in let u = le-ltb _ _ q in rw (e, t, u)

  pub open_over : {l : ℕ} → s ≡ Open l → limit < l → Over o ≡ limited o s
  unfolding limited
  open_over e h = let t = lt-ltb _ _ h in rw (e, t)

  pub open_sized : {l : ℕ} → s ≡ Open l → l ≤ limit → Sized (Open l) ≡ limited o s
  unfolding limited
  open_sized e h = let t = le-ltb _ _ h in rw (e, t)

-- at most so many elements, by the code's steps
module _ (most : ℕ) {o : Option ℕ} where
  pub up_to_open : o ≡ none → Sized (Open 8) ≡ up_to most o
  up_to_open e = rw e

  module _ {h : ℕ} (e : o ≡ some h) {p : Worked} (times : p ≡ limited_product (multiplied most (Fixed h))) where
    pub up_to_sized : {all : Size} {w : Worked} → p ≡ Sized all → w ≡ limited_sum (Bounded 8 (8 * groups_of most + smallest all)) → w ≡ up_to most o
    unfolding then
    up_to_sized f q = let z = sym times ∙ f in q ∙ rw (e, z)

    pub up_to_over : {by : Operation} → p ≡ Over by → Over by ≡ up_to most o
    unfolding then
    up_to_over f = let z = sym times ∙ f in rw (e, z)
