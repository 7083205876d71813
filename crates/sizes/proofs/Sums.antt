-- A sum over an order that has each number of a set once is the sum over the set. Assumes nothing.
use mathlib.Core.Path.{◌≡◌, refl, sym, ap, ◌∙◌}
use Prim.Native.Nat.{ℕ, zero, suc, ◌+◌, ◌<◌}
use native.Mathlib.Omega.{arith}
use native.Mathlib.Decide.{ℕ_discrete}
use mathlib.Core.Bool.{Bool, true, false, cond, ◌||◌, or-true}
use mathlib.Core.List.{List}
use mathlib.Core.Logic.{by_cases}
use lib.ListN.{get_or}
use lib.Dec.{eqb}
use borrow.Author.Tests.{eq-eqb, ne_eqb, eqb-true}
use Rattle.graph.specs.Loops.{is_false, not_both}
use Rattle.sizes.specs.Reached.{sum_below}

-- over the first so many of an order
unfoldable pub sum_first : (ℕ → ℕ) → (order : List ℕ) → ℕ → ℕ
sum_first g o zero = 0
sum_first g o (suc k) = sum_first g o k + g (get_or o k 0)

-- ## Sums that differ in one place or none

pub sum_same : (f h : ℕ → ℕ) (n : ℕ) → ((x : ℕ) → x < n → f x ≡ h x) → sum_below f n ≡ sum_below h n
unfolding sum_below
sum_same f h zero e = refl
sum_same f h (suc n) e = omega (arith, e n (omega arith), sum_same f h n (λ x l. e x (omega arith)))

sum_one : (f h : ℕ → ℕ) (y c n : ℕ) → y < n → f y + c ≡ h y → ((x : ℕ) → (x ≡ y → ⊥) → f x ≡ h x) → sum_below f n + c ≡ sum_below h n
unfolding sum_below
sum_one f h y c zero l e d = absurd (omega arith)
sum_one f h y c (suc n) l e d = by_cases (ℕ_discrete n y)
    (λ z. let a : f n + c ≡ h n = rw z e in
    omega (arith, sum_same f h n (λ x m. d x (λ q. omega arith))))
    (λ z. omega (arith, d n z, sum_one f h y c n (omega arith) e d))

pub sum_zero : (n : ℕ) → sum_below (λ x. 0) n ≡ 0
unfolding sum_below
sum_zero zero = refl
sum_zero (suc n) = omega (arith, sum_zero n)

-- ## Over an order

-- is a number one of the first so many
unfoldable among : List ℕ → ℕ → ℕ → Bool
among o zero x = false
among o (suc k) x = eqb (get_or o k 0) x || among o k x

among_is : (o : List ℕ) (m k : ℕ) → k < m → among o m (get_or o k 0) ≡ true
unfolding among
among_is o zero k l = absurd (omega arith)
among_is o (suc m) k l = by_cases (ℕ_discrete m k)
    (λ z. rw (eq-eqb (get_or o m 0) (get_or o k 0) (ap (λ (x : ℕ). get_or o x 0) z)))
    (λ z. rw (among_is o m k (omega arith)) (or-true (eqb (get_or o m 0) (get_or o k 0))))

is_among : (o : List ℕ) (m x : ℕ) → among o m x ≡ true → (k : ℕ) × (k < m) × (get_or o k 0 ≡ x)
unfolding among
is_among o zero x h = absurd (not_both _ h refl)
is_among o (suc m) x h = go (eqb (get_or o m 0) x) refl h (is_among o m x)
  where
    go : (b : Bool) → eqb (get_or o m 0) x ≡ b → (b || among o m x) ≡ true → (among o m x ≡ true → (k : ℕ) × (k < m) × (get_or o k 0 ≡ x))
        → (k : ℕ) × (k < suc m) × (get_or o k 0 ≡ x)
    go true e h' f = (m, omega arith, eqb-true (get_or o m 0) x e)
    go false e h' f = let (k, l, q) = f h' in (k, omega arith, q)

module _ (g : ℕ → ℕ) (p : ℕ → Bool) (o : List ℕ) (m n : ℕ)
    (once : (k l : ℕ) → k < l → l < m → get_or o k 0 ≡ get_or o l 0 → ⊥)
    (below : (k : ℕ) → k < m → get_or o k 0 < n) where
  among_sum : (k : ℕ) → (k < suc m) → sum_first g o k ≡ sum_below (λ x. cond (among o k x) (g x) 0) n
  unfolding sum_first among
  among_sum zero l = sym (sum_zero n)
  among_sum (suc k) l =
      let y = get_or o k 0 in
      let fresh : among o k y ≡ false = is_false (among o k y) (λ h. let (j, a, e) = is_among o k y h in once j k a (omega arith) e) in
      ap (λ (z : ℕ). z + g y) (among_sum k (omega arith))
      ∙ sum_one (λ x. cond (among o k x) (g x) 0) (λ x. cond (eqb y x || among o k x) (g x) 0) y (g y) n (below k (omega arith))
      (rw (fresh, eq-eqb y y refl) (omega arith))
      (λ x d. rw (ne_eqb y x (λ q. d (sym q))))

  pub order_sum : ((x : ℕ) → x < n → p x ≡ true → (k : ℕ) × (k < m) × (get_or o k 0 ≡ x)) → ((k : ℕ) → k < m → p (get_or o k 0) ≡ true)
      → sum_first g o m ≡ sum_below (λ i. cond (p i) (g i) 0) n
  order_sum all only =
      among_sum m (omega arith)
      ∙ sum_same (λ x. cond (among o m x) (g x) 0) (λ x. cond (p x) (g x) 0) n (λ x l. ap (λ (b : Bool). cond b (g x) 0) (same x l (among o m x) refl (p x) refl))
    where
      same : (x : ℕ) → x < n → (a : Bool) → among o m x ≡ a → (b : Bool) → p x ≡ b → among o m x ≡ p x
      same x l true e true f = e ∙ sym f
      same x l false e false f = e ∙ sym f
      same x l true e false f = let (k, d, q) = is_among o m x e in absurd (not_both _ (ap p (sym q) ∙ only k d) f)
      same x l false e true f = let (k, d, q) = all x l f in absurd (not_both _ (ap (among o m) (sym q) ∙ among_is o m k d) e)
