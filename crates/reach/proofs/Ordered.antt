-- What an order says: exactly the numbers that are reached stand in it, and none of them leads back to itself. Assumes nothing.
use Prim.Native.Nat.{ℕ, zero, suc, ◌+◌, ◌<◌}
use native.Mathlib.Omega.{arith}
use native.Mathlib.Decide.{ℕ_discrete}
use mathlib.Core.Path.{◌≡◌, refl, sym, ap, subst, ◌∙◌}
use mathlib.Core.List.{List}
use mathlib.Core.Logic.{◌⊎◌, inl, inr, by_cases}
use mathlib.Core.Bool.{Bool, true, false, ◌&&◌, ◌||◌, or-true}
use borrow.Author.Tests.{eq-eqb, eqb-true}
use lib.ListN.{get_or}
use lib.Dec.{eqb}
use Rattle.graph.specs.declared.Lowest.{Lowest}
use Rattle.graph.specs.Ways.{Leads, Path, step, onto, via, lowest}
use Rattle.graph.specs.Loops.{via_same, via_path, path_via, lowest_none, lowest_same, is_false, not_both}
use Rattle.reach.specs.Order.{In, Reached, own, led, Arranged, BackFrom}
use Rattle.reach.specs.Back.{any_below, is_from, leading_back}

pub any_same : (p q : ℕ → Bool) (n : ℕ) → ((s : ℕ) → s < n → p s ≡ q s) → any_below p n ≡ any_below q n
unfolding any_below
any_same p q zero h = refl
any_same p q (suc n) h = rw (any_same p q n (λ s b. h s (omega arith)), h n (omega arith))

pub any_at : (p : ℕ → Bool) (n s : ℕ) → s < n → p s ≡ true → any_below p n ≡ true
unfolding any_below
any_at p zero s b h = absurd (omega arith)
any_at p (suc n) s b h =
    by_cases (ℕ_discrete s n) (λ e. rw (subst (λ (x : ℕ). p x ≡ true) e h) (or-true (any_below p n))) (λ e. rw (any_at p n s (omega arith) h))

pub any_some : (p : ℕ → Bool) (n : ℕ) → any_below p n ≡ true → (s : ℕ) × (s < n) × (p s ≡ true)
unfolding any_below
any_some p zero h = absurd (not_both _ h refl)
any_some p (suc n) h = go (any_below p n) refl (p n) refl h (any_some p n)
  where
    lift : (s : ℕ) × (s < n) × (p s ≡ true) → (s : ℕ) × (s < suc n) × (p s ≡ true)
    lift (s, b, q) = (s, omega arith, q)

    go : (x : Bool) → any_below p n ≡ x → (y : Bool) → p n ≡ y → (x || y) ≡ true → (any_below p n ≡ true → (s : ℕ) × (s < n) × (p s ≡ true))
        → (s : ℕ) × (s < suc n) × (p s ≡ true)
    go true d y q z f = lift (f d)
    go false d y q z f = (n, omega arith, q ∙ z)

none_lowest : (p : ℕ → Bool) (n i : ℕ) → ((j : ℕ) → j < i + n → p j ≡ false) → lowest p n i ≡ Lowest.Nowhere
unfolding lowest
none_lowest p zero i h = refl
none_lowest p (suc n) i h = rw (h i (omega arith)) (none_lowest p n (suc i) (λ j b. h j (omega arith)))

pub both : (x y : Bool) → (x && y) ≡ true → (x ≡ true) × (y ≡ true)
both true y h = (refl, h)
both false y h = absurd (not_both _ h refl)

pub either : (x y : Bool) → (x || y) ≡ true → (x ≡ true) ⊎ (y ≡ true)
either true y h = inl refl
either false y h = inr h

-- what does not concern the numbers below n does not change the answer
pub from_same : (e e' : Leads) (n : ℕ) (starts : List Bool) → ((a b : ℕ) → a < n → b < n → e a b ≡ e' a b) → (i : ℕ) → i < n
    → is_from e n starts i ≡ is_from e' n starts i
unfolding is_from
from_same e e' n starts same i b =
    any_same _ _ n (λ s q. rw (via_same e e' n same n (omega arith) s i q b))

pub back_same : (e e' : Leads) (n : ℕ) (starts : List Bool) → ((a b : ℕ) → a < n → b < n → e a b ≡ e' a b)
    → leading_back e n starts ≡ leading_back e' n starts
unfolding leading_back
back_same e e' n starts same =
    lowest_same _ _ n 0
    (λ j b. let c : j < n = omega arith in rw (from_same e e' n starts same j c, via_same e e' n same n (omega arith) j j c c))

module _ (e : Leads) (n : ℕ) (starts : List Bool) (low : (a b : ℕ) → e a b ≡ true → (a < n) × (b < n)) where
  from_start : (i : ℕ) → is_from e n starts i ≡ true → (s : ℕ) × (s < n) × (get_or starts s false ≡ true) × Reached e s i
  unfolding is_from
  from_start i h = found (any_some _ n h)
    where
      way : (s : ℕ) → (eqb s i ≡ true) ⊎ (via e n s i ≡ true) → Reached e s i
      way s (inl q) = rw (eqb-true s i q) own
      way s (inr q) = led (via_path e n s i q)

      found : (s : ℕ) × (s < n) × ((get_or starts s false && (eqb s i || via e n s i)) ≡ true)
          → (s : ℕ) × (s < n) × (get_or starts s false ≡ true) × Reached e s i
      found (s, b, q) = let r = both (get_or starts s false) _ q in (s, b, r.0, way s (either (eqb s i) (via e n s i) r.1))

  pub start_from : (i s : ℕ) → s < n → get_or starts s false ≡ true → Reached e s i → is_from e n starts i ≡ true
  unfolding is_from
  start_from i s b h r = any_at _ n s b (rw h (here i r))
    where
      here : (x : ℕ) → Reached e s x → (eqb s x || via e n s x) ≡ true
      here x own = rw (eq-eqb s s refl)
      here x (led p) = rw (path_via e n (λ y z q. (low y z q).0) p) (or-true (eqb s x))

  module _ (order : List ℕ) (m : ℕ) (g : Arranged e n starts order m) where
    -- what a number leads to stands before it
    before : (k : ℕ) → k < m → {x y : ℕ} → get_or order k 0 ≡ x → Path e x y → In order k y
    before k b {y = y} q (step h) = g.earlier k y b (ap (λ (z : ℕ). e z y) q ∙ h)
    before k b {y = y} q (onto {j = j} h p) =
        on (g.earlier k j b (ap (λ (z : ℕ). e z j) q ∙ h)) (λ k' c r. before k' (omega arith) r p)
      where
        wider : (k' : ℕ) → k' < k → In order k' y → In order k y
        wider k' c (l, d, r) = (l, omega arith, r)

        on : In order k j → ((k' : ℕ) → k' < k → get_or order k' 0 ≡ j → In order k' y) → In order k y
        on (k', c, r) f = wider k' c (f k' c r)

    reached_in : (s x : ℕ) → In order m s → Reached e s x → In order m x
    reached_in s x i own = i
    reached_in s x i (led p) = go i
      where
        wider : (k : ℕ) → k < m → In order k x → In order m x
        wider k b (l, d, r) = (l, omega arith, r)

        go : In order m s → In order m x
        go (k, b, q) = wider k b (before k b q p)

    -- exactly the reached numbers are in order
    pub in_order : (x : ℕ) → is_from e n starts x ≡ true → In order m x
    in_order x h = go (from_start x h)
      where
        go : (s : ℕ) × (s < n) × (get_or starts s false ≡ true) × Reached e s x → In order m x
        go (s, b, q, r) = reached_in s x (g.all s b q) r

    pub order_reached : (k : ℕ) → k < m → is_from e n starts (get_or order k 0) ≡ true
    order_reached k b = go (g.from k b)
      where
        go : (s : ℕ) × (s < n) × (get_or starts s false ≡ true) × Reached e s (get_or order k 0) → is_from e n starts (get_or order k 0) ≡ true
        go (s, c, q, r) = start_from (get_or order k 0) s c q r

    -- and none of them leads back to itself
    pub none_back : leading_back e n starts ≡ Lowest.Nowhere
    unfolding leading_back
    none_back = none_lowest _ n 0 (λ j b. is_false _ (λ h. let r = both _ _ h in loop j (in_order j r.0) (via_path e n j j r.1)))
      where
        twice : (k l : ℕ) → k < m → l < k → get_or order l 0 ≡ get_or order k 0 → ⊥
        twice k l b c q = g.once l k c b q

        loop : (j : ℕ) → In order m j → Path e j j → ⊥
        loop j (k, b, q) p = again (before k b q p)
          where
            again : In order k j → ⊥
            again (l, c, r) = twice k l b c (r ∙ sym q)

  -- a number that was met again is one
  pub some_back : (j : ℕ) → BackFrom e n starts j → leading_back e n starts ≡ Lowest.Nowhere → ⊥
  unfolding leading_back
  some_back j (s, b, q, l) h =
      not_both (is_from e n starts j && via e n j j)
      (rw (start_from j s b q l.from, path_via e n (λ x y q. (low x y q).0) l.back))
      (lowest_none _ n 0 h j (omega arith) (omega (arith, l.below)))
