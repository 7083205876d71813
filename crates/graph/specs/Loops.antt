-- What is computed is what a reader thinks of: `via` finds the paths, the answer is the lowest number on a loop, and without
-- loops every chain of nodes ends. Assumes nothing.
use Prim.Native.Nat.{ℕ, zero, suc, ◌+◌, ◌<◌, ◌≤◌}
use Rattle.std.specs.Prelude.{◌≡◌, refl, List, [], ◌∷◌, ◌⊎◌, Bool, false, cond, ◌&&◌, ◌||◌, length, get_or, set, replicate}
use Rattle.std.proofs.Common.{sym, ap, subst, ◌∙◌, inl, inr, true≢false, get_or-set_other}
use Rattle.std.proofs.Math.Logic.{⊎_elim, by_cases}
use Rattle.std.proofs.Math.Bool.{true}
use native.Mathlib.Omega.{arith}
use Rattle.std.proofs.Math.Decide.{dec_lt, ℕ_discrete}
use Rattle.std.proofs.Math.ListN.{length-set}
use Rattle.graph.specs.declared.Lowest.{Lowest}
use Rattle.graph.specs.Ways.{Leads, Path, step, onto, via, lowest, lowest_looped, Ends}

routes : (x y z : Bool) → (x || (y && z)) ≡ true → (x ≡ true) ⊎ ((y ≡ true) × (z ≡ true))
routes true y z h = inl refl
routes false true z h = inr (refl, h)
routes false false z h = inl h

through : (x y z : Bool) → y ≡ true → z ≡ true → (x || (y && z)) ≡ true
through true y z h k = refl
through false y z h k = rw (h, k)

pub is_false : (x : Bool) → (x ≡ true → ⊥) → x ≡ false
is_false true h = absurd (h refl)
is_false false h = refl

pub not_both : (x : Bool) → x ≡ true → x ≡ false → ⊥
not_both x h k = true≢false (sym h ∙ k)

pub lowest_at : (p : ℕ → Bool) (n i x : ℕ) → lowest p n i ≡ Lowest.At x → (p x ≡ true) × ((j : ℕ) → i ≤ j → j < x → p j ≡ false)
unfolding lowest
lowest_at p zero i x h = let z : ◌≡◌ {A = ℕ} 0 1 = cc in absurd (omega arith)
lowest_at p (suc n) i x h = go (p i) refl h (λ k. lowest_at p n (suc i) x k)
  where
    go : (b : Bool) → p i ≡ b → cond b (Lowest.At i) (lowest p n (suc i)) ≡ Lowest.At x
        → (lowest p n (suc i) ≡ Lowest.At x → (p x ≡ true) × ((j : ℕ) → suc i ≤ j → j < x → p j ≡ false))
        → (p x ≡ true) × ((j : ℕ) → i ≤ j → j < x → p j ≡ false)
    go true e h f = let q : i ≡ x = cc in (ap p (sym q) ∙ e, λ j l m. absurd (omega arith))
    go false e h f =
        let r = f h in
        (r.0, λ j l m. by_cases (ℕ_discrete i j) (λ q. ap p (sym q) ∙ e) (λ q. r.1 j (omega arith) m))

pub lowest_none : (p : ℕ → Bool) (n i : ℕ) → lowest p n i ≡ Lowest.Nowhere → (j : ℕ) → i ≤ j → j < i + n → p j ≡ false
unfolding lowest
lowest_none p zero i h j l m = absurd (omega arith)
lowest_none p (suc n) i h j l m = go (p i) refl h (λ k. lowest_none p n (suc i) k j)
  where
    go : (b : Bool) → p i ≡ b → cond b (Lowest.At i) (lowest p n (suc i)) ≡ Lowest.Nowhere
        → (lowest p n (suc i) ≡ Lowest.Nowhere → suc i ≤ j → j < suc i + n → p j ≡ false) → p j ≡ false
    go true e h f = let z : ◌≡◌ {A = ℕ} 0 1 = cc in absurd (omega arith)
    go false e h f = by_cases (ℕ_discrete i j) (λ q. ap p (sym q) ∙ e) (λ q. f h (omega arith) (omega arith))

pub lowest_same : (p q : ℕ → Bool) (n i : ℕ) → ((j : ℕ) → j < i + n → p j ≡ q j) → lowest p n i ≡ lowest q n i
unfolding lowest
lowest_same p q zero i h = refl
lowest_same p q (suc n) i h = rw (h i (omega arith), lowest_same p q n (suc i) (λ j l. h j (omega arith)))

-- the lowest number with P, where a test tells P, and only numbers below n have it
module _ (P : ℕ → Type 0) (p : ℕ → Bool) (n : ℕ) (told : (j : ℕ) → P j → (p j ≡ true) × (j < n)) (holds : (j : ℕ) → p j ≡ true → P j) where
  pub lowest_has : {x : ℕ} → lowest p n 0 ≡ Lowest.At x → P x × ((j : ℕ) → j < x → P j → ⊥)
  lowest_has h =
      let r = lowest_at p n 0 _ h in
      (holds _ r.0, λ j l q. not_both _ (told j q).0 (r.1 j (omega arith) l))

  pub none_has : lowest p n 0 ≡ Lowest.Nowhere → (j : ℕ) → P j → ⊥
  none_has h j q = not_both _ (told j q).0 (lowest_none p n 0 h j (omega arith) (omega (arith, (told j q).1)))

  pub has_lowest : (x : ℕ) → P x → ((j : ℕ) → j < x → P j → ⊥) → lowest p n 0 ≡ Lowest.At x
  has_lowest x q l = go (lowest p n 0) refl
    where
      go : (r : Lowest) → lowest p n 0 ≡ r → r ≡ Lowest.At x
      go (Lowest.At y) h =
          let r = lowest_has h in
          by_cases (dec_lt x y) (λ g. absurd (r.1 x g q))
          (λ g. by_cases (dec_lt y x) (λ f. absurd (l y f r.0)) (λ f. ap Lowest.At (omega arith)))
      go Lowest.Nowhere h = absurd (none_has h x q)

  pub has_none : ((j : ℕ) → P j → ⊥) → lowest p n 0 ≡ Lowest.Nowhere
  has_none l = go (lowest p n 0) refl
    where
      go : (r : Lowest) → lowest p n 0 ≡ r → r ≡ Lowest.Nowhere
      go (Lowest.At y) h = absurd (l y (lowest_has h).0)
      go Lowest.Nowhere h = refl

-- what does not concern the numbers below n does not change the answer
module _ (e e' : Leads) (n : ℕ) (same : (a b : ℕ) → a < n → b < n → e a b ≡ e' a b) where
  pub via_same : (k : ℕ) → k ≤ n → (a b : ℕ) → a < n → b < n → via e k a b ≡ via e' k a b
  unfolding via
  via_same zero l a b p q = same a b p q
  via_same (suc k) l a b p q =
      let t : (x y : ℕ) → x < n → y < n → via e k x y ≡ via e' k x y = via_same k (omega arith) in
      rw (t a b p q, t a k p (omega arith), t k b (omega arith) q)

  pub looped_same : lowest_looped e n ≡ lowest_looped e' n
  looped_same = lowest_same _ _ n 0 (λ j l. via_same n (omega arith) j j (omega arith) (omega arith))

module _ (e : Leads) where
  pub joined : {a b c : ℕ} → Path e a b → Path e b c → Path e a c
  joined (step h) q = onto h q
  joined (onto h p) q = onto h (joined p q)

  ways : (k a b : ℕ) → via e (suc k) a b ≡ true → (via e k a b ≡ true) ⊎ ((via e k a k ≡ true) × (via e k k b ≡ true))
  unfolding via
  ways k a b h = routes (via e k a b) (via e k a k) (via e k k b) h

  pub via_path : (n a b : ℕ) → via e n a b ≡ true → Path e a b
  unfolding via
  via_path zero a b h = step h
  via_path (suc k) a b h =
      ⊎_elim (λ x. via_path k a b x) (λ x. joined (via_path k a k x.0) (via_path k k b x.1)) (ways k a b h)

  via_step : (n a b : ℕ) → e a b ≡ true → via e n a b ≡ true
  unfolding via
  via_step zero a b h = h
  via_step (suc k) a b h = rw (via_step k a b h)

  via_join : (n a k b : ℕ) → k < n → via e n a k ≡ true → via e n k b ≡ true → via e n a b ≡ true
  unfolding via
  via_join zero a k b l p q = absurd (omega arith)
  via_join (suc n) a k b l p q =
      let t : (x y : ℕ) → k < n → via e n x k ≡ true → via e n k y ≡ true → via e n x y ≡ true = λ x y. via_join n x k y in
      let by : via e n a n ≡ true → via e n n b ≡ true → via e (suc n) a b ≡ true
      = λ x y. through (via e n a b) (via e n a n) (via e n n b) x y in
      by_cases (ℕ_discrete k n)
      (λ z. by
      (⊎_elim (λ x. x) (λ x. x.0) (ways n a n (subst (λ (c : ℕ). via e (suc n) a c ≡ true) z p)))
      (⊎_elim (λ x. x) (λ x. x.1) (ways n n b (subst (λ (c : ℕ). via e (suc n) c b ≡ true) z q))))
      (λ z. let m : k < n = omega arith in
      ⊎_elim
      (λ x. ⊎_elim (λ y. rw (t a b m x y)) (λ y. by (t a n m x y.0) y.1) (ways n k b q))
      (λ x. ⊎_elim (λ y. by x.0 (t n b m x.1 y)) (λ y. by x.0 y.1) (ways n k b q))
      (ways n a k p))

  -- every step leaves a number below n
  module _ (n : ℕ) (from : (i j : ℕ) → e i j ≡ true → i < n) where
    starts : {a b : ℕ} → Path e a b → a < n
    starts (step h) = from _ _ h
    starts (onto h p) = from _ _ h

    pub path_via : {a b : ℕ} → Path e a b → via e n a b ≡ true
    path_via (step h) = via_step n _ _ h
    path_via (onto h p) = via_join n _ _ _ (starts p) (via_step n _ _ h) (path_via p)

    back : (j : ℕ) → Path e j j → (via e n j j ≡ true) × (j < n)
    back j p = (path_via p, starts p)

    -- the answer is on a loop, and no lower number is
    pub at_lowest : {x : ℕ} → lowest_looped e n ≡ Lowest.At x → Path e x x × ((j : ℕ) → j < x → Path e j j → ⊥)
    at_lowest = lowest_has (λ i. Path e i i) _ n back (λ j. via_path n j j)

    pub at_none : lowest_looped e n ≡ Lowest.Nowhere → (j : ℕ) → Path e j j → ⊥
    at_none = none_has (λ i. Path e i i) _ n back (λ j. via_path n j j)

    pub is_lowest : (x : ℕ) → Path e x x → ((j : ℕ) → j < x → Path e j j → ⊥) → lowest_looped e n ≡ Lowest.At x
    is_lowest = has_lowest (λ i. Path e i i) _ n back (λ j. via_path n j j)

-- how much the places of a list that are not marked weigh
unfoldable pub weight : List Bool → (ℕ → ℕ) → ℕ
weight [] g = 0
weight (b ∷ w) g = cond b 0 (g 0) + weight w (λ i. g (suc i))

pub spent : (w : List Bool) (g : ℕ → ℕ) (i : ℕ) → i < length w → get_or w i false ≡ false
    → weight (set w i true) g + g i ≡ weight w g
unfolding weight
spent [] g i h e = absurd (omega arith)
spent (b ∷ w) g zero h e = rw e (omega arith)
spent (b ∷ w) g (suc i) h e = omega (arith, spent w (λ k. g (suc k)) i (omega arith) e)

abbrev pub unvisited : List Bool → ℕ
unvisited w = weight w (λ i. 1)

pub unvisited_start : unvisited (replicate 512 false) ≡ 512
unfolding weight
unvisited_start = refl

unmarked : (n x : ℕ) → get_or (replicate n false) x false ≡ true → ⊥
unmarked zero x m = not_both _ m refl
unmarked (suc n) zero m = not_both _ m refl
unmarked (suc n) (suc x) m = unmarked n x m

-- without loops, chains of nodes end
module _ (Node : ℕ → Type 0) (e : Leads) (none : (i : ℕ) → Path e i i → ⊥) where
  onward : (w : List Bool) (i : ℕ) → ((x : ℕ) → get_or w x false ≡ true → Path e x i) → (j : ℕ) → e i j ≡ true
      → (x : ℕ) → get_or (set w i true) x false ≡ true → Path e x j
  onward w i h j l x m =
      by_cases (ℕ_discrete x i) (λ q. subst (λ (y : ℕ). Path e y j) (sym q) (step l))
      (λ q. joined e (h x (sym (get_or-set_other w i x true false q) ∙ m)) (step l))

  -- the marked numbers all lead to i, so i is not marked
  ends : (b : ℕ) (w : List Bool) (i : ℕ) → ((j : ℕ) → Node j → j < length w) → ((x : ℕ) → get_or w x false ≡ true → Path e x i)
      → unvisited w ≤ b → Ends Node e b i
  unfolding Ends
  ends zero w i within h f = λ k.
      let g = spent w (λ x. 1) i (within i k) (is_false (get_or w i false) (λ m. none i (h i m))) in omega arith
  ends (suc b) w i within h f = λ k j l.
      let g = spent w (λ x. 1) i (within i k) (is_false (get_or w i false) (λ m. none i (h i m))) in
      ends b (set w i true) j (λ x n. simp length-set (within x n)) (onward w i h j l) (omega arith)

  pub all_end : ((j : ℕ) → Node j → j < 512) → (i : ℕ) → Ends Node e 512 i
  all_end within i =
      ends 512 (replicate 512 false) i (λ j n. within j n) (λ x m. absurd (unmarked 512 x m)) (omega (arith, unvisited_start))
