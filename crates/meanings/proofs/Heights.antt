-- Aliases that do not lead back have a height that does not change with the chain counted, and each stands above what its
-- target leads to. Assumes nothing.
use Prim.Native.Nat.{ℕ, zero, suc, max, ◌≤◌, ◌<◌}
use mathlib.Core.Path.{◌≡◌, refl, ap, ap₂}
use native.Mathlib.Omega.{arith}
use lib.ListN.{get_or}
use Rattle.tree.specs.Tree.{Tree, leaf, wrap, fixed_array, pair, generic}
use Rattle.slot.specs.Slot.{Slot, empty, message, enum, flags, union, newtype, config, Alias, alias, trait, impl}
use Rattle.image.specs.Schema.{Schema, slot_of}
use Rattle.meanings.specs.Rank.{height_found, rank, slot_height, height, Ranked, rank_of}

module _ (S : Schema) where
  module _ (h k : ℕ → ℕ) (b : ℕ) (e : (i : ℕ) → h i < b → k i ≡ h i) where
    found_same : (f : ℕ) → height_found h f < b → height_found k f ≡ height_found h f
    found_same zero l = refl
    found_same (suc i) l = e i l

    rank_same : (t : Tree) → rank S h t < b → rank S k t ≡ rank S h t
    unfolding rank
    rank_same (leaf l) q = refl
    rank_same (wrap w t) q = rank_same t q
    rank_same (fixed_array t n) q = rank_same t q
    rank_same (pair p t u) q = ap₂ max (rank_same t (omega arith)) (rank_same u (omega arith))
    rank_same (generic n t) q = ap₂ max (found_same (get_or S.finds n 0) (omega arith)) (rank_same t (omega arith))

    slot_same : (x : Slot) → slot_height S h x < suc b → slot_height S k x ≡ slot_height S h x
    slot_same (alias a) q = ap suc (rank_same a.target (omega arith))
    slot_same empty q = refl
    slot_same (message m) q = refl
    slot_same (enum x) q = refl
    slot_same (flags f) q = refl
    slot_same (union u) q = refl
    slot_same (newtype n) q = refl
    slot_same config q = refl
    slot_same (trait t) q = refl
    slot_same (impl x) q = refl

  -- a chain that ends before the count does
  settled : (chain i : ℕ) → height S chain i < chain → height S (suc chain) i ≡ height S chain i
  unfolding height
  settled zero i h = absurd (omega arith)
  settled (suc chain) i h = slot_same (height S chain) (height S (suc chain)) chain (λ j l. settled chain j l) (slot_of S i) h

  module _ (r : Ranked S) where
    -- a generic stands above the target of the alias that it finds
    pub target_below : (n i : ℕ) (a : Alias) (u : Tree) → get_or S.finds n 0 ≡ suc i → slot_of S i ≡ alias a → rank_of S a.target < rank_of S (generic n u)
    unfolding rank height
    target_below n i a u f q =
        let h : height S 514 i ≡ height S 513 i = settled 513 i (r.ranked i) in
        let g : height S 514 i ≡ suc (rank_of S a.target) = ap (slot_height S (height S 513)) q in
        let k : height_found (height S 513) (get_or S.finds n 0) ≡ height S 513 i = ap (height_found (height S 513)) f in
        omega arith

    -- no more than 512 aliases follow one another
    pub within : (e : Tree) → rank_of S e ≤ 512
    unfolding rank
    within (leaf l) = omega arith
    within (wrap w t) = within t
    within (fixed_array t n) = within t
    within (pair p t u) = omega (arith, within t, within u)
    within (generic n t) = omega (arith, found (get_or S.finds n 0), within t)
      where
        found : (f : ℕ) → height_found (height S 513) f ≤ 512
        found zero = omega arith
        found (suc i) = omega (arith, r.ranked i)

  pub argument_below : (n : ℕ) (u : Tree) → rank_of S u ≤ rank_of S (generic n u)
  unfolding rank
  argument_below n u = omega arith
