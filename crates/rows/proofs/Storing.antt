-- The lowest slot that brings a size, by the code's steps. Assumes nothing.
use Prim.Native.Nat.{ℕ, ◌+◌, ◌-◌, ◌≤◌, ◌<◌}
use mathlib.Core.Path.{◌≡◌, sym, ◌∙◌}
use mathlib.Core.Bool.{true, false}
use native.Mathlib.Omega.{arith}
use lib.ListN.{length}
use Rattle.graph.specs.Ways.{lowest}
use Rattle.graph.specs.declared.Lowest.{Lowest}
use Rattle.graph.proofs.Rows.{low_at, low_next, low_none}
use Rattle.image.specs.Schema.{Schema}
use Rattle.sizes.specs.Check.{is_there, brought, stored_slot}

-- no slot below i brings one
abbrev pub Left : Schema → (count i : ℕ) → Type 0
Left S count i = stored_slot S ≡ lowest (λ j. is_there (brought S j)) (count - i) i

module _ (S : Schema) (count : ℕ) where
  pub none_yet : length S.slots ≡ count → Left S count 0
  unfolding stored_slot
  none_yet e = let z : count - 0 ≡ count = omega arith in rw (e, z)

  module _ (i : ℕ) (l : Left S count i) where
    pub found_here : i < count → is_there (brought S i) ≡ true → Lowest.At i ≡ stored_slot S
    found_here h e = sym (l ∙ low_at _ count i h e)

    pub not_here : i < count → is_there (brought S i) ≡ false → Left S count (i + 1)
    not_here h e = l ∙ low_next _ count i h e

    pub nowhere : count ≤ i → Lowest.Nowhere ≡ stored_slot S
    nowhere h = sym (l ∙ low_none _ count i h)
