-- How many aliases follow one another: what the walk through aliases ends by.
use Rattle.std.specs.Prelude.{ℕ, zero, suc, max, ◌<◌, get_or}
use Rattle.tree.specs.Tree.{Tree, leaf, wrap, fixed_array, pair, generic}
use Rattle.slot.specs.Slot.{Slot, empty, message, enum, flags, union, newtype, config, alias, trait, impl}
use Rattle.image.specs.Schema.{Schema, slot_of}

abbrev pub height_found : (height : ℕ → ℕ) → (found : ℕ) → ℕ
height_found h zero = 0
height_found h (suc i) = h i

-- the greatest height of a slot that a generic of an expression finds
unfoldable pub rank : Schema → (height : ℕ → ℕ) → Tree → ℕ
rank S h (leaf l) = 0
rank S h (wrap w e) = rank S h e
rank S h (fixed_array e n) = rank S h e
rank S h (pair p e f) = max (rank S h e) (rank S h f)
rank S h (generic n e) = max (height_found h (get_or S.finds n 0)) (rank S h e)

-- an alias stands one above those that its target leads to
abbrev pub slot_height : Schema → (height : ℕ → ℕ) → Slot → ℕ
slot_height S h (alias a) = suc (rank S h a.target)
slot_height S h empty = 0
slot_height S h (message m) = 0
slot_height S h (enum e) = 0
slot_height S h (flags f) = 0
slot_height S h (union u) = 0
slot_height S h (newtype n) = 0
slot_height S h config = 0
slot_height S h (trait t) = 0
slot_height S h (impl x) = 0

-- how many aliases follow one another from a slot on, counted to `chain`
unfoldable pub height : Schema → (chain : ℕ) → (slot : ℕ) → ℕ
height S zero i = 0
height S (suc chain) i = slot_height S (height S chain) (slot_of S i)

-- no more of them than there can be slots
pub record Ranked (S : Schema) : Type 0 where
  pub ranked : (i : ℕ) → height S 513 i < 513

abbrev pub rank_of : Schema → Tree → ℕ
rank_of S e = rank S (height S 513) e
