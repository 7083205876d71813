-- Whether the slots of a schema stand in an order: each bare name of a message's field or of a newtype leads to a slot
-- before its own, or each to one after it. Where they do, no message holds itself.
use Rattle.std.specs.Prelude.{ℕ, suc, ◌-◌, List, [], ◌∷◌, Bool, true, false, cond, ◌||◌, ltb}
use Rattle.tree.specs.Tree.{Tree, Leaf, leaf, wrap, fixed_array, pair, generic, primitive, sub_byte, semantic, named, bits_inline, qualified}
use Rattle.slot.specs.Field.{Field}
use Rattle.slot.specs.Slot.{Slot, empty, message, enum, flags, union, newtype, config, alias, trait, impl}
use Rattle.image.specs.Schema.{Schema, slot_of}

-- the slots that hold names bare: messages in their fields, newtypes as their inner types
abbrev pub holds_bare : Slot → Bool
holds_bare (message m) = true
holds_bare (newtype n) = true
holds_bare empty = false
holds_bare (enum e) = false
holds_bare (flags f) = false
holds_bare (union u) = false
holds_bare config = false
holds_bare (alias a) = false
holds_bare (trait t) = false
holds_bare (impl x) = false

-- a slot's place in the order; `up` if names lead to later slots
unfoldable pub rank : (up : Bool) → (slot : ℕ) → ℕ
rank false i = i
rank true i = 512 - i

-- a name in a slot leads to one of lower rank, or to one that holds no name bare
unfoldable pub leads_on : (up : Bool) → Schema → (slot name : ℕ) → Bool
leads_on up S i j = cond (holds_bare (slot_of S j)) (ltb (rank up j) (rank up i)) true

-- a test of the bare name that a type is, if it is one
unfoldable pub bare_leaf : (ℕ → Bool) → Leaf → Bool
bare_leaf test (named j) = test j
bare_leaf test (primitive p) = true
bare_leaf test (sub_byte g b) = true
bare_leaf test (semantic m) = true
bare_leaf test (bits_inline ns) = true
bare_leaf test (qualified n) = true

unfoldable pub bare_type : (ℕ → Bool) → Tree → Bool
bare_type test (leaf l) = bare_leaf test l
bare_type test (wrap w t) = true
bare_type test (fixed_array t n) = true
bare_type test (pair p t u) = true
bare_type test (generic n t) = true

unfoldable pub bare_fields : (ℕ → Bool) → List Field → Bool
bare_fields test [] = true
bare_fields test (f ∷ fs) = cond (bare_type test f.type) (bare_fields test fs) false

unfoldable pub bare_slot : (ℕ → Bool) → Slot → Bool
bare_slot test (message m) = bare_fields test m.fields
bare_slot test (newtype n) = bare_type test n.inner
bare_slot test empty = true
bare_slot test (enum e) = true
bare_slot test (flags f) = true
bare_slot test (union u) = true
bare_slot test config = true
bare_slot test (alias a) = true
bare_slot test (trait t) = true
bare_slot test (impl x) = true

-- slots from `i` on
unfoldable pub in_order : (up : Bool) → Schema → (i : ℕ) → List Slot → Bool
in_order up S i [] = true
in_order up S i (x ∷ xs) = cond (bare_slot (leads_on up S i) x) (in_order up S (suc i) xs) false

unfoldable pub ordered : (up : Bool) → Schema → Bool
ordered up S = in_order up S 0 S.slots

-- in one of the two directions
unfoldable pub is_ordered : Schema → Bool
is_ordered S = ordered false S || ordered true S
