-- The names that a slot's types hold, in order, as parts: 2 * id + 1 for one that stands bare, 2 * id for one inside another
-- type or a union. An id that is no slot's is passed over.
use Rattle.std.specs.Prelude.{ℕ, ◌+◌, ◌*◌, List, [], ◌∷◌, ◌++◌, Bool, true, false, cond, eqb, ltb}
use Rattle.tree.specs.Tree.{Tree, leaf, wrap, fixed_array, pair, generic, leaf_kind, leaf_number}
use Rattle.slot.specs.Field.{Field}
use Rattle.slot.specs.Slot.{Slot, empty, message, enum, flags, union, newtype, config, alias, trait, impl}

-- those of many things, one after another
unfoldable pub all_of : {A : Type 0} → (A → List ℕ) → List A → List ℕ
all_of f [] = []
all_of f (x ∷ xs) = f x ++ all_of f xs

-- `top` is 1 where the type stands bare
unfoldable pub leaf_names : (kind number top : ℕ) → List ℕ
leaf_names kind number top = cond (eqb kind 3) (cond (ltb number 512) ((number * 2 + top) ∷ []) []) []

unfoldable pub type_names : (top : ℕ) → Tree → List ℕ
type_names top (leaf l) = leaf_names (leaf_kind l) (leaf_number l) top
type_names top (wrap w t) = type_names 0 t
type_names top (fixed_array t n) = type_names 0 t
type_names top (pair p t u) = type_names 0 t ++ type_names 0 u
type_names top (generic n t) = type_names 0 t

abbrev pub field_names : (top : ℕ) → Field → List ℕ
field_names top f = type_names top f.type

abbrev pub variant_names : List Field → List ℕ
variant_names fs = all_of (field_names 0) fs

-- a newtype's inner type stands bare
unfoldable pub slot_names : Slot → List ℕ
slot_names (message m) = all_of (field_names 1) m.fields
slot_names (union u) = all_of variant_names u.variants
slot_names (newtype n) = type_names 1 n.inner
slot_names empty = []
slot_names (enum e) = []
slot_names (flags f) = []
slot_names config = []
slot_names (alias a) = []
slot_names (trait t) = []
slot_names (impl x) = []

abbrev pub is_message : Slot → Bool
is_message (message m) = true
is_message (union u) = false
is_message (newtype n) = false
is_message empty = false
is_message (enum e) = false
is_message (flags f) = false
is_message config = false
is_message (alias a) = false
is_message (trait t) = false
is_message (impl x) = false
