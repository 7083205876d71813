-- Schemas in which no slot leads back to itself by bare names: those of a message's fields, and a newtype's inner type. There no
-- message holds itself, in whatever order the slots stand.
use Rattle.std.specs.Prelude.{ℕ, List, [], ◌∷◌, ◌++◌, Bool, true, false, length}
use Rattle.tree.specs.Tree.{Tree, leaf, wrap, fixed_array, pair, generic}
use Rattle.slot.specs.Field.{Field}
use Rattle.slot.specs.Slot.{Slot, empty, message, enum, flags, union, newtype, config, alias, trait, impl}
use Rattle.graph.specs.Ways.{Leads, lowest_looped, has}
use Rattle.graph.specs.declared.Lowest.{Lowest}
use Rattle.image.specs.Schema.{Schema, slot_of}
use Rattle.loops.specs.Leads.{leaf_slots}

-- the bare name that a type is, if it is one
unfoldable pub type_names : Tree → List ℕ
type_names (leaf l) = leaf_slots l
type_names (wrap w t) = []
type_names (fixed_array t n) = []
type_names (pair p t u) = []
type_names (generic n t) = []

-- whatever the fields' encodings
unfoldable pub fields_names : List Field → List ℕ
fields_names [] = []
fields_names (f ∷ fs) = type_names f.type ++ fields_names fs

unfoldable pub bare_names : Slot → List ℕ
bare_names (message m) = fields_names m.fields
bare_names (newtype n) = type_names n.inner
bare_names empty = []
bare_names (enum e) = []
bare_names (flags f) = []
bare_names (union u) = []
bare_names config = []
bare_names (alias a) = []
bare_names (trait t) = []
bare_names (impl x) = []

unfoldable pub bare_leads : Schema → Leads
bare_leads S i j = has j (bare_names (slot_of S i))

abbrev pub is_nowhere : Lowest → Bool
is_nowhere (Lowest.At i) = false
is_nowhere Lowest.Nowhere = true

-- no slot leads back to itself
unfoldable pub is_free : Schema → Bool
is_free S = is_nowhere (lowest_looped (bare_leads S) (length S.slots))
