-- Refusals 8 and 9: to which slots a slot leads, and the lowest slot on a loop.
use Rattle.std.specs.Prelude.{ℕ, zero, suc, List, [], ◌∷◌, ◌++◌, Bool, true, false, cond, get_or}
use Rattle.tree.specs.Tree.{Tree, Leaf, Wrap, Pair, leaf, wrap, fixed_array, pair, generic, primitive, sub_byte, semantic, named, bits_inline, qualified, optional, array, set_of, vec2, vec3, vec4, quat, mat3, mat4, map_of, result_of}
use Rattle.tree.specs.declared.Sort.{Sort}
use Rattle.tree.specs.declared.Sort.TheVariants.{Resolved, Expression}
use Rattle.slot.specs.Slot.{Slot, empty, message, enum, flags, union, newtype, config, alias, trait, impl}
use Rattle.graph.specs.Ways.{Leads, lowest_looped, has}
use Rattle.graph.specs.declared.Lowest.{Lowest}

-- element types of Array and Set are not followed
abbrev pub followed : Wrap → Bool
followed optional = true
followed array = false
followed set_of = false
followed vec2 = true
followed vec3 = true
followed vec4 = true
followed quat = true
followed mat3 = true
followed mat4 = true

-- nor are those of Map
abbrev pub followed_pair : Pair → Bool
followed_pair map_of = false
followed_pair result_of = true

-- the slot that a leaf of a type names
abbrev pub leaf_slots : Leaf → List ℕ
leaf_slots (primitive p) = []
leaf_slots (sub_byte g b) = []
leaf_slots (semantic m) = []
leaf_slots (named i) = i ∷ []
leaf_slots (bits_inline ns) = []
leaf_slots (qualified n) = []

-- the slots that a type names, elements of Array, Map and Set left out (no type holds a generic)
unfoldable pub terminal_slots : Tree → List ℕ
terminal_slots (leaf l) = leaf_slots l
terminal_slots (wrap w t) = cond (followed w) (terminal_slots t) []
terminal_slots (fixed_array t n) = terminal_slots t
terminal_slots (pair p t u) = cond (followed_pair p) (terminal_slots t ++ terminal_slots u) []
terminal_slots (generic n t) = terminal_slots t

-- what a name finds: 0 is no slot, else it is slot + 1
abbrev pub found : ℕ → List ℕ
found zero = []
found (suc i) = i ∷ []

-- the slots that the generics of an expression find, wherever they stand in it
unfoldable pub generic_slots : (finds : List ℕ) → Tree → List ℕ
generic_slots finds (leaf l) = []
generic_slots finds (wrap w t) = generic_slots finds t
generic_slots finds (fixed_array t n) = generic_slots finds t
generic_slots finds (pair p t u) = generic_slots finds t ++ generic_slots finds u
generic_slots finds (generic n t) = found (get_or finds n 0) ++ generic_slots finds t

-- types lead to the slots that they name, expressions to those that their generics find
unfoldable pub tree_slots : Sort → (finds : List ℕ) → Tree → List ℕ
tree_slots Resolved finds t = terminal_slots t
tree_slots Expression finds t = generic_slots finds t

-- refusal 8, for types: a newtype leads on by its terminal type. Refusal 9, for expressions: an alias does by its target
unfoldable pub slot_leads : Sort → (finds : List ℕ) → Slot → List ℕ
slot_leads sort finds empty = []
slot_leads sort finds (message m) = []
slot_leads sort finds (enum e) = []
slot_leads sort finds (flags f) = []
slot_leads sort finds (union u) = []
slot_leads Resolved finds (newtype n) = terminal_slots n.terminal
slot_leads Expression finds (newtype n) = []
slot_leads sort finds config = []
slot_leads Resolved finds (alias a) = []
slot_leads Expression finds (alias a) = generic_slots finds a.target
slot_leads sort finds (trait t) = []
slot_leads sort finds (impl i) = []

unfoldable pub leads : Sort → (finds : List ℕ) → (slots : ℕ → Slot) → Leads
leads sort finds slots i j = has j (slot_leads sort finds (slots i))

-- the lowest of the first `count` slots that leads back to itself
unfoldable pub loop_of : Sort → (finds : List ℕ) → (slots : ℕ → Slot) → (count : ℕ) → Lowest
loop_of sort finds slots count = lowest_looped (leads sort finds slots) count
