-- How many nodes of types working a slot out meets, each name being a node and not what it stands for: what a size does not
-- need, such as the elements of an array without limit, is not met.
use Rattle.std.specs.Prelude.{ℕ, suc, ◌+◌, List, [], ◌∷◌}
use Rattle.std.proofs.Math.Option.{Option, none, some}
use Rattle.tree.specs.Tree.{Tree, leaf, wrap, fixed_array, pair, generic, map_of, result_of}
use Rattle.tree.specs.Encoding.{Encoding, default, varint, zig_zag, delta}
use Rattle.slot.specs.Field.{Field}
use Rattle.sizes.specs.Elements.{Count, at_most_one, any_number, exactly, count_of, Element, item, entry, limited_element}
use Rattle.sizes.specs.Names.{Content, fields, variants, bits, terminal, anything}

abbrev pub wrap_nodes : Count → (child : ℕ) → ℕ
wrap_nodes at_most_one child = child
wrap_nodes any_number child = 0
wrap_nodes (exactly k) child = child

-- the element of a fixed array counts once, whatever the array's size
unfoldable pub type_nodes : Tree → ℕ
type_nodes (leaf l) = 1
type_nodes (wrap w t) = suc (wrap_nodes (count_of w) (type_nodes t))
type_nodes (fixed_array t k) = suc (type_nodes t)
type_nodes (pair map_of t u) = 1
type_nodes (pair result_of t u) = suc (type_nodes t + type_nodes u)
type_nodes (generic n t) = 1

-- a Varint or ZigZag field is one node
unfoldable pub encoded_nodes : Encoding → Tree → ℕ
encoded_nodes default t = type_nodes t
encoded_nodes varint t = 1
encoded_nodes zig_zag t = 1
encoded_nodes (delta e) t = encoded_nodes e t

unfoldable pub element_nodes : Element → ℕ
element_nodes (item t) = type_nodes t
element_nodes (entry t u) = type_nodes t + type_nodes u

-- where a limit bears on elements, the type's own node and theirs
unfoldable pub own_nodes : Option Element → (otherwise : ℕ) → ℕ
own_nodes none otherwise = otherwise
own_nodes (some e) otherwise = suc (element_nodes e)

abbrev pub field_nodes : Field → ℕ
field_nodes f = own_nodes (limited_element f) (encoded_nodes f.encoding f.type)

unfoldable pub fields_nodes : List Field → ℕ
fields_nodes [] = 0
fields_nodes (f ∷ fs) = field_nodes f + fields_nodes fs

unfoldable pub variants_nodes : List (List Field) → ℕ
variants_nodes [] = 0
variants_nodes (v ∷ vs) = fields_nodes v + variants_nodes vs

unfoldable pub content_nodes : Content → ℕ
content_nodes (fields fs) = fields_nodes fs
content_nodes (variants vs) = variants_nodes vs
content_nodes (bits b) = 0
content_nodes (terminal t) = type_nodes t
content_nodes anything = 0
