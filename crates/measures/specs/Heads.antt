-- The head of a type by its kind and its number, for every kind and number.
use Rattle.std.specs.Prelude.{ℕ, cond, [], ◌∷◌, eqb, get_or, replicate}
use Rattle.tree.specs.Tree.{Leaf, Wrap, primitive, sub_byte, semantic, named, bits_inline, qualified, optional, array, set_of, vec2, vec3, vec4, quat, mat3, mat4}

-- from kind 0 on, and kind 16; a size asks for no sign and no names. No type has another kind without parts
unfoldable pub leaf_of : (kind number : ℕ) → Leaf
leaf_of k v = cond (eqb k 16) (bits_inline (replicate v 0)) (get_or (primitive v ∷ sub_byte 0 v ∷ semantic v ∷ named v ∷ []) k (qualified v))

-- from kind 0 on; what is no kind with one child counts as an array
unfoldable pub wrap_of : (kind : ℕ) → Wrap
wrap_of k =
    get_or
    (array ∷ array ∷ array ∷ array ∷ optional ∷ array ∷ array ∷ set_of ∷ array ∷ array ∷ vec2 ∷ vec3 ∷ vec4 ∷ quat ∷ mat3 ∷ mat4 ∷ [])
    k array
