-- Types and type expressions as trees. A kind's number in the image is that of `ResolvedType`; kind 3 of an expression
-- holds a name, and 17 and 18 stand in expressions only.
use Rattle.std.specs.Prelude.{ℕ, List, length}

-- the kinds with one child
pub data Wrap : Type 0 where
  optional array set_of vec2 vec3 vec4 quat mat3 mat4 : Wrap

-- the kinds with two children
pub data Pair : Type 0 where
  map_of result_of : Pair

-- the kinds with no child
pub data Leaf : Type 0 where
  -- the number of a `PrimitiveType`
  primitive : ℕ → Leaf
  sub_byte : (signed bits : ℕ) → Leaf
  -- the number of a `SemanticType`
  semantic : ℕ → Leaf
  -- a slot in a type, a name in an expression
  named : ℕ → Leaf
  bits_inline : (names : List ℕ) → Leaf
  qualified : (name : ℕ) → Leaf

pub data Tree : Type 0 where
  leaf : Leaf → Tree
  wrap : Wrap → Tree → Tree
  fixed_array : Tree → (size : ℕ) → Tree
  pair : Pair → Tree → Tree → Tree
  generic : (name : ℕ) → (argument : Tree) → Tree

abbrev pub wrap_kind : Wrap → ℕ
wrap_kind optional = 4
wrap_kind array = 5
wrap_kind set_of = 7
wrap_kind vec2 = 10
wrap_kind vec3 = 11
wrap_kind vec4 = 12
wrap_kind quat = 13
wrap_kind mat3 = 14
wrap_kind mat4 = 15

abbrev pub pair_kind : Pair → ℕ
pair_kind map_of = 8
pair_kind result_of = 9

abbrev pub leaf_kind : Leaf → ℕ
leaf_kind (primitive p) = 0
leaf_kind (sub_byte g b) = 1
leaf_kind (semantic m) = 2
leaf_kind (named i) = 3
leaf_kind (bits_inline ns) = 16
leaf_kind (qualified n) = 17

-- 1 for a signed sub-byte type, and 0 for the others
abbrev pub leaf_flag : Leaf → ℕ
leaf_flag (primitive p) = 0
leaf_flag (sub_byte g b) = g
leaf_flag (semantic m) = 0
leaf_flag (named i) = 0
leaf_flag (bits_inline ns) = 0
leaf_flag (qualified n) = 0

-- the number that a leaf holds: of a sub-byte type its bits, of an inline bit field how many names
abbrev pub leaf_number : Leaf → ℕ
leaf_number (primitive p) = p
leaf_number (sub_byte g b) = b
leaf_number (semantic m) = m
leaf_number (named i) = i
leaf_number (bits_inline ns) = length ns
leaf_number (qualified n) = n
