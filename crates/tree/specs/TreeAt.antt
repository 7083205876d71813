-- A type or an expression in the image: its kind, then what the kind holds, children inline, 32 levels at most.
use Rattle.std.specs.Prelude.{ℕ, ◌^◌, List, [], ◌∷◌, get_or}
use Rattle.number.specs.Grammar.{Role, kind, name, slot, value, Grammar, give, refuse, ◌>>=◌, number, here, counted, nested, Outcome, done, refused}
use Rattle.tree.specs.Tree.{Tree, Leaf, Wrap, Pair, leaf, primitive, sub_byte, semantic, named, wrap, fixed_array, pair, bits_inline, qualified, optional, array, set_of, map_of, result_of, vec2, vec3, vec4, quat, mat3, mat4, generic, wrap_kind, pair_kind, leaf_kind, leaf_flag, leaf_number}
use Rattle.tree.specs.declared.Sort.{Sort}
use Rattle.tree.specs.declared.Sort.TheVariants.{Resolved, Expression}
use Rattle.tree.specs.declared.Head.{Head}

-- kinds 0 to 16, and in expressions 17 and 18 besides
abbrev pub kinds_of : Sort → ℕ
kinds_of Resolved = 17
kinds_of Expression = 19

-- kind 3 holds a slot in a type, and a name in an expression
abbrev pub id_role : Sort → Role
id_role Resolved = slot
id_role Expression = name

abbrev pub ids_of : Sort → (names : ℕ) → ℕ
ids_of Resolved names = 2 ^ 32
ids_of Expression names = names

-- what stands in front of a tree's children, and which children follow
pub data Node : Type 0 where
  -- no child
  none : Leaf → Node
  -- one child
  one : Wrap → Node
  -- two children
  two : Pair → Node
  -- an element, and then a size
  sized : Node
  -- a generic's name, and then its argument
  applied : ℕ → Node

-- a sub-byte type: signed or not, and its bits
unfoldable pub sub_byte_at : Grammar Node
sub_byte_at = do
  g ← number value 2
  b ← number value 256
  give (none (sub_byte g b))

-- an inline bit field: the count of its names, and the names
unfoldable pub bits_at : (names : ℕ) → Grammar Node
bits_at names = do
  ns ← counted (number name names)
  give (none (bits_inline ns))

unfoldable pub generic_at : (names : ℕ) → Grammar Node
generic_at names = do
  n ← number name names
  give (applied n)

-- a kind that holds one number
abbrev pub plain_at : Role → (limit : ℕ) → (ℕ → Leaf) → Grammar Node
plain_at role limit f = do
  v ← number role limit
  give (none (f v))

-- no kind
abbrev pub no_kind : {A : Type 0} → Grammar A
no_kind = do
  at ← here
  refuse 4 at

-- what each kind holds, from kind 0 on
abbrev pub kind_table : Sort → (names : ℕ) → List (Grammar Node)
kind_table sort names =
    plain_at value 14 primitive
    ∷ sub_byte_at
    ∷ plain_at value 6 semantic
    ∷ plain_at (id_role sort) (ids_of sort names) named
    ∷ give (one optional)
    ∷ give (one array)
    ∷ give sized
    ∷ give (one set_of)
    ∷ give (two map_of)
    ∷ give (two result_of)
    ∷ give (one vec2)
    ∷ give (one vec3)
    ∷ give (one vec4)
    ∷ give (one quat)
    ∷ give (one mat3)
    ∷ give (one mat4)
    ∷ bits_at names
    ∷ plain_at name names qualified
    ∷ generic_at names
    ∷ []

unfoldable pub body_at : Sort → (names k : ℕ) → Grammar Node
body_at sort names k = get_or (kind_table sort names) k no_kind

-- a kind with what it holds in front of its children
unfoldable pub head_at : Sort → (names : ℕ) → Grammar Node
head_at sort names = do
  k ← number kind (kinds_of sort)
  body_at sort names k

-- the children
unfoldable pub fill : Grammar Tree → Node → Grammar Tree
fill child (none l) = give (leaf l)
fill child (one w) = do
  t ← child
  give (wrap w t)
fill child (two p) = do
  t ← child
  u ← child
  give (pair p t u)
fill child sized = do
  t ← child
  n ← number value (2 ^ 64)
  give (fixed_array t n)
fill child (applied n) = do
  t ← child
  give (generic n t)

-- a tree of `levels` levels at most
unfoldable pub tree_at : Sort → (names levels : ℕ) → Grammar Tree
tree_at sort names levels = nested (kinds_of sort) (head_at sort names) fill levels

-- what the code's answer says of a head
abbrev pub shape : Outcome Node → Head
shape (done (none l) n) = Head.Leaf (leaf_kind l) (leaf_flag l) (leaf_number l) n
shape (done (one w) n) = Head.One (wrap_kind w) n
shape (done (two p) n) = Head.Two (pair_kind p) n
shape (done sized n) = Head.Sized n
shape (done (applied v) n) = Head.Generic v n
shape (refused r p) = Head.Refused r p

-- the head of a kind that holds one number
abbrev pub plain_head : (k flag : ℕ) → Outcome ℕ → Head
plain_head k flag (done v n) = Head.Leaf k flag v n
plain_head k flag (refused r p) = Head.Refused r p
