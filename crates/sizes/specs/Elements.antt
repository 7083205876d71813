-- How many values of its parts' types a type holds, and which elements a field's limit bears on.
use Rattle.std.specs.Prelude.{ℕ, zero, suc, Bool, true, false, cond}
use Rattle.std.proofs.Math.Option.{Option, none, some}
use Rattle.tree.specs.Tree.{Tree, Wrap, leaf, wrap, fixed_array, pair, generic, optional, array, set_of, vec2, vec3, vec4, quat, mat3, mat4, map_of, result_of}
use Rattle.tree.specs.Encoding.{Encoding, default, varint, zig_zag, delta}
use Rattle.slot.specs.Field.{Field}

-- how many values of its child's type a kind with one child holds
pub data Count : Type 0 where
  -- Optional
  at_most_one : Count
  -- Array, Set
  any_number : Count
  -- vectors, quaternions and matrices
  exactly : ℕ → Count

abbrev pub count_of : Wrap → Count
count_of optional = at_most_one
count_of array = any_number
count_of set_of = any_number
count_of vec2 = exactly 2
count_of vec3 = exactly 3
count_of vec4 = exactly 4
count_of quat = exactly 4
count_of mat3 = exactly 9
count_of mat4 = exactly 16

-- what a type holds any number of: an item of an array or a set, or a map's key and value
pub data Element : Type 0 where
  item : Tree → Element
  entry : (key value : Tree) → Element

abbrev pub wrap_element : Count → Tree → Option Element
wrap_element at_most_one t = none
wrap_element any_number t = some (item t)
wrap_element (exactly k) t = none

-- of the type itself, not of its parts
abbrev pub element_of : Tree → Option Element
element_of (leaf l) = none
element_of (wrap w t) = wrap_element (count_of w) t
element_of (fixed_array t k) = none
element_of (pair map_of t u) = some (entry t u)
element_of (pair result_of t u) = none
element_of (generic n t) = none

-- Default, or Delta down to Default
abbrev pub is_plain : Encoding → Bool
is_plain default = true
is_plain varint = false
is_plain zig_zag = false
is_plain (delta e) = is_plain e

-- 0 is no limit
abbrev pub with_limit : (limit : ℕ) → Option Element → Option Element
with_limit zero e = none
with_limit (suc n) e = e

-- what a field's limit bears on; edition one has no limits
unfoldable pub limited_element : Field → Option Element
limited_element f = cond (is_plain f.encoding) (with_limit f.limit (element_of f.type)) none
