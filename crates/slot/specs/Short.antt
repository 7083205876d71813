-- Fields of four bytes up to their limit: name, encoding, kind and number, a byte each. Most fields are such.
use Rattle.std.specs.Prelude.{ℕ, ◌+◌, List, [], ◌∷◌, cond, ltb, length, get_or}
use Rattle.tree.specs.Tree.{leaf}
use Rattle.tree.specs.Short.{short_limit, short_leaf}
use Rattle.tree.specs.Encoding.{Encoding, default, varint, zig_zag}
use Rattle.slot.specs.Field.{Field}
use Rattle.slot.specs.declared.Short.{Short}

unfoldable pub short_of : (name encoding kind number : ℕ) → (names : ℕ) → Short
short_of n e k v names =
    cond (ltb n 128)
    (cond (ltb n names) (cond (ltb e 3) (cond (ltb v (short_limit k)) (Short.Is e k v) Short.Other) Short.Other) Short.Other)
    Short.Other

unfoldable pub short_at : (names : ℕ) → List ℕ → (at : ℕ) → Short
short_at names s at = cond (ltb (length s) (at + 4)) Short.Other (short_of (get_or s at 0) (get_or s (at + 1) 0) (get_or s (at + 2) 0) (get_or s (at + 3) 0) names)

-- the encoding and the type of such a field; a limit follows the four bytes
abbrev pub short_encoding : ℕ → Encoding
short_encoding e = get_or (default ∷ varint ∷ zig_zag ∷ []) e default

abbrev pub short_field : (name encoding kind number limit : ℕ) → Field
short_field n e k v l = record { field_name = n; encoding = short_encoding e; type = leaf (short_leaf k v); limit = l }
