-- The ten starred lines of the bench sheet: one table, one theorem.
use Rattle.std.specs.Prelude.{◌≡◌, refl, ℕ, List, [], ◌∷◌, ◌++◌, map}
use Rattle.tree.specs.Tree.{wrap, fixed_array, pair, optional, vec3, result_of}
use Rattle.image.specs.Schema.{Schema, slot_of}
use Rattle.sizes.specs.Widths.{highest, top_of, digits, bit_length, ordinal_bits, enum_bits, bytes_to, flags_bytes, has, enum_bits_at, flags_bytes_at}
use Rattle.sizes.specs.declared.Layout.TheVariants.{Packed}
use Rattle.sizes.specs.Elements.{limited_element}
use Rattle.sizes.specs.Sizes.{limited, then, primitive_bits, semantic_bits, leaf_size, wrap_size, type_size, varint_end, zig_zag_end, encoded_size, elements_size, field_size, add_fields, add_variants, union_size}
use Rattle.sizes.specs.Names.{content_in, content_of, content_size, name_rule, name_within, name_size}
use Rattle.sizes.specs.Check.{brought, body_size, own_size, store, storing, turn, onward, turns, check_sizes, row, slot_row, rows_from, table_of}
use Rattle.sizes.specs.Examples.{all, of, each, a_union, an_enum, some_flags, bool, u8, u32, slot, Answer, table, answer_of}
use Rattle.findings.specs.Finding.{rows_of}
use Rattle.findings.specs.Endless.{counted, entered, left, walk_leaf, walk_type, walk_fields, walk_variants, walk_slot, walk_name, start, endless_in, endless_of}
use Rattle.findings.specs.Conformance.{conformance_of}
use Rattle.findings.specs.Findings.{findings_of}

-- a schema, the answer on its sizes, and the six numbers of each finding
pub record Line : Type 0 where
  pub of : Schema
  pub sizes : Answer
  pub found : List ℕ

-- what the check gives
abbrev pub checked : Schema → Line
checked S = record { of = S; sizes = answer_of S (check_sizes Packed S); found = rows_of (findings_of S) }

abbrev shows : Schema → List ℕ → Line
shows S t = record { of = S; sizes = table t; found = [] }

abbrev finds : Schema → List ℕ → List ℕ → Line
finds S t f = record { of = S; sizes = table t; found = f }

-- the starred lines, in their order
abbrev pub starred : List Line
starred =
    shows (all (an_enum 1 (255 ∷ []) ∷ an_enum 1 (256 ∷ []) ∷ [])) (row 4 8 0 ++ row 4 9 0)
    ∷ shows (all (an_enum 0 [] ∷ [])) (row 4 1 0)
    ∷ shows (all (some_flags (7 ∷ []) ∷ some_flags (8 ∷ []) ∷ [])) (row 5 1 0 ++ row 5 2 0)
    ∷ shows (all (some_flags (31 ∷ []) ∷ some_flags (32 ∷ []) ∷ [])) (row 5 4 0 ++ row 5 8 0)
    ∷ shows (all (of (wrap optional u32 ∷ []) ∷ [])) (row 2 1 33)
    ∷ shows (all (of (pair result_of u8 u32 ∷ []) ∷ [])) (row 2 9 33)
    ∷ shows (all (of (fixed_array (wrap optional bool) 3 ∷ []) ∷ of (wrap vec3 (wrap optional bool) ∷ []) ∷ []))
    (row 3 3 0 ++ row 2 3 6)
    ∷ shows (all (a_union (each (u8 ∷ []) ∷ each (u32 ∷ []) ∷ []) ∷ [])) (row 2 16 40)
    ∷ finds (all (of (slot 0 ∷ []) ∷ [])) (row 3 0 0) (1 ∷ 0 ∷ 0 ∷ 0 ∷ 0 ∷ 0 ∷ [])
    ∷ shows (all (of (wrap optional (slot 1) ∷ slot 1 ∷ []) ∷ of (wrap optional (slot 0) ∷ slot 0 ∷ []) ∷ []))
    (row 3 2 0 ++ row 3 3 0)
    ∷ []

pub starred_hold : map (λ l. checked l.of) starred ≡ starred
unfolding check_sizes turns turn onward own_size body_size storing store brought name_size name_within name_rule content_size content_of content_in slot_of type_size leaf_size wrap_size then limited primitive_bits semantic_bits varint_end zig_zag_end encoded_size limited_element elements_size field_size add_fields add_variants union_size table_of rows_from slot_row enum_bits_at flags_bytes_at enum_bits flags_bytes ordinal_bits top_of bit_length digits highest bytes_to has rows_of findings_of endless_of endless_in start walk_name walk_slot walk_variants walk_fields walk_type walk_leaf left entered counted conformance_of
starred_hold = refl
