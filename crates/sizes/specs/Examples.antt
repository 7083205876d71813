-- The image shown on the bench sheet, and cases at the edge; its starred lines stand where findings are known too.
use Rattle.std.specs.Prelude.{◌≡◌, refl, ℕ, suc, ◌+◌, ◌-◌, ◌^◌, List, [], ◌∷◌, ◌++◌, map}
use Rattle.number.specs.Shortest.{groups_within, groups_of}
use Rattle.tree.specs.Tree.{Tree, leaf, wrap, fixed_array, pair, primitive, semantic, named, optional, array, set_of, vec2, map_of, result_of}
use Rattle.tree.specs.Encoding.{Encoding, default, varint, zig_zag, delta}
use Rattle.slot.specs.Field.{Field, Stored}
use Rattle.slot.specs.Slot.{Slot, message, enum, flags, union, newtype}
use Rattle.image.specs.Schema.{Schema, slot_of}
use Rattle.sizes.specs.Widths.{highest, top_of, digits, bit_length, ordinal_bits, enum_bits, bytes_to, flags_bytes, has, enum_bits_at, flags_bytes_at}
use Rattle.sizes.specs.Elements.{limited_element}
use Rattle.sizes.specs.Sizes.{Layout, Packed, Aligned, limited, then, refusal_of, primitive_bits, semantic_bits, leaf_size, wrap_size, type_size, varint_end, zig_zag_end, encoded_size, element_size, elements_size, field_size, add_fields, add_variants, union_size}
use Rattle.sizes.specs.Names.{content_in, content_of, content_size, name_rule, name_within, name_size}
use Rattle.sizes.specs.Check.{brought, body_size, own_size, store, Checked, accepted, refused, storing, turn, onward, turns, check_sizes, row, slot_row, rows_from, table_of}

-- the answer of the check: the size table, or refusal 11 or 14 with its place
pub data Answer : Type 0 where
  table : List ℕ → Answer
  refusal : (number slot : ℕ) → Answer

abbrev pub answer_of : Schema → Checked → Answer
answer_of S (accepted st) = table (table_of S st)
answer_of S (refused o i) = refusal (refusal_of o) i

-- ## Schemas written short

-- slots that are all declared, in order
abbrev pub in_order : ℕ → List Slot → List ℕ
in_order i [] = []
in_order i (x ∷ xs) = i ∷ in_order (suc i) xs

abbrev pub all : List Slot → Schema
all slots = record { finds = []; slots = slots; declared = in_order 0 slots }

abbrev pub declaring : List ℕ → List Slot → Schema
declaring ds slots = record { finds = []; slots = slots; declared = ds }

abbrev pub a_field : Encoding → Tree → Field
a_field e t = record { field_name = 0; encoding = e; type = t; limit = 0 }

abbrev pub each : List Tree → List Field
each [] = []
each (t ∷ ts) = a_field default t ∷ each ts

abbrev pub a_message : Stored → List Field → Slot
a_message stored fs = message (record { span = record { offset = 0; length = 0 }; stored = stored; fields = fs })

abbrev pub of : List Tree → Slot
of ts = a_message Stored.none (each ts)

abbrev pub encoded : Encoding → Tree → Slot
encoded e t = a_message Stored.none (a_field e t ∷ [])

abbrev pub a_union : List (List Field) → Slot
a_union vs = union (record { stored = Stored.none; variants = vs })

abbrev pub a_newtype : Tree → Slot
a_newtype t = newtype (record { inner = t; terminal = t })

abbrev pub held_enum : (backing non_exhaustive bits : ℕ) → (live retired : List ℕ) → Slot
held_enum b x w os rs = enum (record { backing = b; non_exhaustive = x; stored_bits = w; ordinals = record { live = os; retired = rs } })

abbrev pub held_flags : (bytes : ℕ) → (live retired : List ℕ) → Slot
held_flags w os rs = flags (record { stored_bytes = w; bits = record { live = os; retired = rs } })

abbrev pub an_enum : (non_exhaustive : ℕ) → List ℕ → Slot
an_enum x os = held_enum 0 x 0 os []

abbrev pub stored_enum : (bits : ℕ) → List ℕ → Slot
stored_enum b os = held_enum 0 0 b os []

abbrev pub some_flags : List ℕ → Slot
some_flags bs = held_flags 0 bs []

abbrev pub bool : Tree
bool = leaf (primitive 0)

abbrev pub u8 : Tree
u8 = leaf (primitive 1)

abbrev pub u16 : Tree
u16 = leaf (primitive 2)

abbrev pub u32 : Tree
u32 = leaf (primitive 3)

abbrev pub string : Tree
string = leaf (semantic 0)

abbrev pub slot : ℕ → Tree
slot i = leaf (named i)

-- ## Lines

pub record Line : Type 0 where
  pub of : Schema
  pub gives : Answer

abbrev shows : Schema → List ℕ → Line
shows S t = record { of = S; gives = table t }

abbrev refuses : Schema → (number slot : ℕ) → Line
refuses S n i = record { of = S; gives = refusal n i }

-- what the lines say, and what the check answers
abbrev pub said : List Line → List Answer
said ls = map (λ l. l.gives) ls

abbrev pub answered : Layout → List Line → List Answer
answered L ls = map (λ l. answer_of l.of (check_sizes L l.of)) ls

-- ## Lines of sizes

-- A { B }, B { u8 }, where B brings Fixed 3
abbrev pub wrong : List ℕ → Schema
wrong ds = declaring ds (of (slot 1 ∷ []) ∷ a_message (Stored.fixed 3) (each (u8 ∷ [])) ∷ [])

-- A { A }
abbrev self : Schema
self = all (of (slot 0 ∷ []) ∷ [])

abbrev pub others : List Line
others =
    -- the image shown
    shows (all (an_enum 0 (0 ∷ 4 ∷ []) ∷ a_message Stored.none (a_field default (slot 0) ∷ a_field varint u32 ∷ []) ∷ []))
    (row 4 3 0 ++ row 2 11 43)
    -- 2^60 - 1 fixed U8, and one more
    ∷ shows (all (of (fixed_array u8 (2 ^ 60 - 1) ∷ []) ∷ [])) (row 1 (2 ^ 63 - 8) (2 ^ 63 - 8))
    ∷ refuses (all (of (fixed_array u8 (2 ^ 60) ∷ []) ∷ [])) 14 0
    -- a factor above the limit, on nothing
    ∷ shows (all (of (fixed_array (leaf (primitive 13)) (2 ^ 64 - 1) ∷ []) ∷ [])) (row 1 0 0)
    -- the elements of an array are not worked out, the element of a fixed array of size 0 is
    ∷ shows (all (of (wrap array (fixed_array u8 (2 ^ 60)) ∷ []) ∷ [])) (row 3 8 0)
    ∷ refuses (all (of (fixed_array (fixed_array u8 (2 ^ 60)) 0 ∷ []) ∷ [])) 14 0
    -- a Delta of Varint on a U16, and a Varint on an Optional of one
    ∷ shows (all (encoded (delta varint) u16 ∷ encoded varint (wrap optional u16) ∷ []))
    (row 2 8 24 ++ row 2 8 80)
    -- an empty message and an empty union
    ∷ shows (all (of [] ∷ a_union [] ∷ [])) (row 1 0 0 ++ row 2 8 8)
    -- an undeclared slot shows what is stored, and its names use that
    ∷ shows (declaring (1 ∷ []) (stored_enum 5 (0 ∷ []) ∷ of (slot 0 ∷ []) ∷ [])) (row 4 5 0 ++ row 1 5 5)
    -- A { B }, B { u8 }; a declaration points nowhere, another one repeats
    ∷ shows (declaring (0 ∷ 1 ∷ 7 ∷ 0 ∷ []) (of (slot 1 ∷ []) ∷ of (u8 ∷ []) ∷ [])) (row 1 8 8 ++ row 1 8 8)
    -- a stored size that is wrong reaches the turn of A before B's, and A's later turn mends it
    ∷ shows (wrong (0 ∷ 1 ∷ [])) (row 1 3 3 ++ row 1 8 8)
    ∷ shows (wrong (0 ∷ 1 ∷ 0 ∷ [])) (row 1 8 8 ++ row 1 8 8)
    -- a stored size is used as it stands
    ∷ shows (declaring (0 ∷ []) (of (slot 1 ∷ []) ∷ a_message (Stored.bounded 5 2) [] ∷ [])) (row 2 5 2 ++ row 2 5 2)
    -- no copies of itself: from 0, although its only length is 0
    ∷ shows (all (of (fixed_array (slot 0) 0 ∷ []) ∷ [])) (row 3 0 0)
    ∷ shows self (row 3 0 0)
    -- a newtype of Optional M, met twice on the way from M { N }
    ∷ shows (declaring (1 ∷ []) (a_newtype (wrap optional (slot 1)) ∷ of (slot 0 ∷ []) ∷ [])) (row 0 0 0 ++ row 3 1 0)
    -- a running largest passes the limit before a field without largest
    ∷ refuses (declaring (1 ∷ []) (a_message (Stored.bounded 0 (2 ^ 62)) [] ∷ of (slot 0 ∷ slot 0 ∷ string ∷ []) ∷ [])) 11 1
    -- the place is the declared slot whose turn it is
    ∷ refuses (declaring (1 ∷ []) (of (fixed_array u8 (2 ^ 60) ∷ []) ∷ of (slot 0 ∷ []) ∷ [])) 14 1
    ∷ []

pub others_hold : answered Packed others ≡ said others
unfolding check_sizes turns turn onward own_size body_size storing store brought name_size name_within name_rule content_size content_of content_in slot_of type_size leaf_size wrap_size then limited primitive_bits semantic_bits varint_end zig_zag_end encoded_size limited_element elements_size field_size add_fields add_variants union_size table_of rows_from slot_row enum_bits_at flags_bytes_at enum_bits flags_bytes ordinal_bits top_of bit_length digits highest bytes_to has
others_hold = refl

-- ## The first step that passes the limit

-- within it, and two of them are not
abbrev big : Tree
big = fixed_array u8 (2 ^ 60 - 1)

-- the most that is within it
abbrev most : Tree
most = fixed_array bool (2 ^ 63 - 1)

-- a product that passes it
abbrev over : Tree
over = fixed_array u8 (2 ^ 60)

abbrev pub first_steps : List Line
first_steps =
    -- fields left to right, each added once it is worked out
    refuses (all (of (big ∷ big ∷ over ∷ []) ∷ [])) 11 0
    ∷ refuses (all (of (big ∷ over ∷ big ∷ []) ∷ [])) 14 0
    -- a Result's ok side, its err side, then its bit
    ∷ refuses (all (of (pair result_of most over ∷ []) ∷ [])) 14 0
    ∷ refuses (all (of (pair result_of (wrap optional most) over ∷ []) ∷ [])) 11 0
    ∷ refuses (all (of (pair result_of most u8 ∷ []) ∷ [])) 11 0
    -- a union's variants, then its 8
    ∷ refuses (all (a_union (each (most ∷ []) ∷ each (over ∷ []) ∷ []) ∷ [])) 14 0
    ∷ refuses (all (a_union (each (most ∷ []) ∷ []) ∷ [])) 11 0
    -- a sum that is within, and a product of it that is not
    ∷ refuses (all (of (wrap vec2 (wrap optional (fixed_array bool (2 ^ 62))) ∷ []) ∷ [])) 14 0
    ∷ []

pub first_steps_hold : answered Packed first_steps ≡ said first_steps
unfolding check_sizes turns turn onward own_size body_size storing store brought name_size name_within name_rule content_size content_of content_in slot_of type_size leaf_size wrap_size then limited primitive_bits semantic_bits varint_end zig_zag_end encoded_size limited_element elements_size field_size add_fields add_variants union_size table_of rows_from slot_row
first_steps_hold = refl

-- ## The head board

abbrev pub board_lines : List Line
board_lines =
    -- each field is rounded before it is added, not the total: 1 and 1 are 16, and Fixed they stay
    shows (all (of (bool ∷ bool ∷ []) ∷ [])) (row 1 16 16)
    -- 1..2 becomes 8..8, and is not Fixed by it
    ∷ shows (all (of (wrap optional bool ∷ []) ∷ [])) (row 2 8 8)
    -- parts inside a field's type are not rounded: three Bools and the bit of an Optional are 1..4, then 8..8
    ∷ shows (all (of (wrap optional (fixed_array bool 3) ∷ []) ∷ [])) (row 2 8 8)
    -- nor is an enum of 3 bits there
    ∷ shows (all (of (wrap optional (slot 1) ∷ []) ∷ an_enum 0 (0 ∷ 4 ∷ []) ∷ [])) (row 2 8 8 ++ row 4 3 0)
    -- those of a message or union in it are
    ∷ shows (all (of (wrap optional (slot 1) ∷ []) ∷ of (bool ∷ bool ∷ []) ∷ [])) (row 2 8 24 ++ row 1 16 16)
    ∷ shows (all (a_union (each (bool ∷ []) ∷ each (bool ∷ u8 ∷ []) ∷ []) ∷ [])) (row 2 16 24)
    -- the most that rounds to a multiple of 8 within the limit, and one more
    ∷ shows (all (of (fixed_array bool (2 ^ 63 - 8) ∷ []) ∷ [])) (row 1 (2 ^ 63 - 8) (2 ^ 63 - 8))
    ∷ refuses (all (of (fixed_array bool (2 ^ 63 - 7) ∷ []) ∷ [])) 11 0
    ∷ refuses (all (of (fixed_array bool (2 ^ 63 - 1) ∷ []) ∷ [])) 11 0
    -- rounding tests its own numbers: behind a field without largest the sum would not
    ∷ refuses (all (of (string ∷ wrap optional (fixed_array bool (2 ^ 63 - 2)) ∷ []) ∷ [])) 11 0
    -- A { [B; 2^60] }, B { bool }: a product that passes the limit on the head board only
    ∷ refuses (all (of (fixed_array (slot 1) (2 ^ 60) ∷ []) ∷ of (bool ∷ []) ∷ [])) 14 0
    ∷ []

pub board_lines_hold : answered Aligned board_lines ≡ said board_lines
unfolding check_sizes turns turn onward own_size body_size storing store brought name_size name_within name_rule content_size content_of content_in slot_of type_size leaf_size wrap_size then limited primitive_bits semantic_bits varint_end zig_zag_end encoded_size limited_element elements_size field_size add_fields add_variants union_size table_of rows_from slot_row enum_bits_at has enum_bits ordinal_bits top_of bit_length digits highest
board_lines_hold = refl

-- the last of them on the ordinary layout
abbrev pub unrounded : List Line
unrounded = shows (all (of (fixed_array (slot 1) (2 ^ 60) ∷ []) ∷ of (bool ∷ []) ∷ [])) (row 1 (2 ^ 60) (2 ^ 60) ++ row 1 1 1) ∷ []

pub unrounded_holds : answered Packed unrounded ≡ said unrounded
unfolding check_sizes turns turn onward own_size body_size storing store brought name_size name_within name_rule content_size content_of content_in slot_of type_size leaf_size wrap_size then limited primitive_bits semantic_bits varint_end zig_zag_end encoded_size limited_element elements_size field_size add_fields add_variants union_size table_of rows_from slot_row
unrounded_holds = refl

-- ## Retired ones

-- no backing, not non_exhaustive
abbrev retiring : (live retired : List ℕ) → Slot
retiring os rs = held_enum 0 0 0 os rs

abbrev pub retired_lines : List Line
retired_lines =
    -- none live: the highest of the retired; none at all: 1 bit
    shows (all (retiring [] (256 ∷ []) ∷ retiring [] [] ∷ [])) (row 4 9 0 ++ row 4 1 0)
    -- the highest of both, whichever list has it
    ∷ shows (all (retiring (3 ∷ []) (4 ∷ 200 ∷ 5 ∷ []) ∷ retiring (200 ∷ []) (3 ∷ []) ∷ [])) (row 4 8 0 ++ row 4 8 0)
    -- non_exhaustive: at least 8 over the highest of both
    ∷ shows (all (held_enum 0 1 0 (3 ∷ []) (255 ∷ []) ∷ held_enum 0 1 0 (3 ∷ []) (256 ∷ []) ∷ held_enum 0 1 0 [] (1 ∷ []) ∷ []))
    (row 4 8 0 ++ row 4 9 0 ++ row 4 8 0)
    -- a backing has its own width
    ∷ shows (all (held_enum 1 0 0 [] (256 ∷ []) ∷ held_enum 2 1 0 (3 ∷ []) (65536 ∷ []) ∷ [])) (row 4 8 0 ++ row 4 16 0)
    -- flags at each step
    ∷ shows (all (held_flags 0 [] [] ∷ held_flags 0 [] (7 ∷ []) ∷ held_flags 0 [] (8 ∷ []) ∷ held_flags 0 (7 ∷ []) (15 ∷ []) ∷ []))
    (row 5 1 0 ++ row 5 1 0 ++ row 5 2 0 ++ row 5 2 0)
    ∷ shows (all (held_flags 0 (8 ∷ []) (16 ∷ []) ∷ held_flags 0 [] (31 ∷ []) ∷ held_flags 0 (31 ∷ []) (32 ∷ []) ∷ held_flags 0 (31 ∷ []) (8 ∷ []) ∷ []))
    (row 5 4 0 ++ row 5 4 0 ++ row 5 8 0 ++ row 5 4 0)
    -- an undeclared slot shows what is stored, and its names use that
    ∷ shows (declaring (1 ∷ []) (held_enum 0 0 5 (0 ∷ []) (256 ∷ []) ∷ of (slot 0 ∷ []) ∷ [])) (row 4 5 0 ++ row 1 5 5)
    ∷ shows (declaring (1 ∷ []) (held_flags 3 (0 ∷ []) (32 ∷ []) ∷ of (slot 0 ∷ []) ∷ [])) (row 5 3 0 ++ row 1 24 24)
    -- sizes with a declared one use its width, declared before it or after
    ∷ shows (all (of (slot 1 ∷ wrap optional (slot 1) ∷ []) ∷ retiring (0 ∷ []) (256 ∷ []) ∷ a_union (each (slot 1 ∷ []) ∷ []) ∷ []))
    (row 2 10 19 ++ row 4 9 0 ++ row 2 17 17)
    -- and may pass the limit by it
    ∷ shows (all (of (fixed_array (slot 1) (2 ^ 60 - 1) ∷ []) ∷ retiring (0 ∷ []) (255 ∷ []) ∷ [])) (row 1 (2 ^ 63 - 8) (2 ^ 63 - 8) ++ row 4 8 0)
    ∷ refuses (all (of (fixed_array (slot 1) (2 ^ 60 - 1) ∷ []) ∷ retiring (0 ∷ []) (256 ∷ []) ∷ [])) 14 0
    ∷ []

pub retired_lines_hold : answered Packed retired_lines ≡ said retired_lines
unfolding check_sizes turns turn onward own_size body_size storing store brought name_size name_within name_rule content_size content_of content_in slot_of type_size leaf_size wrap_size then limited primitive_bits semantic_bits varint_end zig_zag_end encoded_size limited_element elements_size field_size add_fields add_variants union_size table_of rows_from slot_row enum_bits_at flags_bytes_at enum_bits flags_bytes ordinal_bits top_of bit_length digits highest bytes_to has
retired_lines_hold = refl

-- 9 bits take two bytes on the head board
abbrev pub retired_on_board : List Line
retired_on_board = shows (all (of (slot 1 ∷ slot 1 ∷ []) ∷ retiring (0 ∷ []) (256 ∷ []) ∷ [])) (row 1 32 32 ++ row 4 9 0) ∷ []

pub retired_on_board_holds : answered Aligned retired_on_board ≡ said retired_on_board
unfolding check_sizes turns turn onward own_size body_size storing store brought name_size name_within name_rule content_size content_of content_in slot_of type_size leaf_size wrap_size then limited primitive_bits semantic_bits varint_end zig_zag_end encoded_size limited_element elements_size field_size add_fields add_variants union_size table_of rows_from slot_row enum_bits_at has enum_bits ordinal_bits top_of bit_length digits highest
retired_on_board_holds = refl

-- ## What an array really takes

-- a message of one field with a limit
abbrev limited_to : ℕ → Encoding → Tree → Slot
limited_to n e t = a_message Stored.none (record { field_name = 0; encoding = e; type = t; limit = n } ∷ [])

abbrev up_to : ℕ → Tree → Slot
up_to n t = limited_to n default t

abbrev no_bits : Tree
no_bits = fixed_array bool 0

abbrev bools : ℕ → Tree
bools n = fixed_array bool n

abbrev pub limit_lines : List Line
limit_lines =
    -- elements of no bits: the groups of the limit count, and 8..8 is not Fixed
    shows (all (up_to 127 (wrap array no_bits) ∷ up_to 128 (wrap array no_bits) ∷ [])) (row 2 8 8 ++ row 2 8 16)
    -- each of the three kinds, and Delta down to Default
    ∷ shows (all (up_to 3 (wrap set_of u8) ∷ up_to 3 (pair map_of u8 bool) ∷ limited_to 3 (delta (delta default)) (wrap array u16) ∷ []))
    (row 2 8 32 ++ row 2 8 35 ++ row 2 8 56)
    -- 0 is no limit; an element without largest has none
    ∷ shows (all (up_to 0 (wrap array u8) ∷ up_to 2 (wrap array string) ∷ up_to 2 (pair map_of u8 string) ∷ [])) (row 3 8 0 ++ row 3 8 0 ++ row 3 8 0)
    -- the inner of two arrays has no limit
    ∷ shows (all (up_to 3 (wrap array (wrap array u8)) ∷ [])) (row 3 8 0)
    -- a limit is ignored on U8, under Optional, through a newtype, under Varint and ZigZag
    ∷ shows
    (all (up_to 2 u8 ∷ up_to 2 (wrap optional (wrap array u8)) ∷ up_to 2 (slot 3) ∷ a_newtype (wrap array u8) ∷ limited_to 2 varint (wrap array u8) ∷ limited_to 2 (delta zig_zag) (wrap array u8) ∷ []))
    (row 1 8 8 ++ row 3 1 0 ++ row 3 8 0 ++ row 0 0 0 ++ row 2 8 80 ++ row 2 8 80)
    -- A { Array<A> limit 2 }: what is being worked out has no largest
    ∷ shows (all (up_to 2 (wrap array (slot 0)) ∷ [])) (row 3 8 0)
    -- the elements of an array without limit are not worked out, those of a limited one are
    ∷ shows (all (up_to 0 (wrap array over) ∷ [])) (row 3 8 0)
    ∷ refuses (all (up_to 1 (wrap array over) ∷ [])) 14 0
    -- a map's value is worked out though its key has no largest
    ∷ refuses (all (up_to 2 (pair map_of string over) ∷ [])) 14 0
    -- largest key and largest value are a sum, made before the product
    ∷ refuses (all (up_to 4 (pair map_of (bools (2 ^ 62)) (bools (2 ^ 62))) ∷ [])) 11 0
    -- the product, and then the sum, to the last bit
    ∷ shows (all (up_to (2 ^ 32 - 1) (wrap array (bools (2 ^ 31))) ∷ [])) (row 2 8 (2 ^ 63 - 2 ^ 31 + 40))
    ∷ refuses (all (up_to (2 ^ 32 - 1) (wrap array (bools (2 ^ 31 + 1))) ∷ [])) 14 0
    ∷ shows (all (up_to 1 (wrap array (bools (2 ^ 63 - 9))) ∷ [])) (row 2 8 (2 ^ 63 - 1))
    ∷ refuses (all (up_to 1 (wrap array (bools (2 ^ 63 - 8))) ∷ [])) 11 0
    ∷ []

pub limits_hold : answered Packed limit_lines ≡ said limit_lines
unfolding check_sizes turns turn onward own_size body_size storing store brought name_size name_within name_rule content_size content_of content_in slot_of type_size leaf_size wrap_size then limited primitive_bits semantic_bits varint_end zig_zag_end encoded_size limited_element element_size elements_size groups_of groups_within field_size add_fields add_variants union_size table_of rows_from slot_row
limits_hold = refl

-- on the head board the field is rounded, not its elements: 8..11 is 8..16
abbrev pub limits_on_board : List Line
limits_on_board =
    shows (all (up_to 3 (wrap array bool) ∷ [])) (row 2 8 16)
    ∷ shows (all (up_to 8 (wrap array bool) ∷ [])) (row 2 8 16)
    ∷ refuses (all (up_to 1 (wrap array (bools (2 ^ 63 - 9))) ∷ [])) 11 0
    ∷ []

pub limits_on_board_hold : answered Aligned limits_on_board ≡ said limits_on_board
unfolding check_sizes turns turn onward own_size body_size storing store brought name_size name_within name_rule content_size content_of content_in slot_of type_size leaf_size wrap_size then limited primitive_bits semantic_bits varint_end zig_zag_end encoded_size limited_element element_size elements_size groups_of groups_within field_size add_fields add_variants union_size table_of rows_from slot_row
limits_on_board_hold = refl
