-- Worked examples of reading: images of document 01, images of edition two, and what each is answered.
use Rattle.std.specs.Prelude.{ℕ, ◌≡◌, refl, List, [], ◌∷◌, ◌++◌, map, replicate}
use Rattle.number.specs.Number.{number_at, groups_at, after}
use Rattle.number.specs.Grammar.{◌>>=◌, many, counted, too_deep, nested, and_then, ranged, below, read}
use Rattle.tree.specs.Tree.{leaf, named, primitive, semantic}
use Rattle.tree.specs.TreeAt.{sub_byte_at, bits_at, generic_at, body_at, head_at, fill, tree_at}
use Rattle.tree.specs.Encoding.{default, varint, encoding_fill, encoding_at}
use Rattle.slot.specs.declared.Edition.{Edition}
use Rattle.slot.specs.declared.Edition.TheVariants.{One, Two}
use Rattle.slot.specs.Field.{none, span_at, stored_at, limit_at, field_at}
use Rattle.slot.specs.Slot.{enum, message, message_at, retired_at, ordinals_at, enum_at, flags_at, newtype_at, alias_at, slot_body_at, slot_at}
use Rattle.graph.specs.Ways.{via, lowest, has}
use Rattle.image.specs.Schema.{slot_of}
use Rattle.image.specs.Image.{front_at, placed_at, declared_at, end_at, image_at, whole, image_of, schema_in, frame_in}
use Rattle.loops.specs.Leads.{terminal_slots, generic_slots, slot_leads, leads, loop_of}
use Rattle.reader.specs.Reading.{lost, lost_name, judged, reading_of, schema_of}
use Rattle.reader.specs.declared.Reading.{Reading}

-- an image of an edition, and what reading it answers
pub record Line : Type 0 where
  pub edition : Edition
  pub image : List ℕ
  pub answer : Reading

-- the image of the program's example: an enum and a message
abbrev pub shown : List ℕ
shown = 1 ∷ 0 ∷ 2 ∷ 2 ∷ 0 ∷ 0 ∷ 0 ∷ 2 ∷ 0 ∷ 4 ∷ 1 ∷ 5 ∷ 7 ∷ 0 ∷ 2 ∷ 0 ∷ 0 ∷ 3 ∷ 0 ∷ 0 ∷ 1 ∷ 0 ∷ 3 ∷ 2 ∷ 0 ∷ 1 ∷ []

-- the like in edition two, up to the limit of the message's last field: an enum with a retired ordinal, and a message with a
-- field without a limit and a string
abbrev pub before_limit : List ℕ
before_limit = 1 ∷ 0 ∷ 2 ∷ 2 ∷ 0 ∷ 0 ∷ 0 ∷ 2 ∷ 0 ∷ 4 ∷ 1 ∷ 2 ∷ 1 ∷ 5 ∷ 7 ∷ 0 ∷ 2 ∷ 0 ∷ 0 ∷ 3 ∷ 0 ∷ 0 ∷ 0 ∷ 0 ∷ 2 ∷ 0 ∷ []

-- with the bytes of a limit
abbrev pub limited : List ℕ → List ℕ
limited bytes = before_limit ++ (bytes ++ (2 ∷ 0 ∷ 1 ∷ []))

abbrev pub shown_two : List ℕ
shown_two = limited (5 ∷ [])

-- an enum without live ordinals, up to the count of the retired ones
abbrev pub before_retired : List ℕ
before_retired = 0 ∷ 1 ∷ 2 ∷ 0 ∷ 0 ∷ 0 ∷ 0 ∷ []

-- a newtype whose inner type has 32 levels of Optional
abbrev pub optionals : List ℕ
optionals = 0 ∷ 1 ∷ 5 ∷ replicate 32 4

abbrev pub lines : List Line
lines =
    record { edition = One; image = shown; answer = Reading.Accepted (record { edition = One; names = 1; finds = 1; slots = 2; declarations = 2; declared = 24 }) }
    -- nothing at all, and no bytes
    ∷ record { edition = One; image = 0 ∷ 0 ∷ 0 ∷ []; answer = Reading.Accepted (record { edition = One; names = 0; finds = 1; slots = 0; declarations = 0; declared = 3 }) }
    ∷ record { edition = One; image = []; answer = Reading.Refused 2 0 }
    -- one byte too many
    ∷ record { edition = One; image = replicate 65537 0; answer = Reading.Refused 1 0 }
    -- bytes that end; not shortest; out of range; extra bytes
    ∷ record { edition = One; image = 1 ∷ []; answer = Reading.Refused 2 1 }
    ∷ record { edition = One; image = 128 ∷ 0 ∷ []; answer = Reading.Refused 3 0 }
    ∷ record { edition = One; image = 0 ∷ 128 ∷ 0 ∷ []; answer = Reading.Refused 3 1 }
    ∷ record { edition = One; image = 0 ∷ 129 ∷ 4 ∷ []; answer = Reading.Refused 4 1 }
    ∷ record { edition = One; image = 0 ∷ 0 ∷ 0 ∷ 0 ∷ []; answer = Reading.Refused 6 3 }
    -- level 33, which is out of range before it is too deep
    ∷ record { edition = One; image = optionals ++ (0 ∷ []); answer = Reading.Refused 5 35 }
    ∷ record { edition = One; image = optionals ++ (17 ∷ []); answer = Reading.Refused 4 35 }
    -- names that find an empty slot; one that finds a slot past the last, before another that finds an empty one
    ∷ record { edition = One; image = 1 ∷ 1 ∷ 1 ∷ 0 ∷ 0 ∷ []; answer = Reading.Refused 7 0 }
    ∷ record { edition = One; image = 3 ∷ 0 ∷ 5 ∷ 1 ∷ 1 ∷ 0 ∷ 0 ∷ []; answer = Reading.Refused 7 1 }
    -- a newtype of itself, without and with a name that is lost; newtypes of the second of them
    ∷ record { edition = One; image = 0 ∷ 1 ∷ 5 ∷ 0 ∷ 0 ∷ 3 ∷ 0 ∷ 0 ∷ []; answer = Reading.Refused 8 0 }
    ∷ record { edition = One; image = 2 ∷ 0 ∷ 2 ∷ 1 ∷ 5 ∷ 0 ∷ 0 ∷ 3 ∷ 0 ∷ 0 ∷ []; answer = Reading.Refused 7 1 }
    ∷ record { edition = One; image = 0 ∷ 2 ∷ 5 ∷ 0 ∷ 0 ∷ 3 ∷ 1 ∷ 5 ∷ 0 ∷ 0 ∷ 3 ∷ 1 ∷ 0 ∷ []; answer = Reading.Refused 8 1 }
    -- an alias whose target is a generic of it, first, second, and before a newtype of itself
    ∷ record { edition = One; image = 1 ∷ 1 ∷ 1 ∷ 7 ∷ 0 ∷ 18 ∷ 0 ∷ 0 ∷ 0 ∷ 0 ∷ []; answer = Reading.Refused 9 0 }
    ∷ record { edition = One; image = 1 ∷ 2 ∷ 2 ∷ 6 ∷ 7 ∷ 0 ∷ 18 ∷ 0 ∷ 0 ∷ 0 ∷ 0 ∷ []; answer = Reading.Refused 9 1 }
    ∷ record { edition = One; image = 1 ∷ 1 ∷ 2 ∷ 7 ∷ 0 ∷ 18 ∷ 0 ∷ 0 ∷ 0 ∷ 5 ∷ 0 ∷ 0 ∷ 3 ∷ 1 ∷ 0 ∷ []; answer = Reading.Refused 8 1 }
    -- edition two; the bytes of each edition in the other
    ∷ record { edition = Two; image = shown_two; answer = Reading.Accepted (record { edition = Two; names = 1; finds = 1; slots = 2; declarations = 2; declared = 28 }) }
    ∷ record { edition = One; image = shown_two; answer = Reading.Refused 4 13 }
    ∷ record { edition = Two; image = shown; answer = Reading.Refused 6 17 }
    -- the greatest limit, and one more; not shortest; bytes that end
    ∷ record { edition = Two; image = limited (255 ∷ 255 ∷ 255 ∷ 255 ∷ 15 ∷ []); answer = Reading.Accepted (record { edition = Two; names = 1; finds = 1; slots = 2; declarations = 2; declared = 32 }) }
    ∷ record { edition = Two; image = limited (128 ∷ 128 ∷ 128 ∷ 128 ∷ 16 ∷ []); answer = Reading.Refused 4 26 }
    ∷ record { edition = Two; image = limited (133 ∷ 0 ∷ []); answer = Reading.Refused 3 26 }
    ∷ record { edition = Two; image = before_limit; answer = Reading.Refused 2 26 }
    -- 65,536 retired ordinals, which are not there, and one more; a retired bit out of range
    ∷ record { edition = Two; image = before_retired ++ (128 ∷ 128 ∷ 4 ∷ []); answer = Reading.Refused 2 10 }
    ∷ record { edition = Two; image = before_retired ++ (129 ∷ 128 ∷ 4 ∷ []); answer = Reading.Refused 4 7 }
    ∷ record { edition = Two; image = 0 ∷ 1 ∷ 3 ∷ 0 ∷ 0 ∷ 1 ∷ 128 ∷ 128 ∷ 128 ∷ 128 ∷ 16 ∷ []; answer = Reading.Refused 4 6 }
    ∷ []

pub lines_hold : map (λ l. reading_of l.edition l.image) lines ≡ map (λ l. l.answer) lines
unfolding number_at groups_at after ◌>>=◌ many counted too_deep nested and_then ranged below read sub_byte_at bits_at generic_at body_at head_at fill tree_at encoding_fill encoding_at span_at stored_at limit_at field_at message_at retired_at ordinals_at enum_at flags_at newtype_at alias_at slot_body_at slot_at via lowest has slot_of front_at placed_at declared_at end_at image_at whole image_of schema_in frame_in terminal_slots generic_slots slot_leads leads loop_of lost lost_name judged reading_of
lines_hold = refl

-- what the example's image holds
pub shown_is : schema_of One shown
    ≡ record {
      finds = 0 ∷ [];
      slots =
          enum (record { backing = 0; non_exhaustive = 0; stored_bits = 0; ordinals = record { live = 0 ∷ 4 ∷ []; retired = [] } })
          ∷ message
          (record {
            span = record { offset = 5; length = 7 };
            stored = none;
            fields =
                record { field_name = 0; encoding = default; type = leaf (named 0); limit = 0 }
                ∷ record { field_name = 0; encoding = varint; type = leaf (primitive 3); limit = 0 }
                ∷ [];
          })
          ∷ [];
      declared = 0 ∷ 1 ∷ [];
    }
unfolding number_at groups_at after ◌>>=◌ many counted too_deep nested and_then ranged below read sub_byte_at bits_at generic_at body_at head_at fill tree_at encoding_fill encoding_at span_at stored_at limit_at field_at message_at retired_at ordinals_at enum_at slot_body_at slot_at front_at placed_at declared_at end_at image_at whole image_of schema_in schema_of
shown_is = refl

-- and what that of edition two does
pub shown_two_is : schema_of Two shown_two
    ≡ record {
      finds = 0 ∷ [];
      slots =
          enum (record { backing = 0; non_exhaustive = 0; stored_bits = 0; ordinals = record { live = 0 ∷ 4 ∷ []; retired = 2 ∷ [] } })
          ∷ message
          (record {
            span = record { offset = 5; length = 7 };
            stored = none;
            fields =
                record { field_name = 0; encoding = default; type = leaf (named 0); limit = 0 }
                ∷ record { field_name = 0; encoding = default; type = leaf (semantic 0); limit = 5 }
                ∷ [];
          })
          ∷ [];
      declared = 0 ∷ 1 ∷ [];
    }
unfolding number_at groups_at after ◌>>=◌ many counted too_deep nested and_then ranged below read sub_byte_at bits_at generic_at body_at head_at fill tree_at encoding_fill encoding_at span_at stored_at limit_at field_at message_at retired_at ordinals_at enum_at slot_body_at slot_at front_at placed_at declared_at end_at image_at whole image_of schema_in schema_of
shown_two_is = refl
