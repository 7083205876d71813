-- Fields that have a trait field's name and type, and fields that do not; and how often the search looks a name up.
use Rattle.std.specs.Prelude.{ℕ, ◌≡◌, refl, List, [], ◌∷◌, map, Bool, true, false}
use Rattle.tree.specs.Tree.{Tree, leaf, primitive, sub_byte, named, bits_inline, qualified, wrap, optional, fixed_array, pair, map_of, generic}
use Rattle.tree.specs.Encoding.{default}
use Rattle.slot.specs.Field.{Field, none}
use Rattle.slot.specs.Slot.{alias, message}
use Rattle.image.specs.Schema.{Schema, slot_of}
use Rattle.findings.specs.Meaning.{resolved, argument_of, leaf_value, value_of, leaf_meant, substitute, applied, meaning_of}
use Rattle.findings.specs.Compatible.{same_names, same_leaf, same_tree}
use Rattle.findings.specs.Conformance.{is_field, has_field}
use Rattle.meanings.specs.Occurs.{occurs}

-- Names: 0 T, 1 Box, 2 Twice, 3 M. Box finds an alias of T with the target T, Twice one with the target `Box<Box<T>>`, M a
-- message; T finds nothing.
abbrev schema : Schema
schema =
    record {
      finds = 0 ∷ 1 ∷ 2 ∷ 3 ∷ [];
      slots =
          alias (record { parameters = 0 ∷ []; target = leaf (named 0) })
          ∷ alias (record { parameters = 0 ∷ []; target = generic 1 (generic 1 (leaf (named 0))) })
          ∷ message (record { span = record { offset = 0; length = 0 }; stored = none; fields = [] })
          ∷ [];
      declared = [];
    }

abbrev field : (field_name : ℕ) → Tree → Field
field n t = record { field_name = n; encoding = default; type = t; limit = 0 }

-- a message's type of the field 5, a trait's expression for it, where T stands for U8, and whether the one is the other
pub record Line : Type 0 where
  pub type : Tree
  pub expression : Tree
  pub answer : Bool

abbrev lines : List Line
lines =
    -- T, and qualified T, which is never a parameter
    record { type = wrap optional (leaf (primitive 3)); expression = wrap optional (leaf (named 0)); answer = true }
    ∷ record { type = leaf (primitive 3); expression = leaf (qualified 0); answer = false }
    -- what is not found is equal to itself
    ∷ record { type = leaf (named 4294967295); expression = leaf (qualified 0); answer = true }
    -- an alias of an alias; of U8 it is no name
    ∷ record { type = leaf (named 2); expression = generic 2 (leaf (named 3)); answer = true }
    ∷ record { type = leaf (primitive 3); expression = generic 1 (leaf (named 0)); answer = false }
    ∷ record { type = leaf (named 4294967295); expression = generic 1 (leaf (named 0)); answer = true }
    -- the sign, the size, the names
    ∷ record { type = leaf (sub_byte 0 3); expression = leaf (sub_byte 1 3); answer = false }
    ∷ record { type = fixed_array (leaf (primitive 3)) 4; expression = fixed_array (leaf (named 0)) 4; answer = true }
    ∷ record { type = fixed_array (leaf (primitive 3)) 4; expression = fixed_array (leaf (named 0)) 5; answer = false }
    ∷ record { type = leaf (bits_inline (0 ∷ 1 ∷ [])); expression = leaf (bits_inline (0 ∷ 2 ∷ [])); answer = false }
    ∷ record { type = pair map_of (leaf (primitive 3)) (leaf (named 2)); expression = pair map_of (leaf (named 0)) (leaf (named 3)); answer = true }
    ∷ []

pub lines_hold : map (λ l. has_field (field 4 l.type ∷ field 5 l.type ∷ []) 5 (meaning_of schema (0 ∷ []) (leaf (primitive 3) ∷ []) l.expression)) lines ≡ map (λ l. l.answer) lines
unfolding slot_of resolved argument_of leaf_value value_of leaf_meant substitute applied meaning_of same_names same_leaf same_tree is_field has_field
lines_hold = refl

-- a field of another name does not count
pub by_name : has_field (field 4 (leaf (primitive 3)) ∷ []) 5 (meaning_of schema (0 ∷ []) (leaf (primitive 3) ∷ []) (leaf (named 0))) ≡ false
unfolding argument_of leaf_meant substitute meaning_of same_names same_leaf same_tree is_field has_field
by_name = refl

-- a search for the field 5: the trait's parameters and what they stand for, the fields of the message, the expression; whether it is found, and
-- how many look-ups that takes
pub record Search : Type 0 where
  pub parameters : List ℕ
  pub arguments : List Tree
  pub fields : List Field
  pub expression : Tree
  pub found : Bool
  pub look_ups : ℕ

-- T stands for U8
abbrev of_t : List Field → Tree → Bool → ℕ → Search
of_t fs e b n = record { parameters = 0 ∷ []; arguments = leaf (primitive 3) ∷ []; fields = fs; expression = e; found = b; look_ups = n }

abbrev searches : List Search
searches =
    -- a name twice; once more below a generic that finds no alias, but a message or nothing
    of_t (field 5 (pair map_of (leaf (primitive 3)) (leaf (primitive 3))) ∷ []) (pair map_of (leaf (named 0)) (leaf (named 0))) true 2
    ∷ of_t (field 5 (leaf (named 4294967295)) ∷ []) (generic 3 (pair map_of (leaf (named 0)) (leaf (named 0)))) true 2
    ∷ of_t (field 5 (leaf (named 4294967295)) ∷ []) (generic 0 (leaf (named 0))) true 1
    -- `Twice<M>`: the names in the targets of Twice and Box are not in the expression, and a generic's own name is no plain one
    ∷ of_t (field 5 (leaf (named 2)) ∷ []) (generic 2 (leaf (named 3))) true 1
    -- no field of that name: none at all, one of another name, three; the type of the only one is another
    ∷ of_t [] (wrap optional (leaf (named 0))) false 1
    ∷ of_t (field 4 (leaf (primitive 3)) ∷ []) (leaf (named 0)) false 1
    ∷ of_t (field 4 (leaf (primitive 3)) ∷ field 4 (leaf (primitive 3)) ∷ field 6 (leaf (primitive 3)) ∷ []) (leaf (named 0)) false 1
    ∷ of_t (field 5 (leaf (primitive 2)) ∷ []) (fixed_array (leaf (named 0)) 4) false 1
    -- a qualified name, and none
    ∷ of_t (field 5 (leaf (named 2)) ∷ []) (leaf (qualified 3)) true 0
    ∷ of_t (field 5 (leaf (primitive 3)) ∷ []) (leaf (primitive 3)) true 0
    -- no parameters: looked up all the same
    ∷ record { parameters = []; arguments = []; fields = field 5 (leaf (named 2)) ∷ []; expression = leaf (named 3); found = true; look_ups = 1 }
    ∷ record { parameters = []; arguments = []; fields = []; expression = pair map_of (leaf (named 0)) (leaf (named 3)); found = false; look_ups = 2 }
    ∷ []

pub searches_found : map (λ l. has_field l.fields 5 (meaning_of schema l.parameters l.arguments l.expression)) searches ≡ map (λ l. l.found) searches
unfolding slot_of resolved argument_of leaf_value value_of leaf_meant substitute applied meaning_of same_names same_leaf same_tree is_field has_field
searches_found = refl

pub searches_counted : map (λ l. occurs l.expression) searches ≡ map (λ l. l.look_ups) searches
unfolding occurs
searches_counted = refl
