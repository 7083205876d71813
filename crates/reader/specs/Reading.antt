-- Refusals 7 to 9, and what reading an image answers.
use Rattle.std.specs.Prelude.{ℕ, zero, suc, List, [], Bool, true, false, length, get_or, replicate}
use Rattle.std.proofs.lemmas.List.Edits.{sets}
use Rattle.number.specs.Grammar.{Outcome, done, refused}
use Rattle.tree.specs.declared.Sort.TheVariants.{Resolved, Expression}
use Rattle.slot.specs.Slot.{Slot, empty, message, enum, flags, union, newtype, config, alias, trait, impl}
use Rattle.slot.specs.declared.Edition.{Edition}
use Rattle.graph.specs.Ways.{lowest, if_found}
use Rattle.graph.specs.declared.Lowest.{Lowest}
use Rattle.image.specs.Schema.{Schema, slot_of}
use Rattle.image.specs.Image.{Image, image_of, schema_in, frame_in, starts_of}
use Rattle.image.specs.declared.Frame.{Frame}
use Rattle.loops.specs.Leads.{loop_of}
use Rattle.reader.specs.declared.Reading.{Reading}

abbrev pub is_empty : Slot → Bool
is_empty empty = true
is_empty (message m) = false
is_empty (enum e) = false
is_empty (flags f) = false
is_empty (union u) = false
is_empty (newtype n) = false
is_empty config = false
is_empty (alias a) = false
is_empty (trait t) = false
is_empty (impl i) = false

-- does a name that finds slot + 1 find one that is empty or beyond the slots? One that finds 0 finds none
unfoldable pub lost : (slots : ℕ → Slot) → (find : ℕ) → Bool
lost slots zero = false
lost slots (suc i) = is_empty (slots i)

-- refusal 7: the lowest such name
unfoldable pub lost_name : (finds : List ℕ) → (slots : ℕ → Slot) → Lowest
lost_name finds slots = lowest (λ n. lost slots (get_or finds n 0)) (length finds) 0

-- a refusal where something was found, else what comes after
abbrev pub or_refuse : (number : ℕ) → Lowest → Reading → Reading
or_refuse r found after = if_found (Reading.Refused r) found after

-- refusals 7, 8 and 9 in their order: loops of newtypes by terminal types, and of aliases by generics
unfoldable pub judged : Schema → Frame → Reading
judged S f =
    or_refuse 7 (lost_name S.finds (slot_of S))
    (or_refuse 8 (loop_of Resolved S.finds (slot_of S) (length S.slots))
    (or_refuse 9 (loop_of Expression S.finds (slot_of S) (length S.slots))
    (Reading.Accepted f)))

abbrev pub answered : Outcome Image → Reading
answered (done i n) = judged (schema_in i) (frame_in i)
answered (refused r p) = Reading.Refused r p

-- refusals 1 to 9, or acceptance
unfoldable pub reading_of : Edition → List ℕ → Reading
reading_of ed s = answered (image_of ed s)

abbrev pub no_schema : Schema
no_schema = record { finds = []; slots = []; declared = [] }

abbrev pub schema_or : Outcome Image → Schema
schema_or (done i n) = schema_in i
schema_or (refused r p) = no_schema

-- the schema of an image; one that was not read has none
unfoldable pub schema_of : Edition → List ℕ → Schema
schema_of ed s = schema_or (image_of ed s)

abbrev pub starts_or : Reading → Outcome Image → List ℕ
starts_or (Reading.Accepted f) (done i n) = starts_of i.slots
starts_or (Reading.Accepted f) (refused r p) = []
starts_or (Reading.Refused r p) o = []

-- the table of slot starts: those of an accepted image, and zeros
unfoldable pub starts_table : Edition → List ℕ → List ℕ
starts_table ed s = sets (replicate 512 0) 0 (starts_or (reading_of ed s) (image_of ed s))
