-- Class 1, from an accepted image to findings in a table.
use Rattle.std.specs.Prelude.{ℕ, ◌^◌, ◌≤◌, ◌≡◌, List, [], Bool, length}
use Rattle.number.specs.Grammar.{done, read}
use Rattle.slot.specs.Slot.{Message, message_at}
use Rattle.slot.specs.declared.Edition.{Edition}
use Rattle.image.specs.Schema.{Schema}
use Rattle.image.specs.declared.Frame.{Frame}
use Rattle.reader.specs.Reading.{schema_of}
use Rattle.reader.specs.Promise.{Promise}
use Rattle.findings.specs.Finding.{finding, noted}
use Rattle.findings.specs.Endless.{endless_of}
use Rattle.findings.specs.declared.Finding.{Finding}
use Rattle.walks.specs.Walk.{Held}

-- an accepted image, and a findings table that is empty
pub record Ready (s starts : List ℕ) (f : Frame) (findings : List ℕ) : Type 0 where
  pub promise : Promise s starts f
  pub blank : findings ≡ noted (length findings) []

-- all findings of class 1 of a schema are in the table, as far as it reaches, and are counted
pub record Checked (S : Schema) (before after : List ℕ) (r : ℕ) : Type 0 where
  pub count : r ≡ length (endless_of S S.declared)
  pub table : after ≡ noted (length before) (endless_of S S.declared)
  pub most : r ≤ 2 ^ 27

-- an accepted image, and the tables of its names
pub record Tables (s starts : List ℕ) (f : Frame) (messages : List Bool) (first parts : List ℕ) : Type 0 where
  pub promise : Promise s starts f
  pub held : Held (schema_of f.edition s) messages first parts

-- the finding of the message that stands at a position, in either edition
abbrev pub FindingAt : List ℕ → (body slot : ℕ) → Finding → Type 0
FindingAt s body slot x = (ed : Edition) (names : ℕ) (m : Message) (end : ℕ) → read (message_at ed names) s body ≡ done m end → x ≡ finding 1 slot m.span 0 0
