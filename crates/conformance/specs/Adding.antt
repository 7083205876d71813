-- What each step of the check may rely on, and which findings it adds to the table.
use Rattle.std.specs.Prelude.{ℕ, ◌≤◌, ◌<◌, ◌^◌, ◌≡◌, List}
use Rattle.number.specs.Grammar.{done, read}
use Rattle.slot.specs.Field.{fields_at}
use Rattle.slot.specs.Slot.{Message, Trait, Impl}
use Rattle.image.specs.Schema.{Schema, slot_of}
use Rattle.image.specs.declared.Frame.{Frame}
use Rattle.reader.specs.Promise.{Promise}
use Rattle.findings.specs.Meaning.{value_of}
use Rattle.findings.specs.Conformance.{on_value, impl_findings}
use Rattle.findings.specs.declared.Finding.{Finding}
use Rattle.conformance.specs.Parts.{ImplIs, TraitIs}
use Rattle.conformance.specs.declared.ImplDef.{ImplDef}
use Rattle.conformance.specs.declared.TraitDef.{TraitDef}

-- classes 3 and 4 have the impl's span
abbrev pub own_finding : (class slot : ℕ) → ImplDef → (a : ℕ) → Finding
own_finding c i d k = record { class = c; slot = i; offset = d.offset; length = d.length; a = k; b = 0 }

-- by the impl's target
unfoldable pub target_findings : Schema → (slot : ℕ) → Impl → Trait → List Finding
target_findings S i x t = on_value S i x t (value_of x.target)

unfoldable pub slot_findings : Schema → (slot : ℕ) → List Finding
slot_findings S i = impl_findings S i (slot_of S i)

-- a slot of an accepted image, and not too many findings before
pub record SlotAsked (s starts : List ℕ) (f : Frame) (slot count : ℕ) : Type 0 where
  pub promise : Promise s starts f
  pub there : slot < f.slots
  pub before : count ≤ 2 ^ 28

-- an impl and its trait, taken apart
pub record Paired (s starts : List ℕ) (f : Frame) (d : ImplDef) (e : TraitDef) (count : ℕ) : Type 0 where
  pub promise : Promise s starts f
  pub before : count ≤ 2 ^ 28
  pub impl : Impl
  pub impl_is : ImplIs f.names s d impl
  pub trait : Trait
  pub trait_is : TraitIs f.names s e trait

-- and the message that the impl is for, whose fields stand at `place`
pub record Targeted (s starts : List ℕ) (f : Frame) (d : ImplDef) (e : TraitDef) (place count : ℕ) : Type 0 where
  pub paired : Paired s starts f d e count
  pub message : Message
  pub end : ℕ
  pub reads : read (fields_at f.edition f.names) s place ≡ done message.fields end
