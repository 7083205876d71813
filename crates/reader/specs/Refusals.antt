-- Refusals 7 to 9 as a reader thinks of them, of the schema that the image holds: each is given exactly in its case, where none
-- of a lower number is, and its place is the lowest.
use Rattle.std.specs.Prelude.{ℕ, suc, ◌<◌, ◌≡◌, List, ◌↔◌, get_or}
use Rattle.number.specs.Grammar.{done}
use Rattle.tree.specs.declared.Sort.{Sort}
use Rattle.tree.specs.declared.Sort.TheVariants.{Resolved, Expression}
use Rattle.slot.specs.Slot.{empty}
use Rattle.slot.specs.declared.Edition.{Edition}
use Rattle.image.specs.Schema.{Schema, slot_of}
use Rattle.image.specs.Image.{Image, image_of}
use Rattle.image.specs.declared.Frame.{Frame}
use Rattle.loops.specs.Refusals.{OnLoop}
use Rattle.reader.specs.Reading.{schema_of}
use Rattle.reader.specs.declared.Reading.{Reading}

-- a number has a property, and no lower one does
pub record LowestWith (P : ℕ → Type 0) (x : ℕ) : Type 0 where
  pub holds : P x
  pub lowest : (j : ℕ) → j < x → P j → ⊥

-- a name finds a slot that is empty, as all are past the last
abbrev pub Lost : Schema → (name : ℕ) → Type 0
Lost S n = (i : ℕ) × (get_or S.finds n 0 ≡ suc i) × (slot_of S i ≡ empty)

-- a slot leads back to itself: a newtype by terminal types, an alias by the generics of targets
abbrev pub Looped : Sort → Schema → (slot : ℕ) → Type 0
Looped sort S = OnLoop sort S.finds (slot_of S)

abbrev pub LowestOnLoop : Sort → Schema → (slot : ℕ) → Type 0
LowestOnLoop sort S = LowestWith (Looped sort S)

-- the image passes 1 to 6: it is read to its last byte
pub record Passes6 (ed : Edition) (s : List ℕ) : Type 0 where
  pub image : Image
  pub end : ℕ
  pub reads : image_of ed s ≡ done image end

-- and 7: no name is lost
pub record Passes7 (ed : Edition) (s : List ℕ) : Type 0 where
  pub whole : Passes6 ed s
  pub names : (n : ℕ) → Lost (schema_of ed s) n → ⊥

-- and 8: no newtype is on a loop
pub record Passes8 (ed : Edition) (s : List ℕ) : Type 0 where
  pub before : Passes7 ed s
  pub newtypes : (x : ℕ) → Looped Resolved (schema_of ed s) x → ⊥

-- and 9: no alias is on a loop
pub record Passes9 (ed : Edition) (s : List ℕ) : Type 0 where
  pub before : Passes8 ed s
  pub aliases : (x : ℕ) → Looped Expression (schema_of ed s) x → ⊥

-- an image's answer is 7, 8 or 9 with a place, or acceptance, exactly so
pub record Judged (ed : Edition) (s : List ℕ) (r : Reading) : Type 0 where
  pub seven : (n : ℕ) → (r ≡ Reading.Refused 7 n) ↔ (Passes6 ed s × LowestWith (Lost (schema_of ed s)) n)
  pub eight : (x : ℕ) → (r ≡ Reading.Refused 8 x) ↔ (Passes7 ed s × LowestOnLoop Resolved (schema_of ed s) x)
  pub nine : (x : ℕ) → (r ≡ Reading.Refused 9 x) ↔ (Passes8 ed s × LowestOnLoop Expression (schema_of ed s) x)
  pub accepted : ((f : Frame) × (r ≡ Reading.Accepted f)) ↔ Passes9 ed s
