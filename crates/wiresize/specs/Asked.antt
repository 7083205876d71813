-- What each step of working sizes out may rely on, and what it answers.
use Rattle.std.specs.Prelude.{ℕ, ◌*◌, ◌≤◌, ◌≡◌, List, Bool, false, length, get_or}
use Rattle.std.proofs.Math.Option.{Option, none, some}
use Rattle.number.specs.Grammar.{Grammar, many, done, read}
use Rattle.slot.specs.Field.{fields_at}
use Rattle.slot.specs.declared.Edition.{Edition}
use Rattle.image.specs.Schema.{Schema}
use Rattle.image.specs.declared.Frame.{Frame}
use Rattle.reader.specs.Promise.{Promise}
use Rattle.sizes.specs.declared.Layout.{Layout}
use Rattle.sizes.specs.declared.Size.{Size}
use Rattle.sizes.specs.declared.Size.TheVariants.{Bounded}
use Rattle.sizes.specs.declared.Worked.{Worked}
use Rattle.sizes.specs.declared.Worked.TheVariants.{Sized, Over}
use Rattle.sizes.specs.Sizes.{largest, then, Resolver, element_size, up_to, fields_size, mark, add_variants}
use Rattle.sizes.specs.Names.{State, Working, name_size}
use Rattle.sizes.specs.Check.{own_size}
use Rattle.settling.specs.Steps.{element_at}
use Rattle.settling.specs.declared.Limited.{Limited}
use Rattle.settling.specs.declared.Walked.{Walked}
use Rattle.wiresize.specs.declared.Turned.{Turned}
use Rattle.wiresize.specs.declared.Varied.{Varied}
use Rattle.wiresize.specs.Rows.{RowsHold}

-- the slots that are marked
abbrev pub marked : List Bool → Working
marked w j = get_or w j false

-- an accepted image, a table that has a row for each slot, a mark for each slot
pub record Ready (s starts : List ℕ) (f : Frame) (rows : List ℕ) (w : List Bool) : Type 0 where
  pub promise : Promise s starts f
  pub row_room : 3 * f.slots ≤ length rows
  pub marks : length w ≡ 512

-- something of the schema stands at the position
pub record Asked {A : Type 0} (g : Grammar A) (s starts : List ℕ) (f : Frame) (rows : List ℕ) (w : List Bool) (at : ℕ) : Type 0 where
  pub ready : Ready s starts f rows w
  pub thing : A
  pub end : ℕ
  pub reads : read g s at ≡ done thing end

-- what names come to while slots are marked
abbrev pub resolver : Layout → Schema → State → List Bool → Resolver
resolver L S st w = name_size L S st (marked w)

-- a meaning of names: what they come to while slots are marked, whatever the sizes stored, if the table holds them
pub record Meant (L : Layout) (S : Schema) (rows : List ℕ) (w : List Bool) (R : Resolver) : Type 0 where
  pub state : State
  pub holds : RowsHold S state rows
  pub is : R ≡ resolver L S state w

-- the size of what stands there, for each meaning of names that is allowed
pub record WorksOut (Means : Resolver → Type 0) {A : Type 0} (g : Grammar A) (size : Resolver → A → Worked) (s : List ℕ) (at : ℕ) (r : Worked) : Type 0 where
  pub worked : (x : A) (end : ℕ) → read g s at ≡ done x end → (R : Resolver) → Means R → r ≡ size R x

-- and, where it has one, the position after it
pub record Walks (Means : Resolver → Type 0) {A : Type 0} (g : Grammar A) (size : Resolver → A → Worked) (s : List ℕ) (at : ℕ) (r : Walked) : Type 0 where
  pub next : (x : A) (end : ℕ) → read g s at ≡ done x end → (z : Size) → r.worked ≡ Sized z → r.next ≡ end
  pub works : WorksOut Means g size s at r.worked

-- so many elements at most, and the position after the field
pub record Counts (Means : Resolver → Type 0) (s : List ℕ) (names : ℕ) (l : Limited) (r : Walked) : Type 0 where
  pub next : r.next ≡ l.next
  pub works : WorksOut Means (element_at names l.kind) (λ R e. then (element_size R e) (λ z. up_to l.most (largest z))) s l.body r.worked

-- variants that stand one behind the other: their extremes, and of one alone its size
abbrev pub extremes_in : Varied → Worked
extremes_in (Varied.Sized extremes last) = Sized extremes
extremes_in (Varied.Over o) = Over o

abbrev pub last_in : Varied → Worked
last_in (Varied.Sized extremes last) = Sized last
last_in (Varied.Over o) = Over o

pub record Varies (Means : Resolver → Type 0) (L : Layout) (s : List ℕ) (ed : Edition) (names count at : ℕ) (r : Varied) : Type 0 where
  pub extremes : WorksOut Means (many count (fields_at ed names)) (λ R. add_variants L R (Bounded mark 0)) s at (extremes_in r)
  pub alone : count ≡ 1 → WorksOut Means (fields_at ed names) (fields_size L) s at (last_in r)

pub record Names (L : Layout) (S : Schema) (rows : List ℕ) (w : List Bool) (id : ℕ) (r : Worked) : Type 0 where
  pub worked : (st : State) → RowsHold S st rows → r ≡ resolver L S st w id

-- the table holds the sizes of some state: what it holds of messages and unions is all that a size depends on
pub record Held (S : Schema) (rows : List ℕ) : Type 0 where
  pub state : State
  pub holds : RowsHold S state rows

-- what a turn answers
abbrev pub turn_of : Turned → Option Worked
turn_of (Turned.Sized s) = some (Sized s)
turn_of (Turned.Over o) = some (Over o)
turn_of Turned.Other = none

pub record Owns (L : Layout) (S : Schema) (rows : List ℕ) (slot : ℕ) (r : Turned) : Type 0 where
  pub turn : (st : State) → RowsHold S st rows → turn_of r ≡ own_size L S st slot

-- what a turn answers of a size that was worked out
abbrev pub turned_as : Worked → Turned
turned_as (Sized s) = Turned.Sized s
turned_as (Over o) = Turned.Over o
