-- What the code that fills the size table says of its steps.
use Rattle.std.specs.Prelude.{ℕ, ◌*◌, ◌≤◌, ◌<◌, ◌≡◌, List, Bool, false, ◌||◌, length, get_or}
use Rattle.number.specs.Grammar.{Grammar, done, below, read}
use Rattle.slot.specs.declared.Edition.{Edition}
use Rattle.graph.specs.Ways.{has}
use Rattle.image.specs.Schema.{slot_of}
use Rattle.image.specs.declared.Frame.{Frame}
use Rattle.reader.specs.Reading.{schema_of}
use Rattle.reader.specs.Promise.{Promise}
use Rattle.sizes.specs.Widths.{highest}
use Rattle.sizes.specs.Check.{row, slot_row, is_there, brought}
use Rattle.rows.specs.declared.Row.{Row}

abbrev pub numbers : Row → List ℕ
numbers r = row r.kind r.a r.b

-- a number and the position after it, where one below some limit stands
abbrev pub Takes : List ℕ → (at value next : ℕ) → Type 0
Takes s at v n = (limit w m : ℕ) → below limit s at ≡ done w m → (v ≡ w) × (n ≡ m)

-- the highest of a list that stands there and a start value, and the position after the list
abbrev pub Tops : Grammar (List ℕ) → List ℕ → (at start top next : ℕ) → Type 0
Tops g s at start v n = (os : List ℕ) (m : ℕ) → read g s at ≡ done os m → (v ≡ highest start os) × (n ≡ m)

-- a table of marks, and the same with the slots of a list marked
abbrev pub Marked : (before : List Bool) → (slots : List ℕ) → (after : List Bool) → Type 0
Marked before ds after = (i : ℕ) → i < length before → get_or after i false ≡ (get_or before i false || has i ds)

-- what the image brings for slot i, and its width, computed if the slot is declared
abbrev pub RowIs : (s starts : List ℕ) → Edition → (i : ℕ) → (declared : Bool) → Row → Type 0
RowIs s starts ed i declared r =
    (f : Frame) → f.edition ≡ ed → Promise s starts f → i < f.slots → declared ≡ has i (schema_of f.edition s).declared
    → numbers r ≡ slot_row (schema_of f.edition s) (brought (schema_of f.edition s)) i (slot_of (schema_of f.edition s) i)

-- whether the image brings a size for slot i
abbrev pub BringsIs : (s starts : List ℕ) → (i : ℕ) → Bool → Type 0
BringsIs s starts i r = (f : Frame) → Promise s starts f → i < f.slots → r ≡ is_there (brought (schema_of f.edition s) i)

-- an accepted image, of whose slots those declared are marked, and a size table with three places a slot
pub record Known (s starts : List ℕ) (f : Frame) (marks : List Bool) (rows : List ℕ) : Type 0 where
  pub promise : Promise s starts f
  pub room : f.slots ≤ length marks
  pub places : 3 * f.slots ≤ length rows
  pub declared : (i : ℕ) → i < f.slots → get_or marks i false ≡ has i (schema_of f.edition s).declared

-- an accepted image, and a size table with three places a slot
pub record Ready (s starts : List ℕ) (f : Frame) (rows : List ℕ) : Type 0 where
  pub promise : Promise s starts f
  pub places : 3 * f.slots ≤ length rows
