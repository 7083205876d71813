-- Contracts of inner functions: what arranging the slots answers, and working them out in that order.
use Rattle.std.specs.Prelude.{ℕ, ◌*◌, ◌≤◌, ◌<◌, ◌≡◌, List, Bool, true, false, length, get_or, replicate}
use Rattle.graph.specs.declared.Lowest.{Lowest}
use Rattle.image.specs.Schema.{Schema}
use Rattle.image.specs.declared.Frame.{Frame}
use Rattle.reader.specs.Reading.{schema_of}
use Rattle.reader.specs.Promise.{Promise}
use Rattle.sizes.specs.declared.Layout.{Layout}
use Rattle.sizes.specs.declared.Size.{Size}
use Rattle.sizes.specs.declared.Worked.TheVariants.{Sized}
use Rattle.sizes.specs.Steady.{plain_size}
use Rattle.sizes.specs.Reached.{is_reached, leading_back, visits_of}
use Rattle.marks.specs.Marks.{is_start, Sorted}
use Rattle.wiresize.specs.Asked.{Held}
use Rattle.level.specs.Level.{answer_at, Unknown}
use Rattle.once.specs.declared.Arranged.{Arranged}

-- ## The order

-- tables for so many slots, with nothing in them
pub record Blank (n : ℕ) (declared : List Bool) (leads : List ℕ) (seen : List Bool) (stack order : List ℕ) : Type 0 where
  pub declared_blank : declared ≡ replicate (length declared) false
  pub declared_room : n ≤ length declared
  pub leads_blank : leads ≡ replicate (length leads) 0
  pub leads_room : n * 8 ≤ length leads
  pub seen_blank : seen ≡ replicate (length seen) false
  pub seen_room : n ≤ length seen
  pub stack_room : n ≤ length stack
  pub order_room : n ≤ length order

abbrev pub ArrangedAs : Schema → (order : List ℕ) → Arranged → Type 0
ArrangedAs S order (Arranged.Loop i) = leading_back S ≡ Lowest.At i
ArrangedAs S order (Arranged.Order m) = Sorted S order m

-- the declared messages and unions are marked, and what they reach is in order or leads back to itself
pub record Arranges (S : Schema) (n : ℕ) (declared : List Bool) (order : List ℕ) (r : Arranged) : Type 0 where
  pub starts : (i : ℕ) → i < n → get_or declared i false ≡ is_start S i
  pub arranged : ArrangedAs S order r

-- ## Working out

-- an accepted image, its slots in order, their widths in the size table, and a table that knows no answer yet
pub record Prepared (s starts : List ℕ) (f : Frame) (rows answers order : List ℕ) (m : ℕ) : Type 0 where
  pub promise : Promise s starts f
  pub sorted : Sorted (schema_of f.edition s) order m
  pub order_room : m ≤ length order
  pub row_room : 3 * f.slots ≤ length rows
  pub held : Held (schema_of f.edition s) rows
  pub room : 3 * f.slots ≤ length answers
  pub blank : (i : ℕ) → i < f.slots → Unknown answers i

-- the answers of all that is reached; where each is a size, the visits are those due
pub record AllWorked (L : Layout) (S : Schema) (n : ℕ) (answers : List ℕ) (visits : ℕ) : Type 0 where
  pub right : (i : ℕ) → i < n → is_reached S i ≡ true → answer_at answers i ≡ plain_size L S i
  pub counted : ((i : ℕ) → i < n → is_reached S i ≡ true → (z : Size) × (plain_size L S i ≡ Sized z)) → visits ≡ visits_of S
