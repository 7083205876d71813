-- From an image and the places of a size table to the answer and the table. Refusals 10, 11, 14 and 15.
use Rattle.std.specs.Prelude.{ℕ, ◌*◌, ◌≤◌, ◌≡◌, List, [], cond, length, ltb, Result, Ok, Err, ⊤}
use Rattle.std.proofs.lemmas.List.Edits.{sets}
use Rattle.graph.specs.Ways.{if_found}
use Rattle.image.specs.Schema.{Schema}
use Rattle.image.specs.declared.Frame.{Frame}
use Rattle.reader.specs.Reading.{reading_of, schema_of}
use Rattle.reader.specs.declared.Reading.{Reading}
use Rattle.sizes.specs.declared.Layout.{Layout}
use Rattle.sizes.specs.declared.Layout.TheVariants.{Packed, Aligned}
use Rattle.sizes.specs.Sizes.{refusal_of}
use Rattle.sizes.specs.declared.Operation.{Operation}
use Rattle.sizes.specs.Names.{State, NamesObey}
use Rattle.sizes.specs.Check.{Checked, accepted, refused, turn, check_sizes, brought, stored_slot, table_of}
use Rattle.sizes.specs.Demand.{Demand3}
use Rattle.table.specs.Fitted.{fitted}
use Rattle.turns.specs.declared.Entry.{Entry}
use Rattle.turns.specs.declared.Entry.TheVariants.{Ordinary, HeadBoard}
use Rattle.turns.specs.declared.Sizing.{Sizing}
use Rattle.slot.specs.declared.Edition.{Edition}

-- ## The entries

-- the head board starts every field on a whole byte
abbrev pub layout_of : Entry → Layout
layout_of Ordinary = Packed
layout_of HeadBoard = Aligned

-- what an entry refuses of a schema that was read, before any size is worked out
unfoldable pub gated : Entry → Schema → Sizing → Sizing
gated Ordinary S after = after
gated HeadBoard S after = if_found (Sizing.Refused 15) (stored_slot S) after

-- ## The answer

-- refusal 11 or 14 at the declared slot being worked
abbrev pub verdict : Checked → Sizing
verdict (accepted st) = Sizing.Accepted
verdict (refused o i) = Sizing.Refused (refusal_of o) i

-- refusal 10 where the table has under 3 places a slot, before any size is worked out
unfoldable pub worked_in : Layout → (places : ℕ) → Schema → Sizing
worked_in L places S = cond (ltb places (3 * length S.slots)) (Sizing.Refused 10 0) (verdict (check_sizes L S))

-- an image that was read, or not
unfoldable pub sizing_in : Entry → (places : ℕ) → Schema → Reading → Sizing
sizing_in E places S (Reading.Refused r p) = Sizing.Refused r p
sizing_in E places S (Reading.Accepted f) = gated E S (worked_in (layout_of E) places S)

-- the answer, refusals 1 to 11, 14 and 15
unfoldable pub sizing_of : Entry → Edition → (places : ℕ) → List ℕ → Sizing
sizing_of E ed places s = sizing_in E places (schema_of ed s) (reading_of ed s)

-- ## The table

-- the rows after the last turn
abbrev pub rows_in : Schema → Checked → List ℕ
rows_in S (accepted st) = table_of S st
rows_in S (refused o i) = []

-- none on a refusal
abbrev pub on_sized : Sizing → List ℕ → List ℕ
on_sized Sizing.Accepted rows = rows
on_sized (Sizing.Refused r p) rows = []

-- three numbers a slot, places left over zero, all zero on a refusal
abbrev pub table_by : Layout → (places : ℕ) → Schema → Sizing → List ℕ
table_by L places S r = fitted places (on_sized r (rows_in S (check_sizes L S)))

unfoldable pub sizes_of : Entry → Edition → (places : ℕ) → List ℕ → List ℕ
sizes_of E ed places s = table_by (layout_of E) places (schema_of ed s) (sizing_of E ed places s)

-- ## What is said of them

-- of the schema of an image that is read, one that 10, 11, 12, 14 or 15 refuses too
abbrev pub WhenRead : Edition → List ℕ → (Schema → Type 0) → Type 0
WhenRead ed s P = (f : Frame) → reading_of ed s ≡ Reading.Accepted f → P (schema_of ed s)

-- what is said of the answer and of the table that the caller holds afterwards; on acceptance demand 3 holds of it
pub record Answered (E : Entry) (ed : Edition) (s before after : List ℕ) (r : Sizing) : Type 0 where
  pub answer : r ≡ sizing_of E ed (length before) s
  pub table : after ≡ sizes_of E ed (length before) s
  pub demand : r ≡ Sizing.Accepted → Demand3 (layout_of E) (schema_of ed s) after
  pub names : WhenRead ed s (NamesObey (layout_of E))

-- ## Contracts of inner functions

-- the same of a schema, by the answer that is due
pub record SizesSaid (L : Layout) (S : Schema) (answer : Sizing) (before after : List ℕ) (r : Sizing) : Type 0 where
  pub answers : r ≡ answer
  pub table : after ≡ table_by L (length before) S r
  pub demand : r ≡ Sizing.Accepted → Demand3 L S after

-- the sizes that the image brings stand in the table, before the first turn
pub record Begun (S : Schema) (rows : List ℕ) : Type 0 where
  pub base : List ℕ
  pub room : 3 * length S.slots ≤ length base
  pub filled : rows ≡ sets base 0 (table_of S (brought S))

-- a place of the declaration list was passed: the rows hold the sizes stored then, or a number passed the limit
abbrev pub TurnTaken : Layout → Schema → State → (slot : ℕ) → (l after : List ℕ) → Result ⊤ Operation → Type 0
TurnTaken L S st i l after (Ok u) = (st' : State) × (turn L S st i ≡ accepted st') × (after ≡ sets l 0 (table_of S st'))
TurnTaken L S st i l after (Err o) = turn L S st i ≡ refused o i

-- all places were passed, or a number passed the limit at a slot's turn
abbrev pub Through : Layout → Schema → (l after : List ℕ) → Result ⊤ (Operation × ℕ) → Type 0
Through L S l after (Ok u) = (st : State) × (check_sizes L S ≡ accepted st) × (after ≡ sets l 0 (table_of S st))
Through L S l after (Err (o, i)) = check_sizes L S ≡ refused o i
