-- The answers as numbers: a refusal's number and place, or 0 and how many slots an accepted image has.
use Rattle.std.specs.Prelude.{ℕ, ◌≡◌, List, length}
use Rattle.table.specs.Fitted.{fitted}
use Rattle.slot.specs.declared.Edition.{Edition}
use Rattle.slot.specs.declared.Edition.TheVariants.{One}
use Rattle.reader.specs.Reading.{reading_of, starts_table, schema_of}
use Rattle.reader.specs.declared.Reading.{Reading}
use Rattle.sizes.specs.declared.Layout.TheVariants.{Packed}
use Rattle.sizes.specs.Names.{NamesObey}
use Rattle.sizes.specs.Demand.{Demand3}
use Rattle.turns.specs.Sizing.{layout_of, sizing_of, sizes_of, WhenRead}
use Rattle.turns.specs.declared.Entry.{Entry}
use Rattle.turns.specs.declared.Entry.TheVariants.{Ordinary}
use Rattle.turns.specs.declared.Sizing.{Sizing}
use Rattle.typeck.specs.Check.{verdict_of, size_table, finding_table}
use Rattle.typeck.specs.Check as check
use Rattle.typeck.specs.Enough.{LimitsEnough}
use Rattle.typeck.specs.declared.Verdict.{Verdict}

abbrev pub number_of : Reading → ℕ
number_of (Reading.Accepted f) = 0
number_of (Reading.Refused r p) = r

abbrev pub value_of : Reading → ℕ
value_of (Reading.Accepted f) = f.slots
value_of (Reading.Refused r p) = p

-- the same of the size table, whose acceptance counts nothing
abbrev pub sizing_number : Sizing → ℕ
sizing_number Sizing.Accepted = 0
sizing_number (Sizing.Refused r p) = r

abbrev pub sizing_value : Sizing → ℕ
sizing_value Sizing.Accepted = 0
sizing_value (Sizing.Refused r p) = p

-- where the slots start, in a table of so many places
abbrev pub starts_in : Edition → (places : ℕ) → List ℕ → List ℕ
starts_in ed places s = fitted places (starts_table ed s)

-- what reading says in two numbers, and of the table of starts
pub record ReadTold (ed : Edition) (s starts starts_after : List ℕ) (number value : ℕ) : Type 0 where
  pub number_is : number ≡ number_of (reading_of ed s)
  pub value_is : value ≡ value_of (reading_of ed s)
  pub starts_are : starts_after ≡ starts_in ed (length starts) s

-- what the sizes alone say in two numbers, of an image of edition one, and of their table; where the number is 0, demand 3 holds of it
pub record SizesTold (s sizes sizes_after : List ℕ) (number value : ℕ) : Type 0 where
  pub number_is : number ≡ sizing_number (sizing_of Ordinary One (length sizes) s)
  pub value_is : value ≡ sizing_value (sizing_of Ordinary One (length sizes) s)
  pub sizes_are : sizes_after ≡ sizes_of Ordinary One (length sizes) s
  pub demand : sizing_of Ordinary One (length sizes) s ≡ Sizing.Accepted → Demand3 Packed (schema_of One s) sizes_after
  pub names : WhenRead One s (NamesObey Packed)

-- what the whole check of an entry says in two numbers, and of both tables; where the number is 0, demand 3 holds of the size table
pub record Told (E : Entry) (ed : Edition) (s sizes sizes_after findings findings_after : List ℕ) (number value : ℕ) : Type 0 where
  pub number_is : number ≡ check.number_of (verdict_of E ed (length sizes) (length findings) s)
  pub value_is : value ≡ check.value_of (verdict_of E ed (length sizes) (length findings) s)
  pub sizes_are : sizes_after ≡ size_table E ed (length sizes) (length findings) s
  pub findings_are : findings_after ≡ finding_table E ed (length sizes) (length findings) s
  pub demand : (n : ℕ) → verdict_of E ed (length sizes) (length findings) s ≡ Verdict.Accepted n → Demand3 (layout_of E) (schema_of ed s) sizes_after
  pub names : WhenRead ed s (NamesObey (layout_of E))
  pub limits : WhenRead ed s LimitsEnough
