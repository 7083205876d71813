-- The whole check, for every entry: from an image, its edition and the places of the two tables to the answer and what the tables
-- hold afterwards. An entry says how sizes are laid and what is refused before them, and nothing of findings.
use Rattle.std.specs.Prelude.{ℕ, ◌*◌, ◌≡◌, List, [], cond, length, ltb}
use Rattle.table.specs.Fitted.{fitted}
use Rattle.image.specs.Schema.{Schema}
use Rattle.reader.specs.Reading.{schema_of}
use Rattle.sizes.specs.Names.{NamesObey}
use Rattle.sizes.specs.Demand.{Demand3}
use Rattle.turns.specs.Sizing.{layout_of, sizing_of, sizes_of, WhenRead}
use Rattle.turns.specs.declared.Entry.{Entry}
use Rattle.turns.specs.declared.Sizing.{Sizing}
use Rattle.findings.specs.Finding.{noted}
use Rattle.findings.specs.Findings.{findings_of}
use Rattle.typeck.specs.Enough.{LimitsEnough}
use Rattle.typeck.specs.declared.Verdict.{Verdict}
use Rattle.slot.specs.declared.Edition.{Edition}

-- document 01's number of an answer, 0 for acceptance; and its value: how many findings, or the refusal's place
abbrev pub number_of : Verdict → ℕ
number_of (Verdict.Accepted n) = 0
number_of (Verdict.Refused r p) = r

abbrev pub value_of : Verdict → ℕ
value_of (Verdict.Accepted n) = n
value_of (Verdict.Refused r p) = p

-- refusal 12 where the findings table has under 6 places a finding
unfoldable pub judged : (finding_places : ℕ) → Schema → Verdict
judged q S = cond (ltb q (6 * length (findings_of S))) (Verdict.Refused 12 0) (Verdict.Accepted (length (findings_of S)))

-- refusals 1 to 11, 14 and 15 come before
unfoldable pub verdict_in : (finding_places : ℕ) → Schema → Sizing → Verdict
verdict_in q S (Sizing.Refused r p) = Verdict.Refused r p
verdict_in q S Sizing.Accepted = judged q S

-- the answer
unfoldable pub verdict_of : Entry → Edition → (size_places finding_places : ℕ) → List ℕ → Verdict
verdict_of E ed p q s = verdict_in q (schema_of ed s) (sizing_of E ed p s)

-- a table on acceptance, and zeros on a refusal
abbrev pub on_accepted : Verdict → (places : ℕ) → List ℕ → List ℕ
on_accepted (Verdict.Accepted n) places t = t
on_accepted (Verdict.Refused r i) places t = fitted places []

-- three numbers a slot, and zeros after them
unfoldable pub size_table : Entry → Edition → (size_places finding_places : ℕ) → List ℕ → List ℕ
size_table E ed p q s = on_accepted (verdict_of E ed p q s) p (sizes_of E ed p s)

-- six numbers a finding, and zeros after them
unfoldable pub finding_table : Entry → Edition → (size_places finding_places : ℕ) → List ℕ → List ℕ
finding_table E ed p q s = on_accepted (verdict_of E ed p q s) q (noted q (findings_of (schema_of ed s)))

-- what is said of the answer and of both tables that the caller holds afterwards; on acceptance demand 3 holds of the sizes
pub record Answered (E : Entry) (ed : Edition) (s sizes sizes_after findings findings_after : List ℕ) (r : Verdict) : Type 0 where
  pub answer : r ≡ verdict_of E ed (length sizes) (length findings) s
  pub size_table : sizes_after ≡ size_table E ed (length sizes) (length findings) s
  pub finding_table : findings_after ≡ finding_table E ed (length sizes) (length findings) s
  pub demand : (n : ℕ) → r ≡ Verdict.Accepted n → Demand3 (layout_of E) (schema_of ed s) sizes_after
  pub names : WhenRead ed s (NamesObey (layout_of E))
  pub limits : WhenRead ed s LimitsEnough
