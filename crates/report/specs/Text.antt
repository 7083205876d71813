-- The text of a verdict, and of an image.
use Rattle.std.specs.Prelude.{ℕ, ◌≤◌, List, length}
use Rattle.lines.specs.Lines.{refused_text, accepted_text, Holds}
use Rattle.slot.specs.declared.Edition.TheVariants.{One}
use Rattle.turns.specs.declared.Entry.TheVariants.{Ordinary}
use Rattle.typeck.specs.Check.{verdict_of, size_table, finding_table}
use Rattle.typeck.specs.declared.Verdict.{Verdict}

unfoldable pub text_of : Verdict → (sizes findings : List ℕ) → List ℕ
text_of (Verdict.Accepted count) s f = accepted_text s f count
text_of (Verdict.Refused number place) s f = refused_text number place

-- the text for an image of edition one, with places for 512 slots and 1,000 findings
unfoldable pub text_for : List ℕ → List ℕ
text_for s = text_of (verdict_of Ordinary One 1536 6000 s) (size_table Ordinary One 1536 6000 s) (finding_table Ordinary One 1536 6000 s)

-- The contract of an inner function: a verdict's text in a buffer, and its length if there are at most 512 slots and 1,000
-- findings.
abbrev pub count_of : Verdict → ℕ
count_of (Verdict.Accepted count) = count
count_of (Verdict.Refused number place) = 0

pub record VerdictWritten (places : ℕ) (v : Verdict) (sizes findings out : List ℕ) (used : ℕ) : Type 0 where
  pub holds : Holds places (text_of v sizes findings) out used
  pub most : length sizes ≤ 1536 → count_of v ≤ 1000 → length (text_of v sizes findings) ≤ 180000
