-- Findings added to the table.
use Rattle.std.specs.Prelude.{ℕ, ◌+◌, ◌*◌, ◌≤◌, ◌≡◌, List, length}
use Rattle.std.proofs.lemmas.List.Edits.{sets}
use Rattle.findings.specs.Finding.{rows_of}
use Rattle.findings.specs.declared.Finding.{Finding}

-- the findings `more`, at most so many, behind the first `count`: what is answered, and the table, as far as it reaches
pub record Adds (most : ℕ) (before after : List ℕ) (count r : ℕ) (more : List Finding) : Type 0 where
  pub answer : r ≡ count + length more
  pub few : r ≤ count + most
  pub table : after ≡ sets before (6 * count) (rows_of more)
