-- By the kind of the type. Assumes nothing.
use native.Mathlib.Omega.{arith}
use Rattle.number.proofs.Reading.{told}
use Rattle.marks.proofs.Fields.{none_marked, other_marked}
use Rattle.marks.proofs.Source.mark_limited.Goals as goal

pub returns-in_default : goal.returns-in_default
returns-in_default c = λ e. none_marked _ _ _ _ _ (told c.read_below.ensures c.in_default.is) _ _

pub returns-in_default-kind : goal.returns-in_default-kind
returns-in_default-kind c =
    λ e.
    other_marked _ _ _ _ _ _ _ (told c.read_below.ensures c.in-Value.is)
    (λ k. grind arith)
    (λ k. grind arith)
    (λ k. grind arith)
    _ _ (rw e at c.mark_whole.ensures)
