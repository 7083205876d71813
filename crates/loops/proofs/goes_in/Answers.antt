-- Elements of Array (kind 5), Set and Map (7 and 8) are passed over in types, and none in expressions. Assumes nothing.
use native.Mathlib.Omega.{arith}
use Rattle.graph.specs.Ways.{has}
use Rattle.loops.specs.Marks.{enters}
use Rattle.loops.proofs.Marking.{enters_rest, enters_not}
use Rattle.loops.proofs.goes_in.Goals as goal
use Rattle.loops.proofs.goes_in.Goals.{in_default, in_default-2, in-5, in-5-2}

pub returns-after-matches : goal.returns-after-matches
unfolding enters has
returns-after-matches c =
    rw c.in-Resolved.is
    (elim c.match-matches.branch [
      | in_default w ↦ rw w.matches-is (enters_rest c.args.kind (λ e. omega arith) (λ e. omega arith) (λ e. omega arith))
      | in_default-2 w ↦ rw w.matches-is (enters_rest c.args.kind (λ e. omega arith) (λ e. omega arith) (λ e. omega arith))
      | in-5 w ↦ rw (w.matches-is, w.in-5.is)
      | in-5-2 w ↦ rw w.matches-is (enters_not c.args.kind (omega arith) (omega arith))
    ])

pub returns-in-Expression : goal.returns-in-Expression
unfolding enters
returns-in-Expression c = rw c.in-Expression.is
