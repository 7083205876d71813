-- After j turns, row i has taken in the first j words of row k.
use Rattle.graph.proofs.Rows.{Words}
use Rattle.graph.proofs.join_rows.Given as goal

abbrev pub invariant-loop-j : goal.invariant-loop-j
invariant-loop-j l = Words l.initial.rows l.i l.k l.j l.rows
