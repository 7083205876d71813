-- After i turns, the rows below i have been through round k.
use Rattle.graph.proofs.Rows.{Rows}
use Rattle.graph.proofs.pass.Given as goal

abbrev pub invariant-loop-i : goal.invariant-loop-i
invariant-loop-i l = Rows l.initial.rows l.k l.i l.rows
