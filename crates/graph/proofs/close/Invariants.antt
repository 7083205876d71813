-- After the rounds below k, the table has the ways through numbers below k.
use Rattle.graph.specs.Table.{Closed}
use Rattle.graph.proofs.close.Given as goal

abbrev pub invariant-loop-k : goal.invariant-loop-k
invariant-loop-k l = Closed l.initial.rows l.k l.count l.rows
