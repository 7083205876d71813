-- The starts below s are in order, with all that they lead to.
use Rattle.reach.proofs.Walking.{E}
use Rattle.reach.proofs.Arranging.{Sofar}
use Rattle.reach.proofs.arrange.Given as goal

abbrev pub invariant-loop-s : goal.invariant-loop-s
invariant-loop-s l = Sofar (E l.count l.rows) l.count l.starts l.seen l.left l.stack l.order l.s l.done
