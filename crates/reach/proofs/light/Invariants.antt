-- The places below s are lit.
use Rattle.reach.specs.Order.{Lit}
use Rattle.reach.proofs.light.Given as goal

abbrev pub invariant-loop-s : goal.invariant-loop-s
invariant-loop-s l = Lit l.s l.left
