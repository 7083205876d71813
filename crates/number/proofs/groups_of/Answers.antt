use native.Mathlib.Omega.{arith}
use Rattle.number.proofs.Shortest.{left_start, left_on, left_end}
use Rattle.number.proofs.groups_of.Goals as goal

pub loop-rest-init : goal.loop-rest-init
loop-rest-init c = left_start _ (omega arith)

pub loop-rest-smaller : goal.loop-rest-smaller
loop-rest-smaller c = omega (arith, c.loop-rest.invariant.all)

pub loop-rest-preserved : goal.loop-rest-preserved
loop-rest-preserved c = left_on _ _ _ c.loop-rest.invariant c.loop-rest-test.true

pub returns : goal.returns
returns c = left_end _ _ _ c.loop-rest.invariant (omega arith)
