use Rattle.graph.proofs.Rows.{closed_start, closed_on}
use Rattle.graph.proofs.close.Goals as goal

pub loop-k-init : goal.loop-k-init
loop-k-init c = closed_start _ _

pub loop-k-preserved : goal.loop-k-preserved
loop-k-preserved c = closed_on _ _ _ _ c.requires.0 c.requires.1 c.loop-k.invariant _ c.loop-k-test.true c.pass.ensures
