use Rattle.reach.proofs.Arranging.{lit_on}
use Rattle.reach.proofs.light.Goals as goal

pub loop-s-preserved : goal.loop-s-preserved
loop-s-preserved c = lit_on _ _ _ c.loop-s.invariant c.mark.ensures
