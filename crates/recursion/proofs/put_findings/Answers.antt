use Rattle.recursion.proofs.Checking.{put_start, put_on}
use Rattle.recursion.proofs.put_findings.Goals as goal

pub loop-n-init : goal.loop-n-init
loop-n-init c = put_start _ _ _

pub loop-n-preserved : goal.loop-n-preserved
loop-n-preserved c = put_on _ _ _ _ _ _ c.loop-n.auto.n c.loop-n.invariant c.put_finding.ensures
