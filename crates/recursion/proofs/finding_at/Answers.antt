use Rattle.view.proofs.Taking.{takes}
use Rattle.recursion.proofs.Checking.{finding_is}
use Rattle.recursion.proofs.finding_at.Goals as goal

pub returns : goal.returns
returns c = finding_is _ _ _ _ _ _ _ (takes _ _ c.take-offset.ensures) (takes _ _ c.take-length.ensures)
