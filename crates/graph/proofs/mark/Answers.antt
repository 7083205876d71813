-- One bit is set.
use Rattle.graph.proofs.Rows.{marked}
use Rattle.graph.proofs.mark.Goals as goal

pub returns-then-b-lt512 : goal.returns-then-b-lt512
returns-then-b-lt512 c = marked _ _ _ c.requires c.if-b-lt512.true
