use Rattle.order.proofs.Leading.{lower_up, lower_down}
use Rattle.order.proofs.is_lower.Goals as goal

pub returns-then-up : goal.returns-then-up
returns-then-up c = lower_up _ _ _ c.if-up.true c.requires

pub returns-else-up : goal.returns-else-up
returns-else-up c = lower_down _ _ _ c.if-up.false
