use Rattle.order.proofs.Leading.{pass_limit}
use Rattle.order.proofs.Origin.pass_field.Goals as goal

pub returns : goal.returns
returns c = pass_limit _ _ _ _ _ _ c.in_ok-behind.ensures _ _ c.skip_limit.ensures c.place_of.ensures
