use Rattle.order.proofs.Leading.{type_place, pass_long}
use Rattle.order.proofs.Origin.pass_long_field.Goals as goal

pub returns : goal.returns
returns c = pass_long _ _ _ _ _ _ _ (type_place _ _ _ _ _ _ _ c.skip_below-name.ensures c.skip_encoding.ensures c.place_of.ensures) c.pass_type.ensures
