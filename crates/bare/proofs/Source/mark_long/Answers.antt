use Rattle.order.proofs.Leading.{type_place}
use Rattle.bare.proofs.Naming.{typed_long}
use Rattle.bare.proofs.Source.mark_long.Goals as goal

pub returns : goal.returns
returns c = typed_long _ _ _ _ _ _ _ _ (λ ed. type_place ed _ _ _ _ _ _ c.skip_below-name.ensures c.skip_encoding.ensures c.place_of-place.ensures) c.mark_type.ensures
