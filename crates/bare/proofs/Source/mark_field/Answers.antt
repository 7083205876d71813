use Rattle.bare.proofs.Naming.{field_marked}
use Rattle.bare.proofs.Source.mark_field.Goals as goal

pub returns : goal.returns
returns c = field_marked _ _ _ _ _ _ _ _ c.mark_typed-behind.ensures _ _ c.skip_limit.ensures c.place_of.ensures
