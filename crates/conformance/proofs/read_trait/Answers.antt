use Rattle.view.proofs.Taking.{takes}
use Rattle.conformance.proofs.Bodies.{trait_is_lem}
use Rattle.conformance.proofs.read_trait.Goals as goal

pub returns : goal.returns
returns c = trait_is_lem _ _ _ _ _ (takes _ _ c.take-params.ensures) _ c.skip_numbers.ensures _ c.place_of-after.ensures _ _ (takes _ _ c.take-fields.ensures)
