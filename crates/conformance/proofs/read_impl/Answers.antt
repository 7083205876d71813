use Rattle.view.proofs.Taking.{takes}
use Rattle.conformance.proofs.Bodies.{impl_is_lem}
use Rattle.conformance.proofs.read_impl.Goals as goal

pub returns : goal.returns
returns c = impl_is_lem _ _ _ _ _ _ _ _ _ (takes _ _ c.take-offset.ensures) (takes _ _ c.take-length.ensures) (takes _ _ c.take-trait_id.ensures) _ c.read_trait_span-span.ensures _ _ (takes _ _ c.take-count.ensures) _ c.read_types.ensures _ c.place_of-target_type.ensures
