use Rattle.number.proofs.Reading.{steps5}
use Rattle.slot.specs.Slot.{impl_at}
use Rattle.number.specs.Grammar.{slot}
use Rattle.slot.proofs.skip_impl.Goals as goal

pub returns : goal.returns
unfolding impl_at
returns c = steps5 _ _ _ _ _ _ (λ p i q ts t. record { span = p; trait_id = i; trait_span = q; arguments = ts; target = t }) _ _ _ _ _ _ c.skip_span-span.ensures (c.skip-trait_id.ensures slot) c.skip_trait_span-trait_span.ensures c.skip_types-arguments.ensures c.skip_tree.ensures
