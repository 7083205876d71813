use Rattle.number.proofs.Reading.{steps3}
use Rattle.slot.specs.Slot.{message_at}
use Rattle.slot.proofs.skip_message.Goals as goal

pub returns : goal.returns
unfolding message_at
returns c = steps3 _ _ _ _ (λ p z fs. record { span = p; stored = z; fields = fs }) _ _ _ _ c.skip_span-span.ensures c.skip_stored-stored.ensures c.skip_fields.ensures
