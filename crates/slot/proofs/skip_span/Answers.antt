use Rattle.number.proofs.Reading.{steps2}
use Rattle.slot.specs.Field.{span_at}
use Rattle.number.specs.Grammar.{value}
use Rattle.slot.proofs.skip_span.Goals as goal

pub returns : goal.returns
unfolding span_at
returns c = steps2 _ _ _ (λ o l. record { offset = o; length = l }) _ _ _ (c.skip-offset.ensures value) (c.skip.ensures value)
