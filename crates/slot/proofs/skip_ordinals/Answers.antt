use Rattle.number.specs.Grammar.{value}
use Rattle.number.proofs.Reading.{steps2}
use Rattle.slot.specs.Slot.{ordinals_at}
use Rattle.slot.proofs.skip_ordinals.Goals as goal

pub returns : goal.returns
unfolding ordinals_at
returns c = steps2 _ _ _ (λ os rs. record { live = os; retired = rs }) _ _ _ (c.skip_counted-live.ensures value) c.skip_retired.ensures
