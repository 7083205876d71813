use Rattle.number.proofs.Reading.{steps2}
use Rattle.slot.specs.Slot.{trait_at}
use Rattle.number.specs.Grammar.{name}
use Rattle.slot.proofs.skip_trait.Goals as goal

pub returns : goal.returns
unfolding trait_at
returns c = steps2 _ _ _ (λ ps fs. record { parameters = ps; fields = fs }) _ _ _ (c.skip_counted-parameters.ensures name) c.skip_trait_fields.ensures
