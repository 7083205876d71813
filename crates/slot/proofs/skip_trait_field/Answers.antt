use Rattle.number.proofs.Reading.{steps2}
use Rattle.slot.specs.Slot.{trait_field_at}
use Rattle.number.specs.Grammar.{name}
use Rattle.slot.proofs.skip_trait_field.Goals as goal

pub returns : goal.returns
unfolding trait_field_at
returns c = steps2 _ _ _ (λ n e. record { field_name = n; type = e }) _ _ _ (c.skip-name.ensures name) c.skip_tree.ensures
