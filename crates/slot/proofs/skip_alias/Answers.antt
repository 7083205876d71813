use Rattle.number.proofs.Reading.{steps2}
use Rattle.slot.specs.Slot.{alias_at}
use Rattle.number.specs.Grammar.{name}
use Rattle.slot.proofs.skip_alias.Goals as goal

pub returns : goal.returns
unfolding alias_at
returns c = steps2 _ _ _ (λ ps e. record { parameters = ps; target = e }) _ _ _ (c.skip_counted-parameters.ensures name) c.skip_tree.ensures
