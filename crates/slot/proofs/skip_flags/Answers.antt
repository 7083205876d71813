use Rattle.number.proofs.Reading.{steps2}
use Rattle.slot.specs.Slot.{flags_at}
use Rattle.number.specs.Grammar.{value}
use Rattle.slot.proofs.skip_flags.Goals as goal

pub returns : goal.returns
unfolding flags_at
returns c = steps2 _ _ _ (λ w bs. record { stored_bytes = w; bits = bs }) _ _ _ (c.skip-stored_bytes.ensures value) c.skip_ordinals.ensures
