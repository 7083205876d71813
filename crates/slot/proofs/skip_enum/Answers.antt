use Rattle.number.proofs.Reading.{steps4}
use Rattle.slot.specs.Slot.{enum_at}
use Rattle.number.specs.Grammar.{value}
use Rattle.slot.proofs.skip_enum.Goals as goal

pub returns : goal.returns
unfolding enum_at
returns c = steps4 _ _ _ _ _ (λ b x w os. record { backing = b; non_exhaustive = x; stored_bits = w; ordinals = os }) _ _ _ _ _ (c.skip-backing.ensures value) (c.skip-non_exhaustive.ensures value) (c.skip-stored_bits.ensures value) c.skip_ordinals.ensures
