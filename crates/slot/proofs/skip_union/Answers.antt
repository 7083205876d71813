use Rattle.number.proofs.Reading.{steps2}
use Rattle.slot.specs.Slot.{union_at}
use Rattle.slot.proofs.skip_union.Goals as goal

pub returns : goal.returns
unfolding union_at
returns c = steps2 _ _ _ (λ z vs. record { stored = z; variants = vs }) _ _ _ c.skip_stored-stored.ensures c.skip_variants.ensures
