use Rattle.number.proofs.Reading.{steps2}
use Rattle.slot.specs.Slot.{newtype_at}
use Rattle.slot.proofs.skip_newtype.Goals as goal

pub returns : goal.returns
unfolding newtype_at
returns c = steps2 _ _ _ (λ i t. record { inner = i; terminal = t }) _ _ _ c.skip_tree-inner.ensures c.skip_tree.ensures
