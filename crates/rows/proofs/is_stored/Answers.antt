use Rattle.rows.proofs.Slots.{stored_there}
use Rattle.rows.proofs.is_stored.Goals as goal

pub returns : goal.returns
returns c = λ z n e. stored_there _ _ _ _ c.take-kind.ensures z n e
