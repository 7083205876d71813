use Rattle.rows.proofs.Slots.{counted_tops}
use Rattle.rows.proofs.highest_counted.Goals as goal

pub returns : goal.returns
returns c = counted_tops _ _ _ _ c.take-count.ensures _ _ _ c.highest_of.ensures
