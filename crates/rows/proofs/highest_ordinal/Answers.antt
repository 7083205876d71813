use Rattle.rows.proofs.Slots.{live_top, both_top}
use Rattle.rows.proofs.highest_ordinal.Goals as goal

pub returns-in-One : goal.returns-in-One
returns-in-One c = live_top _ _ _ _ c.highest_counted-live.ensures _ c.in-One.is

pub returns-in-Two : goal.returns-in-Two
returns-in-Two c = both_top _ _ _ _ c.highest_counted-live.ensures _ c.in-Two.is _ _ c.highest_counted.ensures
