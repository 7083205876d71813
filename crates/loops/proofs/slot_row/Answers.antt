-- The slot's tree is marked, or there is none. Assumes nothing.
use Rattle.loops.proofs.Filling.{row_of, row_none}
use Rattle.loops.proofs.slot_row.Goals as goal

pub returns-then-is_lead : goal.returns-then-is_lead
returns-then-is_lead c = row_of _ _ _ _ _ _ _ _ c.is_lead.ensures c.if-is_lead.true _ _ _ c.slot_inside-start.ensures c.mark_tree.ensures

pub returns-else-is_lead : goal.returns-else-is_lead
returns-else-is_lead c = row_none _ _ _ _ _ _ _ _ c.is_lead.ensures c.if-is_lead.false
