use Rattle.rows.proofs.Slots.{span_end_lem}
use Rattle.rows.proofs.after_span.Goals as goal

pub returns : goal.returns
returns c = span_end_lem _ _ _ _ _ _ c.take-at.ensures c.take-at-2.ensures
