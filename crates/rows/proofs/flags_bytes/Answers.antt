use Rattle.rows.proofs.Slots.{flags_stored, flags_worked}
use Rattle.rows.proofs.flags_bytes.Goals as goal

pub returns-then-declared : goal.returns-then-declared
returns-then-declared c = flags_worked _ _ _ _ _ c.take-stored.ensures _ c.if-declared.true _ c.highest_ordinal.ensures _ c.compute_flags_wire_bytes.ensures

pub returns-else-declared : goal.returns-else-declared
returns-else-declared c = flags_stored _ _ _ _ _ c.take-stored.ensures _ c.if-declared.false
