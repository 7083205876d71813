use Rattle.rows.proofs.Slots.{enum_stored, enum_worked}
use Rattle.rows.proofs.enum_bits.Goals as goal

pub returns-then-declared : goal.returns-then-declared
returns-then-declared c = enum_worked _ _ _ _ _ _ _ _ _ c.take-backing.ensures c.take-non_exhaustive.ensures c.take-stored.ensures _ c.if-declared.true _ c.highest_ordinal-top.ensures _ c.compute_enum_wire_bits.ensures

pub returns-else-declared : goal.returns-else-declared
returns-else-declared c = enum_stored _ _ _ _ _ _ _ _ _ c.take-backing.ensures c.take-non_exhaustive.ensures c.take-stored.ensures _ c.if-declared.false
