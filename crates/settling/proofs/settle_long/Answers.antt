use Rattle.settling.specs.Steps.{frame_of}
use Rattle.settling.proofs.Settling.{at_type, by_varint, by_zigzag}
use Rattle.settling.proofs.settle_long.Goals as goal

pub returns-in-Plain : goal.returns-in-Plain
returns-in-Plain c = at_type (frame_of c.args.scope) _ _ _ c.field_type.ensures _ c.in-Plain.is

pub returns-in-Varint : goal.returns-in-Varint
returns-in-Varint c = by_varint (frame_of c.args.scope) _ _ _ c.field_type.ensures _ c.in-Varint.is _ _ c.varint_type-field.ensures c.pass_limit.ensures

pub returns-in-ZigZag : goal.returns-in-ZigZag
returns-in-ZigZag c = by_zigzag (frame_of c.args.scope) _ _ _ c.field_type.ensures _ c.in-ZigZag.is _ _ c.zigzag_type-field.ensures c.pass_limit-in-ZigZag.ensures
