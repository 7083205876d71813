-- By the encoding that governs the field. Assumes nothing.
use Rattle.marks.proofs.Fields.{plain_marked, varint_marked, zigzag_marked}
use Rattle.marks.proofs.Source.mark_long.Goals as goal

pub returns-in-Plain : goal.returns-in-Plain
returns-in-Plain c = plain_marked _ _ _ _ _ _ _ c.field_type.ensures _ c.in-Plain.is _ _ c.mark_plain.ensures

pub returns-in-Varint : goal.returns-in-Varint
returns-in-Varint c = varint_marked _ _ _ _ _ _ _ c.field_type.ensures _ c.in-Varint.is _ c.pass_field.ensures

pub returns-in-ZigZag : goal.returns-in-ZigZag
returns-in-ZigZag c = zigzag_marked _ _ _ _ _ _ _ c.field_type.ensures _ c.in-ZigZag.is _ c.pass_field-in-ZigZag.ensures
