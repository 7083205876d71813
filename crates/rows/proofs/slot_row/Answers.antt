use native.Mathlib.Omega.{arith}
use mathlib.Core.Path.{sym, ◌∙◌}
use Rattle.rows.proofs.Slots.{row_message, row_union, row_enum, row_flags, row_blank, row_missing}
use Rattle.rows.proofs.slot_row.Goals as goal

pub returns-in-1 : goal.returns-in-1
returns-in-1 c = row_message _ _ _ _ _ (sym c.slot_part.ensures ∙ c.in-At.is) _ _ c.in-1.is _ c.after_span.ensures _ c.stored_row.ensures

pub returns-in-2 : goal.returns-in-2
returns-in-2 c = row_enum _ _ _ _ _ (sym c.slot_part.ensures ∙ c.in-At.is) _ _ c.in-2.is _ c.enum_bits.ensures

pub returns-in-3 : goal.returns-in-3
returns-in-3 c = row_flags _ _ _ _ _ (sym c.slot_part.ensures ∙ c.in-At.is) _ _ c.in-3.is _ c.flags_bytes.ensures

pub returns-in-4 : goal.returns-in-4
returns-in-4 c = row_union _ _ _ _ _ (sym c.slot_part.ensures ∙ c.in-At.is) _ _ c.in-4.is _ c.stored_row-in-4.ensures

pub returns-in_default : goal.returns-in_default
returns-in_default c = row_blank _ _ _ _ _ (sym c.slot_part.ensures ∙ c.in-At.is) _ _ (λ q. omega arith) (λ q. omega arith) (λ q. omega arith) (λ q. omega arith) _ c.blank_row.ensures

pub returns-in-Missing : goal.returns-in-Missing
returns-in-Missing c = row_missing _ _ _ (sym c.slot_part.ensures ∙ c.in-Missing.is) _ _ _
