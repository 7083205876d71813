use native.Mathlib.Omega.{arith}
use mathlib.Core.Path.{sym, ◌∙◌}
use Rattle.rows.proofs.Slots.{brings_message, brings_union, brings_other, brings_missing}
use Rattle.rows.proofs.brings_size.Goals as goal

pub returns-in-1 : goal.returns-in-1
returns-in-1 c = brings_message _ _ _ _ _ (sym c.slot_part.ensures ∙ c.in-At.is) c.in-1.is _ c.after_span.ensures _ c.is_stored.ensures

pub returns-in-4 : goal.returns-in-4
returns-in-4 c = brings_union _ _ _ _ _ (sym c.slot_part.ensures ∙ c.in-At.is) c.in-4.is _ c.is_stored-in-4.ensures

pub returns-in_default : goal.returns-in_default
returns-in_default c = brings_other _ _ _ _ _ (sym c.slot_part.ensures ∙ c.in-At.is) (λ q. omega arith) (λ q. omega arith)

pub returns-in-Missing : goal.returns-in-Missing
returns-in-Missing c = brings_missing _ _ _ (sym c.slot_part.ensures ∙ c.in-Missing.is) _
