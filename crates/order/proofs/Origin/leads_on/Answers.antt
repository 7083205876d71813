use native.Mathlib.Omega.{arith}
use mathlib.Core.Path.{sym, ◌∙◌}
use Rattle.view.proofs.Insides.{fields_inside}
use Rattle.reader.proofs.Fetching.{part_behind, not_missing}
use Rattle.order.proofs.Leading.{slot_message, slot_newtype, slot_other}
use Rattle.order.proofs.Origin.leads_on.Goals as goal

pub returns-in_default : goal.returns-in_default
returns-in_default c = absurd (not_missing _ _ _ c.requires.0 _ c.requires.1 (sym c.slot_part.ensures ∙ c.in_default.is))

pub returns-in-1 : goal.returns-in-1
returns-in-1 c = slot_message _ _ _ _ _ _ _ (part_behind _ _ _ c.requires.0 _ c.requires.1 _ _ (sym c.slot_part.ensures ∙ c.in-At.is)) c.in-1.is _ _ (fields_inside _ _ _ (sym c.slot_part.ensures ∙ c.in-At.is) c.slot_inside.ensures c.in-1.is) c.fields_lead_on.ensures

pub returns-in-5 : goal.returns-in-5
returns-in-5 c = c.is_some.ensures ∙ slot_newtype _ _ _ _ _ _ _ (part_behind _ _ _ c.requires.0 _ c.requires.1 _ _ (sym c.slot_part.ensures ∙ c.in-At.is)) c.in-5.is _ c.pass_type.ensures

pub returns-in_default-kind : goal.returns-in_default-kind
returns-in_default-kind c = slot_other _ _ _ _ _ _ _ (part_behind _ _ _ c.requires.0 _ c.requires.1 _ _ (sym c.slot_part.ensures ∙ c.in-At.is)) (λ e. omega arith) (λ e. omega arith)
