use native.Mathlib.Omega.{arith}
use mathlib.Core.Path.{sym, ◌∙◌}
use Rattle.conformance.proofs.Targets.{no_name, past_slots, no_part, not_there, targeted, required, wrong_kind}
use Rattle.conformance.proofs.check_trait_fields.Goals as goal

pub returns-then-frame-target : goal.returns-then-frame-target
returns-then-frame-target c = past_slots _ _ _ _ _ _ _ _ c.type_value.ensures _ c.in-Id.is c.if-frame-target.true _

pub check_required_fields-requires : goal.check_required_fields-requires
check_required_fields-requires c = targeted _ _ _ _ _ c.args.slot _ _ c.type_value.ensures _ c.in-Id.is c.if-frame-target.false _ _ (sym c.slot_part.ensures ∙ c.in-At.is) c.in-1.is _ c.slot_inside.ensures c.requires

pub returns-in-0 : goal.returns-in-0
returns-in-0 c = not_there _ _ _ _ _ _ _ _ c.type_value.ensures _ c.in-Id.is c.if-frame-target.false _ _ (sym c.slot_part.ensures ∙ c.in-At.is) c.in-0.is _

pub returns-in-1 : goal.returns-in-1
returns-in-1 c = required _ _ _ _ _ _ _ _ c.type_value.ensures _ c.in-Id.is c.if-frame-target.false _ _ (sym c.slot_part.ensures ∙ c.in-At.is) c.in-1.is _ c.slot_inside.ensures _ _ _ c.check_required_fields.ensures

pub returns-in_default : goal.returns-in_default
returns-in_default c = wrong_kind _ _ _ _ _ _ _ _ c.type_value.ensures _ c.in-Id.is c.if-frame-target.false _ _ (sym c.slot_part.ensures ∙ c.in-At.is) (λ z. omega arith) (λ z. omega arith) _ c.own_finding.ensures _ _ _ c.add_finding.ensures

pub returns-in-Missing : goal.returns-in-Missing
returns-in-Missing c = no_part _ _ _ _ _ _ _ _ c.type_value.ensures _ c.in-Id.is c.if-frame-target.false (sym c.slot_part.ensures ∙ c.in-Missing.is) _

pub returns-in-NotName : goal.returns-in-NotName
returns-in-NotName c = no_name _ _ _ _ _ _ _ _ c.type_value.ensures c.in-NotName.is _
