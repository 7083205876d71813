-- By the slot's kind.
use native.Mathlib.Omega.{arith}
use mathlib.Core.Path.{sym, ◌∙◌}
use Rattle.view.proofs.Insides.{fields_inside}
use Rattle.reader.proofs.Fetching.{part_behind, not_missing}
use Rattle.bare.proofs.Runs.{slot_message, slot_newtype, slot_other}
use Rattle.bare.proofs.mark_slot.Goals as goal

pub returns-in_default : goal.returns-in_default
returns-in_default c = absurd (not_missing _ _ _ c.requires.0 _ c.requires.1 (sym c.slot_part.ensures ∙ c.in_default.is))

pub returns-in-1 : goal.returns-in-1
returns-in-1 c =
    let part = sym c.slot_part.ensures ∙ c.in-At.is in
    slot_message _ _ _ _ _ _ (part_behind _ _ _ c.requires.0 _ c.requires.1 _ _ part) _ _ c.in-1.is _ _ _
    (fields_inside _ _ _ part c.slot_inside-place.ensures c.in-1.is)
    c.mark_fields.ensures

pub returns-in-5 : goal.returns-in-5
returns-in-5 c =
    slot_newtype _ _ _ _ _ _
    (part_behind _ _ _ c.requires.0 _ c.requires.1 _ _ (sym c.slot_part.ensures ∙ c.in-At.is))
    _ _ c.in-5.is _ _ c.mark_type.ensures

pub returns-in_default-kind : goal.returns-in_default-kind
returns-in_default-kind c =
    slot_other _ _ _ _ _ _
    (part_behind _ _ _ c.requires.0 _ c.requires.1 _ _ (sym c.slot_part.ensures ∙ c.in-At.is))
    _ _ (λ e. omega arith) (λ e. omega arith)
