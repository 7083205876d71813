-- By the slot's kind. Assumes nothing.
use native.Mathlib.Omega.{arith}
use mathlib.Core.Path.{sym, ◌∙◌}
use Rattle.reader.specs.Reading.{schema_of}
use Rattle.reader.proofs.Fetching.{part_behind, not_missing}
use Rattle.marks.proofs.Runs.{slot_message, slot_union, slot_newtype, slot_other}
use Rattle.marks.proofs.mark_slot.Goals as goal

pub returns-in_default : goal.returns-in_default
returns-in_default c = absurd (not_missing _ _ _ c.requires.0 _ c.requires.1 (sym c.slot_part.ensures ∙ c.in_default.is))

pub returns-in-1 : goal.returns-in-1
returns-in-1 c =
    let part = sym c.slot_part.ensures ∙ c.in-At.is in
    slot_message (schema_of c.args.frame.edition c.args.image.now) _ _ _ _ _ _ _ part (part_behind _ _ _ c.requires.0 _ c.requires.1 _ _ part) _ c.slot_inside-inside.ensures _ c.in-1.is _ _ c.mark_fields.ensures

pub returns-in-4 : goal.returns-in-4
returns-in-4 c =
    let part = sym c.slot_part.ensures ∙ c.in-At.is in
    slot_union (schema_of c.args.frame.edition c.args.image.now) _ _ _ _ _ _ _ part (part_behind _ _ _ c.requires.0 _ c.requires.1 _ _ part) _ c.slot_inside-inside.ensures _ c.in-4.is _ _ c.mark_variants.ensures

pub returns-in-5 : goal.returns-in-5
returns-in-5 c =
    let part = sym c.slot_part.ensures ∙ c.in-At.is in
    slot_newtype (schema_of c.args.frame.edition c.args.image.now) _ _ _ _ _ _ _ part (part_behind _ _ _ c.requires.0 _ c.requires.1 _ _ part) _ c.slot_inside-inside.ensures _ c.requires.0.named c.in-5.is _ _ c.mark_type.ensures

pub returns-in_default-kind : goal.returns-in_default-kind
returns-in_default-kind c =
    let part = sym c.slot_part.ensures ∙ c.in-At.is in
    slot_other (schema_of c.args.frame.edition c.args.image.now) _ _ _ _ _ _ _ part (part_behind _ _ _ c.requires.0 _ c.requires.1 _ _ part) _ c.slot_inside-inside.ensures _ (λ e. omega arith) (λ e. omega arith) (λ e. omega arith)
