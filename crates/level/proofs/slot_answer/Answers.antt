use native.Mathlib.Omega.{arith}
use mathlib.Core.Path.{refl, sym, ◌∙◌}
use Rattle.view.proofs.Insides.{fields_inside, variants_inside, terminal_inside}
use Rattle.reader.proofs.Fetching.{not_missing}
use Rattle.wiresize.proofs.Naming.{is_message_lem, is_union, is_newtype, kind_is_lem}
use Rattle.level.proofs.Slots.{message_answers, union_answers, newtype_answers, known_answers, other_answers}
use Rattle.level.proofs.slot_answer.Goals as goal

pub returns-in_default : goal.returns-in_default
returns-in_default c =
    let pre = c.requires in
    absurd (not_missing _ _ _ pre.0 _ pre.1 (sym c.slot_part.ensures ∙ c.in_default.is))

pub level_message-requires : goal.level_message-requires
level_message-requires c =
    let pre = c.requires in
    let part = sym c.slot_part.ensures ∙ c.in-At.is in
    let one = c.in-1.is in
    let m = is_message_lem _ _ _ pre.0 _ pre.1 _ _ part one in
    (record { small = pre.0.small; room = pre.4; thing = _; end = _; reads = fields_inside _ _ _ part c.slot_inside-place.ensures one _ _ _ _ m.3 }, refl)

pub level_union-requires : goal.level_union-requires
level_union-requires c =
    let pre = c.requires in
    let part = sym c.slot_part.ensures ∙ c.in-At.is in
    let four = c.in-4.is in
    let m = is_union _ _ _ pre.0 _ pre.1 _ _ part four in
    (record { small = pre.0.small; room = pre.4; thing = _; end = _; reads = variants_inside _ _ _ part c.slot_inside-place-in-4.ensures four _ _ _ _ m.3 }, refl)

pub level_type-term-requires : goal.level_type-term-requires
level_type-term-requires c =
    let pre = c.requires in
    let part = sym c.slot_part.ensures ∙ c.in-At.is in
    let five = c.in-5.is in
    let m = is_newtype _ _ _ pre.0 _ pre.1 _ _ part five in
    record { small = pre.0.small; room = pre.4; thing = _; end = _; reads = terminal_inside _ _ _ part c.slot_inside-place-in-5.ensures pre.0.named five _ _ m.3 }

pub known_size-requires : goal.known_size-requires
known_size-requires c = omega (arith, c.requires.1, c.requires.2)

pub returns-in-1 : goal.returns-in-1
returns-in-1 c =
    let pre = c.requires in
    let part = sym c.slot_part.ensures ∙ c.in-At.is in
    let one = c.in-1.is in
    let m = is_message_lem _ _ _ pre.0 _ pre.1 _ _ part one in
    let r = fields_inside _ _ _ part c.slot_inside-place.ensures one _ _ _ _ m.3 in
    let w = c.level_message.ensures in
    message_answers _ _ _ _ _ m.2 (w.worked _ _ r) (w.visits _ _ r)

pub returns-in-4 : goal.returns-in-4
returns-in-4 c =
    let pre = c.requires in
    let part = sym c.slot_part.ensures ∙ c.in-At.is in
    let four = c.in-4.is in
    let m = is_union _ _ _ pre.0 _ pre.1 _ _ part four in
    let r = variants_inside _ _ _ part c.slot_inside-place-in-4.ensures four _ _ _ _ m.3 in
    let w = c.level_union.ensures in
    union_answers _ _ _ _ _ m.2 (w.worked _ _ r) (w.visits _ _ r)

pub returns-in-5 : goal.returns-in-5
returns-in-5 c =
    let pre = c.requires in
    let part = sym c.slot_part.ensures ∙ c.in-At.is in
    let five = c.in-5.is in
    let m = is_newtype _ _ _ pre.0 _ pre.1 _ _ part five in
    let r = terminal_inside _ _ _ part c.slot_inside-place-in-5.ensures pre.0.named five _ _ m.3 in
    let w = c.level_type-term.ensures.0 in
    newtype_answers _ _ _ _ _ m.2 (w.worked _ _ r) c.visits_by.ensures (w.visits _ _ r)

pub returns-in-Known : goal.returns-in-Known
returns-in-Known c =
    let pre = c.requires in
    let kind = kind_is_lem _ _ _ pre.0 _ pre.1 _ _ (sym c.slot_part.ensures ∙ c.in-At.is) in
    let rest = c.in_default-kind.in_default-kind-own.rest in
    known_answers _ _ _ _ pre.0 _ pre.3 _ pre.1 _ _ kind rest.0.0.1 rest.0.1 rest.1 (sym c.known_size.ensures ∙ c.in-Known.is)

pub returns-in-None : goal.returns-in-None
returns-in-None c =
    let pre = c.requires in
    let kind = kind_is_lem _ _ _ pre.0 _ pre.1 _ _ (sym c.slot_part.ensures ∙ c.in-At.is) in
    let rest = c.in_default-kind.in_default-kind-own.rest in
    other_answers _ _ _ _ pre.0 _ pre.3 _ pre.1 _ _ kind rest.0.0.1 rest.0.1 rest.1 (sym c.known_size.ensures ∙ c.in-None.is)
