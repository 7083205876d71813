use native.Mathlib.Omega.{arith}
use mathlib.Core.Path.{sym, ◌∙◌}
use Rattle.reader.proofs.Fetching.{part_behind, not_missing}
use Rattle.recursion.proofs.Checking.{countable, slot_past, slot_not, slot_free, slot_found_lem}
use Rattle.recursion.proofs.check_slot.Goals as goal

pub returns-then-frame-slot : goal.returns-then-frame-slot
returns-then-frame-slot c = slot_past _ _ _ _ c.requires.0.promise.count c.if-frame-slot.true

pub bounds-messages-i : goal.bounds-messages-i
bounds-messages-i c = omega (arith, c.requires.0.held.marks, c.requires.0.promise.few, c.if-frame-slot.false)

pub count_recursion-more-requires : goal.count_recursion-more-requires
count_recursion-more-requires c = countable _ c.requires.0.held _ c.if-messages-i.true

pub returns-then-more-eq0 : goal.returns-then-more-eq0
returns-then-more-eq0 c = slot_free _ _ _ _ c.requires.0.held _ _ c.count_recursion-more.ensures _ _ c.if-messages-i.true c.if-more-eq0.true

pub returns-in_default : goal.returns-in_default
returns-in_default c = absurd (not_missing _ _ _ c.requires.0.promise _ c.if-frame-slot.false (sym c.slot_part.ensures ∙ c.in_default.is))

pub overflow_cast-slot : goal.overflow_cast-slot
overflow_cast-slot c = omega (arith, c.requires.0.promise.few, c.if-frame-slot.false)

pub put_findings-requires : goal.put_findings-requires
put_findings-requires c = omega (arith, c.count_recursion-more.ensures.most, c.requires.1)

pub returns-then-messages-i : goal.returns-then-messages-i
returns-then-messages-i c = slot_found_lem _ _ _ _ c.requires.0.held _ _ c.count_recursion-more.ensures _ _ c.if-messages-i.true _ _ _ _ _ (part_behind _ _ _ c.requires.0.promise _ c.if-frame-slot.false _ _ (sym c.slot_part.ensures ∙ c.in-At.is)) _ c.finding_at-finding.ensures _ _ c.put_findings.ensures

pub returns : goal.returns
returns c = slot_not _ _ _ _ c.requires.0.held c.if-messages-i.false
