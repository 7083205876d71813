use mathlib.Core.Path.{refl, sym, ◌∙◌}
use Rattle.number.proofs.Reading.{told}
use Rattle.settling.proofs.Ended.{not_refused}
use Rattle.settling.proofs.Encodings.{is_plain, is_varint, is_zigzag, is_delta, encoding_read_lem, not_too_deep}
use Rattle.settling.proofs.read_coded.Goals as goal

pub loop-levels-init : goal.loop-levels-init
loop-levels-init c = λ e end q. record { inner = e; reads = q; same = refl }

pub returns-in-0 : goal.returns-in-0
returns-in-0 c = λ e end q. let i = c.loop-levels.invariant e end q in is_plain _ _ _ _ _ c.loop-levels-test.true (told c.read_below.ensures c.in-Value.is) _ _ i.reads c.in-0.is ∙ sym i.same

pub returns-in-1 : goal.returns-in-1
returns-in-1 c = λ e end q. let i = c.loop-levels.invariant e end q in is_varint _ _ _ _ _ c.loop-levels-test.true (told c.read_below.ensures c.in-Value.is) _ _ i.reads c.in-1.is ∙ sym i.same

pub returns-in-2 : goal.returns-in-2
returns-in-2 c = λ e end q. let i = c.loop-levels.invariant e end q in is_zigzag _ _ _ _ _ c.loop-levels-test.true (told c.read_below.ensures c.in-Value.is) _ _ i.reads c.in-2.is ∙ sym i.same

pub loop-levels-preserved : goal.loop-levels-preserved
loop-levels-preserved c = λ e end q. let i = c.loop-levels.invariant e end q in let d = is_delta _ _ _ _ _ c.loop-levels-test.true (told c.read_below.ensures c.in-Value.is) _ _ i.reads c.in_default.in_default-own.rest.0.0.1 c.in_default.in_default-own.rest.0.1 c.in_default.in_default-own.rest.1 in record { inner = d.inner; reads = d.reads; same = i.same ∙ d.same }

pub returns-in-Refused : goal.returns-in-Refused
returns-in-Refused c = λ e end q. let i = c.loop-levels.invariant e end q in absurd (not_refused (told c.read_below.ensures c.in-Refused.is) (encoding_read_lem _ _ _ c.loop-levels-test.true _ _ i.reads).2)

pub returns : goal.returns
returns c = λ e end q. let i = c.loop-levels.invariant e end q in absurd (not_too_deep _ _ _ c.loop-levels-test.false _ _ i.reads)
