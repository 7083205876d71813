use mathlib.Core.Path.{sym, ◌∙◌}
use Rattle.number.specs.Answers.{follow}
use Rattle.number.proofs.Reading.{told, follow_on, follow_stop}
use Rattle.slot.proofs.Steps.{span_absent, span_given, span_refused}
use Rattle.slot.proofs.skip_trait_span.Goals as goal

pub returns-then-given-eq0 : goal.returns-then-given-eq0
returns-then-given-eq0 c = sym (follow_on _ _ _ c.in-At.is ∙ span_absent _ _ _ _ (told c.read_below.ensures c.in-Value.is) c.if-given-eq0.true)

pub returns-else-given-eq0 : goal.returns-else-given-eq0
unfolding follow
returns-else-given-eq0 c = c.skip_span.ensures ∙ sym (follow_on _ _ _ c.in-At.is ∙ span_given _ _ _ _ (told c.read_below.ensures c.in-Value.is) c.if-given-eq0.false)

pub returns-in-Refused-read_below : goal.returns-in-Refused-read_below
returns-in-Refused-read_below c = sym (follow_on _ _ _ c.in-At.is ∙ span_refused _ _ _ _ (told c.read_below.ensures c.in-Refused-read_below.is))

pub returns-in-Refused : goal.returns-in-Refused
returns-in-Refused c = sym (follow_stop _ _ _ _ c.in-Refused.is)
