use Rattle.view.proofs.Taking.{takes}
use Rattle.conformance.proofs.Bodies.{span_own, span_given}
use Rattle.conformance.proofs.read_trait_span.Goals as goal

pub returns-then-given-eq0 : goal.returns-then-given-eq0
returns-then-given-eq0 c = span_own _ _ _ _ _ _ (takes _ _ c.take-given.ensures) c.if-given-eq0.true

pub returns : goal.returns
returns c = span_given _ _ _ _ _ _ (takes _ _ c.take-given.ensures) c.if-given-eq0.false _ _ _ _ (takes _ _ c.take-first.ensures) (takes _ _ c.take-second.ensures)
