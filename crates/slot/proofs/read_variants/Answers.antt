use mathlib.Core.Path.{refl, sym, ◌∙◌}
use Rattle.number.specs.Answers.{follow}
use Rattle.number.proofs.Reading.{many_none, many_on, many_stop}
use Rattle.slot.proofs.read_variants.Goals as goal

pub loop-left-init : goal.loop-left-init
loop-left-init c = refl

pub loop-left-preserved : goal.loop-left-preserved
unfolding follow
loop-left-preserved c = c.loop-left.invariant ∙ many_on _ _ _ _ c.loop-left-test.true _ (sym c.skip_fields.ensures ∙ c.in-At.is)

pub returns-in-Refused : goal.returns-in-Refused
unfolding follow
returns-in-Refused c = sym (c.loop-left.invariant ∙ many_stop _ _ _ _ c.loop-left-test.true _ _ (sym c.skip_fields.ensures ∙ c.in-Refused.is))

pub returns : goal.returns
returns c = sym (c.loop-left.invariant ∙ many_none _ _ _ _ c.loop-left-test.false)
