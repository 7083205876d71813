use native.Mathlib.Omega.{arith}
use mathlib.Core.Path.{refl, sym, ap, ◌∙◌}
use Rattle.number.specs.Answers.{outcome}
use Rattle.number.proofs.Reading.{number_next, many_none, many_on, many_stop}
use Rattle.number.proofs.skip_numbers.Goals as goal

pub loop-left-init : goal.loop-left-init
loop-left-init c = λ role. refl

pub loop-left-preserved : goal.loop-left-preserved
loop-left-preserved c = λ role. c.loop-left.invariant role ∙ many_on _ _ _ _ (omega arith) _ (number_next role _ _ _ _ (sym c.read_below.ensures ∙ ap outcome c.in-Value.is))

pub returns-in-Refused : goal.returns-in-Refused
returns-in-Refused c = λ role. sym (c.loop-left.invariant role ∙ many_stop _ _ _ _ (omega arith) _ _ (number_next role _ _ _ _ (sym c.read_below.ensures ∙ ap outcome c.in-Refused.is)))

pub returns : goal.returns
returns c = λ role. sym (c.loop-left.invariant role ∙ many_none _ _ _ _ c.loop-left-test.false)
