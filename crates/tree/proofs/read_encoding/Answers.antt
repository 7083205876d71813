use mathlib.Core.Path.{refl, sym, ◌∙◌}
use Rattle.number.proofs.Reading.{told}
use Rattle.tree.proofs.Levels.{encoding_refused, encoding_deep, encoding_ends, encoding_on}
use Rattle.tree.proofs.read_encoding.Goals as goal

pub loop-levels-init : goal.loop-levels-init
loop-levels-init c = refl

pub returns-then-kind-ne3 : goal.returns-then-kind-ne3
returns-then-kind-ne3 c = sym (c.loop-levels.invariant ∙ encoding_ends _ _ _ _ _ c.loop-levels-test.true (told c.read_below.ensures c.in-Value.is) c.if-kind-ne3.true)

pub loop-levels-preserved : goal.loop-levels-preserved
loop-levels-preserved c = c.loop-levels.invariant ∙ encoding_on _ _ _ _ _ c.loop-levels-test.true (told c.read_below.ensures c.in-Value.is) c.if-kind-ne3.false

pub returns-in-Refused : goal.returns-in-Refused
returns-in-Refused c = sym (c.loop-levels.invariant ∙ encoding_refused _ _ _ _ _ c.loop-levels-test.true (told c.read_below.ensures c.in-Refused.is))

pub returns : goal.returns
returns c = c.too_deep.ensures ∙ sym (c.loop-levels.invariant ∙ encoding_deep _ _ _ c.loop-levels-test.false)
