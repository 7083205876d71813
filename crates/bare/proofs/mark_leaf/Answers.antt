use mathlib.Core.Path.{sym, ◌∙◌}
use Rattle.loops.proofs.Marking.{led_none, led_one}
use Rattle.bare.proofs.Naming.{leaf_none, leaf_named}
use Rattle.bare.proofs.mark_leaf.Goals as goal

pub returns-then-kind-eq3 : goal.returns-then-kind-eq3
returns-then-kind-eq3 c = λ l k v. led_one _ c.mark.ensures (leaf_named l _ (k ∙ c.if-kind-eq3.true) v)

pub returns-else-kind-eq3 : goal.returns-else-kind-eq3
returns-else-kind-eq3 c = λ l k v. led_none _ (leaf_none l (λ e. c.if-kind-eq3.false (sym k ∙ e)))
