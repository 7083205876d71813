use mathlib.Core.Path.{◌∙◌}
use borrow.Author.Tests.{ne_eqb}
use Rattle.order.proofs.Leading.{leaf_name, leaf_other}
use Rattle.order.proofs.Origin.leaf_leads_on.Goals as goal

pub returns-then-kind-ne3 : goal.returns-then-kind-ne3
returns-then-kind-ne3 c = λ l a b. rw (ne_eqb _ 3 c.if-kind-ne3.true) (leaf_other _ l _ a c.if-kind-ne3.true)

pub returns-else-kind-ne3 : goal.returns-else-kind-ne3
returns-else-kind-ne3 c = λ l a b. c.name_leads_on.ensures ∙ leaf_name _ l _ _ a b c.if-kind-ne3.false
