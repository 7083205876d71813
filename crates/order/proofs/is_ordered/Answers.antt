use mathlib.Core.Path.{sym, ◌∙◌}
use Rattle.order.proofs.Leading.{ordered_down, ordered_up}
use Rattle.order.proofs.is_ordered.Goals as goal

pub returns-then-goes_one_way : goal.returns-then-goes_one_way
returns-then-goes_one_way c = rw c.if-goes_one_way.true (ordered_down _ (sym c.if-goes_one_way.true ∙ c.goes_one_way.ensures))

pub returns-else-goes_one_way : goal.returns-else-goes_one_way
returns-else-goes_one_way c = ordered_up _ (sym c.if-goes_one_way.false ∙ c.goes_one_way.ensures) _ c.goes_one_way-else-goes_one_way.ensures
