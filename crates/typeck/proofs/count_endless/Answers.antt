use Rattle.order.proofs.Ranks.{none_in_order}
use Rattle.recursion.proofs.Checking.{none_found}
use Rattle.typeck.proofs.count_endless.Goals as goal

pub returns-then-ordered : goal.returns-then-ordered
returns-then-ordered c = none_found c.requires.0 (none_in_order _ (c.requires.1 c.if-ordered.true) _)

pub check_recursion-requires : goal.check_recursion-requires
check_recursion-requires c = c.requires.0
