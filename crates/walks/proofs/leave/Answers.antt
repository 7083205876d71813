use Rattle.findings.specs.Endless.{left}
use Rattle.walks.proofs.leave.Goals as goal

pub returns-then-joins : goal.returns-then-joins
unfolding left
returns-then-joins c = rw c.if-joins.true

pub returns-else-joins : goal.returns-else-joins
unfolding left
returns-else-joins c = rw c.if-joins.false
