use Rattle.findings.specs.Endless.{entered}
use Rattle.walks.proofs.enter.Goals as goal

pub returns-then-joins : goal.returns-then-joins
unfolding entered
returns-then-joins c = rw c.if-joins.true

pub returns-else-joins : goal.returns-else-joins
unfolding entered
returns-else-joins c = rw c.if-joins.false
