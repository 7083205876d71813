use Rattle.total.specs.Totals.{size_of}
use Rattle.total.proofs.Totals.{open_rest}
use Rattle.total.proofs.total_size.Goals as goal

pub returns-in-0 : goal.returns-in-0
unfolding size_of
returns-in-0 c = rw c.in-0.is

pub returns-in-1 : goal.returns-in-1
unfolding size_of
returns-in-1 c = rw c.in-1.is

pub returns-in_default : goal.returns-in_default
unfolding size_of
returns-in_default c = open_rest _ _ _ c.in_default.in_default-own.rest.0.1 c.in_default.in_default-own.rest.1
