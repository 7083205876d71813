use mathlib.Core.Path.{ap}
use Rattle.wiresize.specs.Rows.{row_by}
use Rattle.wiresize.specs.declared.Row.{Row}
use Rattle.wiresize.proofs.Tables.{row_rest}
use Rattle.wiresize.proofs.known_size.Goals as goal

pub returns-in-1 : goal.returns-in-1
unfolding row_by
returns-in-1 c = rw c.in-1.is

pub returns-in-2 : goal.returns-in-2
unfolding row_by
returns-in-2 c = rw c.in-2.is

pub returns-in-3 : goal.returns-in-3
unfolding row_by
returns-in-3 c = rw c.in-3.is

pub returns-in-4 : goal.returns-in-4
unfolding row_by
returns-in-4 c = rw c.in-4.is

pub returns-in-5 : goal.returns-in-5
unfolding row_by
returns-in-5 c = rw c.in-5.is (ap Row.Known c.multiply_wire_size.ensures)

pub returns-in_default : goal.returns-in_default
returns-in_default c = row_rest _ _ _ c.in_default.in_default-own.rest.0.0.0.0.1 c.in_default.in_default-own.rest.0.0.0.1 c.in_default.in_default-own.rest.0.0.1 c.in_default.in_default-own.rest.0.1 c.in_default.in_default-own.rest.1
