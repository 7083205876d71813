use mathlib.Core.Path.{sym, ap}
use Rattle.total.specs.Totals.{total_of}
use Rattle.total.proofs.total_of.Goals as goal

pub returns-in-Fixed : goal.returns-in-Fixed
returns-in-Fixed c = ap total_of (sym c.in-Fixed.is)

pub returns-in-Bounded : goal.returns-in-Bounded
returns-in-Bounded c = ap total_of (sym c.in-Bounded.is)

pub returns-in-Open : goal.returns-in-Open
returns-in-Open c = ap total_of (sym c.in-Open.is)
