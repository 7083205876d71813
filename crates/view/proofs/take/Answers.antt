use mathlib.Core.Path.{sym, ap}
use native.Mathlib.Omega.{arith}
use Rattle.number.proofs.Reading.{told}
use Rattle.number.proofs.InRange.{below_is}
use Rattle.view.specs.Take.{taken_of}
use Rattle.view.proofs.take.Goals as goal

pub overflow_cast-result : goal.overflow_cast-result
overflow_cast-result c = omega (arith, (below_is _ _ _ _ _ (told c.read_below.ensures c.in-Value.is)).under)

pub returns-in-Value : goal.returns-in-Value
returns-in-Value c = sym (ap taken_of (told c.read_below.ensures c.in-Value.is))

pub returns-in-Refused : goal.returns-in-Refused
returns-in-Refused c = sym (ap taken_of (told c.read_below.ensures c.in-Refused.is))
