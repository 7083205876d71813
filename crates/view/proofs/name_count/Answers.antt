use mathlib.Core.Path.{sym, ap}
use Rattle.number.proofs.Reading.{told}
use Rattle.view.specs.Take.{taken_of}
use Rattle.view.specs.Inside.{name_count}
use Rattle.view.proofs.name_count.Goals as goal

pub returns-in-Value : goal.returns-in-Value
unfolding name_count
returns-in-Value c = sym (ap (λ o. (taken_of o).value) (told c.read_below.ensures c.in-Value.is))

pub returns-in-Refused : goal.returns-in-Refused
unfolding name_count
returns-in-Refused c = sym (ap (λ o. (taken_of o).value) (told c.read_below.ensures c.in-Refused.is))
