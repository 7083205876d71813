use mathlib.Core.Path.{sym, ap, ◌∙◌}
use Rattle.number.specs.Answers.{outcome, next}
use Rattle.number.proofs.skip_below.Goals as goal

pub returns-in-Value : goal.returns-in-Value
returns-in-Value c = ap next (sym (ap outcome c.in-Value.is) ∙ c.read_below.ensures)

pub returns-in-Refused : goal.returns-in-Refused
returns-in-Refused c = ap next (sym (ap outcome c.in-Refused.is) ∙ c.read_below.ensures)
