use mathlib.Core.Path.{sym, ◌∙◌}
use Rattle.rows.proofs.Taking.{taken, not_taken}
use Rattle.rows.proofs.take.Goals as goal

pub returns-in-Value : goal.returns-in-Value
returns-in-Value c = taken _ _ _ _ (sym c.read_number.ensures ∙ c.in-Value.is)

pub returns-in-Refused : goal.returns-in-Refused
returns-in-Refused c = not_taken _ _ _ (sym c.read_number.ensures ∙ c.in-Refused.is) _ _
