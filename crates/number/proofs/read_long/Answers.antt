use mathlib.Core.Path.{sym, ◌∙◌}
use Rattle.number.proofs.InRange.{in_range, out_of_range, no_number}
use Rattle.number.proofs.read_long.Goals as goal

pub returns-then-v-limit : goal.returns-then-v-limit
returns-then-v-limit c = sym (in_range _ _ _ _ _ (sym c.read_number.ensures ∙ c.in-Value.is) c.if-v-limit.true)

pub returns-else-v-limit : goal.returns-else-v-limit
returns-else-v-limit c = sym (out_of_range _ _ _ _ _ (sym c.read_number.ensures ∙ c.in-Value.is) c.if-v-limit.false)

pub returns-in-Refused : goal.returns-in-Refused
returns-in-Refused c = sym (no_number _ _ _ _ (sym c.read_number.ensures ∙ c.in-Refused.is))
