use mathlib.Core.Path.{sym, ◌∙◌}
use Rattle.number.proofs.Laws.{bounds}
use Rattle.number.proofs.InRange.{in_range, no_number}
use Rattle.number.proofs.read_whole.Goals as goal

pub returns-in-Value : goal.returns-in-Value
returns-in-Value c = let e = sym c.read_number.ensures ∙ c.in-Value.is in sym (in_range _ _ _ _ _ e (bounds e).small)

pub returns-in-Refused : goal.returns-in-Refused
returns-in-Refused c = sym (no_number _ _ _ _ (sym c.read_number.ensures ∙ c.in-Refused.is))
