use mathlib.Core.Path.{sym, ◌∙◌}
use Rattle.turns.proofs.Saying.{shut_out, let_in}
use Rattle.turns.proofs.size_slots.Goals as goal

pub returns-in-Refused : goal.returns-in-Refused
returns-in-Refused c = shut_out _ _ _ _ _ _ (sym c.gate.ensures ∙ c.in-Refused.is) c.clear.ensures

pub returns : goal.returns
returns c = let_in _ _ _ _ (sym c.gate.ensures ∙ c.in_default.is) _ c.layout_of.ensures _ c.work_out.ensures
