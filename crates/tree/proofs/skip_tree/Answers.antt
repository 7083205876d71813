use mathlib.Core.Path.{sym, ◌∙◌}
use Rattle.number.proofs.Reading.{follow_on, follow_stop}
use Rattle.tree.proofs.skip_tree.Goals as goal

pub returns-in-At : goal.returns-in-At
returns-in-At c = c.read_tree.ensures ∙ sym (follow_on _ _ _ c.in-At.is)

pub returns-in-Refused : goal.returns-in-Refused
returns-in-Refused c = sym (follow_stop _ _ _ _ c.in-Refused.is)
