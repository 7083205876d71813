use mathlib.Core.Path.{refl}
use Rattle.settling.proofs.Ended.{at_end, not_stopped}
use Rattle.settling.proofs.pass_type.Goals as goal

pub returns-in-At : goal.returns-in-At
returns-in-At c = record { passed = λ t end q. (refl, at_end _ c.read_tree.ensures q c.in-At.is) }

pub returns-in-Refused : goal.returns-in-Refused
returns-in-Refused c = record { passed = λ t end q. absurd (not_stopped _ c.read_tree.ensures q c.in-Refused.is) }
