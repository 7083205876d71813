use mathlib.Core.Path.{sym, ap, ◌∙◌}
use Rattle.number.specs.Answers.{next}
use Rattle.number.proofs.Reading.{read_number, follow_on, follow_stop}
use Rattle.number.proofs.skip.Goals as goal

pub returns-in-At : goal.returns-in-At
returns-in-At c = λ role. c.skip_below.ensures ∙ sym (follow_on _ _ _ c.in-At.is ∙ ap next (read_number role _ _ _))

pub returns-in-Refused : goal.returns-in-Refused
returns-in-Refused c = λ role. sym (follow_stop _ _ _ _ c.in-Refused.is)
