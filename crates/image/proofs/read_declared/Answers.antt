use mathlib.Core.Path.{sym, ◌∙◌}
use Rattle.number.specs.Grammar.{slot}
use Rattle.number.proofs.Reading.{told}
use Rattle.image.proofs.Framing.{declared_refused, declared_read_lem, numbers_refused}
use Rattle.image.proofs.read_declared.Goals as goal

pub returns-in-At : goal.returns-in-At
returns-in-At c = declared_read_lem _ _ _ _ (told c.read_below.ensures c.in-Value.is) _ (sym (c.skip_numbers.ensures slot) ∙ c.in-At.is)

pub returns-in-Refused-skip_numbers : goal.returns-in-Refused-skip_numbers
returns-in-Refused-skip_numbers c = numbers_refused _ _ _ _ (told c.read_below.ensures c.in-Value.is) _ _ (sym (c.skip_numbers.ensures slot) ∙ c.in-Refused-skip_numbers.is)

pub returns-in-Refused : goal.returns-in-Refused
returns-in-Refused c = declared_refused _ _ _ _ (told c.read_below.ensures c.in-Refused.is)
