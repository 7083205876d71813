use mathlib.Core.Path.{sym, ◌∙◌}
use Rattle.number.specs.Grammar.{slot}
use Rattle.number.proofs.Reading.{told}
use Rattle.image.proofs.Framing.{front_refused, names_refused, front_read_lem, count_refused}
use Rattle.image.proofs.read_front.Goals as goal

pub returns-in-Value-read_below : goal.returns-in-Value-read_below
returns-in-Value-read_below c = front_read_lem _ _ _ (told c.read_below.ensures c.in-Value.is) _ (sym (c.skip_numbers.ensures slot) ∙ c.in-At.is) _ _ (told c.read_below-in-At.ensures c.in-Value-read_below.is)

pub returns-in-Refused-read_below : goal.returns-in-Refused-read_below
returns-in-Refused-read_below c = count_refused _ _ _ (told c.read_below.ensures c.in-Value.is) _ (sym (c.skip_numbers.ensures slot) ∙ c.in-At.is) _ _ (told c.read_below-in-At.ensures c.in-Refused-read_below.is)

pub returns-in-Refused-skip_numbers : goal.returns-in-Refused-skip_numbers
returns-in-Refused-skip_numbers c = names_refused _ _ _ (told c.read_below.ensures c.in-Value.is) _ _ (sym (c.skip_numbers.ensures slot) ∙ c.in-Refused-skip_numbers.is)

pub returns-in-Refused : goal.returns-in-Refused
returns-in-Refused c = front_refused _ _ _ (told c.read_below.ensures c.in-Refused.is)
