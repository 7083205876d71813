use mathlib.Core.Path.{sym, ap, ◌∙◌}
use Rattle.number.specs.Answers.{next}
use Rattle.number.proofs.Reading.{told, counted_on, counted_refused, follow_on, follow_stop}
use Rattle.slot.proofs.skip_trait_fields.Goals as goal

pub returns-in-Value : goal.returns-in-Value
returns-in-Value c = c.read_trait_fields.ensures ∙ sym (follow_on _ _ _ c.in-At.is ∙ ap next (counted_on _ _ _ _ _ (told c.read_below.ensures c.in-Value.is)))

pub returns-in-Refused-read_below : goal.returns-in-Refused-read_below
returns-in-Refused-read_below c = sym (follow_on _ _ _ c.in-At.is ∙ ap next (counted_refused _ _ _ _ _ (told c.read_below.ensures c.in-Refused-read_below.is)))

pub returns-in-Refused : goal.returns-in-Refused
returns-in-Refused c = sym (follow_stop _ _ _ _ c.in-Refused.is)
