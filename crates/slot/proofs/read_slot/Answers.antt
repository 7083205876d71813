use mathlib.Core.Path.{sym, ◌∙◌}
use Rattle.number.proofs.Reading.{told}
use Rattle.slot.proofs.Steps.{slot_on, slot_refused}
use Rattle.slot.proofs.read_slot.Goals as goal

pub returns-in-Value : goal.returns-in-Value
returns-in-Value c = c.read_slot_body.ensures ∙ sym (slot_on _ _ _ _ _ _ (told c.read_below.ensures c.in-Value.is))

pub returns-in-Refused : goal.returns-in-Refused
returns-in-Refused c = sym (slot_refused _ _ _ _ _ _ (told c.read_below.ensures c.in-Refused.is))
