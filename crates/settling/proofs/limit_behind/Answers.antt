use Rattle.number.proofs.Reading.{told}
use Rattle.settling.proofs.Elements.{limit_read_lem, limit_refused, limit_nowhere}
use Rattle.settling.proofs.limit_behind.Goals as goal

pub returns-in-Value : goal.returns-in-Value
returns-in-Value c = limit_read_lem _ _ _ c.read_tree.ensures c.in-At.is (told c.read_below.ensures c.in-Value.is)

pub returns-in-Refused-read_below : goal.returns-in-Refused-read_below
returns-in-Refused-read_below c = limit_refused _ _ _ _ _ c.read_tree.ensures c.in-At.is (told c.read_below.ensures c.in-Refused-read_below.is)

pub returns-in-Refused : goal.returns-in-Refused
returns-in-Refused c = limit_nowhere _ _ _ _ _ c.read_tree.ensures c.in-Refused.is
