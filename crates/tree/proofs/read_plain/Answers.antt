use mathlib.Core.Path.{sym, ap}
use Rattle.number.proofs.Reading.{told}
use Rattle.tree.specs.TreeAt.{plain_head}
use Rattle.tree.proofs.read_plain.Goals as goal

pub returns-in-Value : goal.returns-in-Value
returns-in-Value c = sym (ap (plain_head _ _) (told c.read_below.ensures c.in-Value.is))

pub returns-in-Refused : goal.returns-in-Refused
returns-in-Refused c = sym (ap (plain_head _ _) (told c.read_below.ensures c.in-Refused.is))
