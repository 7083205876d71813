use Rattle.tree.proofs.Levels.{kinds_told}
use mathlib.Core.Path.{sym, ◌∙◌}
use Rattle.number.proofs.Reading.{told}
use Rattle.tree.proofs.Shapes.{head_on, head_refused}
use Rattle.tree.proofs.read_head.Goals as goal

pub returns-in-Value : goal.returns-in-Value
returns-in-Value c = c.read_body.ensures ∙ sym (head_on _ _ _ _ 0 _ _ (kinds_told _ _ c.kinds_of.ensures (told c.read_below.ensures c.in-Value.is)))

pub returns-in-Refused : goal.returns-in-Refused
returns-in-Refused c = sym (head_refused _ _ _ _ 0 _ _ (kinds_told _ _ c.kinds_of.ensures (told c.read_below.ensures c.in-Refused.is)))
