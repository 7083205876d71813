use mathlib.Core.Path.{sym, ◌∙◌}
use Rattle.number.specs.Grammar.{◌>>=◌, and_then, read}
use Rattle.number.proofs.Reading.{told}
use Rattle.tree.specs.TreeAt.{sub_byte_at}
use Rattle.tree.proofs.Shapes.{sub_byte_on}
use Rattle.tree.proofs.read_sub_byte.Goals as goal

pub returns-in-Value : goal.returns-in-Value
returns-in-Value c = c.read_plain.ensures ∙ sym (sub_byte_on _ _ _ _ (told c.read_below.ensures c.in-Value.is))

pub returns-in-Refused : goal.returns-in-Refused
unfolding sub_byte_at read ◌>>=◌ and_then
returns-in-Refused c = rw (told c.read_below.ensures c.in-Refused.is)
