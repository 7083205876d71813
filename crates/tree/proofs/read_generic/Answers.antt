use Rattle.number.specs.Grammar.{◌>>=◌, and_then, read}
use Rattle.number.proofs.Reading.{told}
use Rattle.tree.specs.TreeAt.{generic_at}
use Rattle.tree.proofs.read_generic.Goals as goal

pub returns-in-Value : goal.returns-in-Value
unfolding generic_at read ◌>>=◌ and_then
returns-in-Value c = rw (told c.read_below.ensures c.in-Value.is)

pub returns-in-Refused : goal.returns-in-Refused
unfolding generic_at read ◌>>=◌ and_then
returns-in-Refused c = rw (told c.read_below.ensures c.in-Refused.is)
