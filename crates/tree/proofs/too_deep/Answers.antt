use Rattle.number.proofs.Reading.{told}
use Rattle.tree.specs.Tree.{Tree}
use Rattle.tree.proofs.Levels.{deep_at, deep_refused}
use Rattle.tree.proofs.too_deep.Goals as goal

pub returns-in-Value : goal.returns-in-Value
returns-in-Value c = deep_at _ _ _ Tree _ _ (told c.read_below.ensures c.in-Value.is)

pub returns-in-Refused : goal.returns-in-Refused
returns-in-Refused c = deep_refused _ _ _ Tree _ _ (told c.read_below.ensures c.in-Refused.is)
