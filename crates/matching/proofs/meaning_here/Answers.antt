use Rattle.matching.proofs.Walk.{here_type, here_expression}
use Rattle.matching.proofs.meaning_here.Goals as goal

pub returns-in-Resolved : goal.returns-in-Resolved
returns-in-Resolved c = here_type _ _ _ _ _ _ _ c.in-Resolved.is

pub returns-in-Expression : goal.returns-in-Expression
returns-in-Expression c = here_expression _ _ _ _ _ _ _ c.in-Expression.is _ c.leaf_meaning.ensures
