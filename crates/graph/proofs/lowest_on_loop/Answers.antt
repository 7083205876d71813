-- The marks of the closed table are the ways.
use mathlib.Core.Path.{refl}
use Rattle.graph.proofs.Rows.{lowest_is}
use Rattle.graph.proofs.lowest_on_loop.Goals as goal

pub returns-clause-answer : goal.returns-clause-answer
returns-clause-answer c = lowest_is _ _ _ _ c.requires.0 c.requires.1 c.close.ensures _ refl c.lowest_mark.ensures
