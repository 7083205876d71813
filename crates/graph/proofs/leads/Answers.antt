-- The code's shift and remainder are the definition's.
use mathlib.Core.Path.{refl}
use Rattle.graph.specs.Table.{bit, grid}
use Rattle.graph.proofs.leads.Goals as goal

pub returns : goal.returns
unfolding grid bit
returns c = refl
