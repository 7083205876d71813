use Rattle.graph.proofs.Rows.{words_on}
use Rattle.graph.proofs.join_rows.Goals as goal

pub loop-j-preserved : goal.loop-j-preserved
loop-j-preserved c = words_on _ _ _ _ _ c.loop-j.invariant c.requires.0 c.requires.1 c.loop-j-test.true
