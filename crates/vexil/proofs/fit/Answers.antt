use native.Mathlib.Omega.{arith}
use Rattle.table.proofs.Fitting.{all_written}
use Rattle.vexil.proofs.fit.Goals as goal

pub returns : goal.returns
returns c = all_written _ _ _ _ c.loop-i.invariant (omega arith)
