use mathlib.Core.Path.{◌≡◌}
use native.Mathlib.Omega.{arith}
use Rattle.loops.proofs.Filling.{rows_on}
use Rattle.loops.proofs.fill_rows.Goals as goal

pub loop-i-preserved : goal.loop-i-preserved
loop-i-preserved c = λ ed p. rows_on _ _ _ _ _ _ _ p _ _ _ _ c.loop-i-test.true (c.loop-i.invariant ed p) c.slot_row.ensures

pub returns : goal.returns
returns c = λ ed p. let z : c.loop-i.i ≡ c.args.count = omega arith in rw z at c.loop-i.invariant ed p
