use native.Mathlib.Omega.{arith}
use mathlib.Core.Path.{◌≡◌}
use Rattle.bare.proofs.Runs.{rows_on}
use Rattle.bare.proofs.mark_bare.Goals as goal

pub loop-slot-preserved : goal.loop-slot-preserved
loop-slot-preserved c = rows_on _ _ _ _ _ c.loop-slot.invariant c.mark_slot.ensures
