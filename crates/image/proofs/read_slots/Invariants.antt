use Prim.Native.Nat.{◌-◌}
use Rattle.image.proofs.Tables.{Turn}
use Rattle.image.proofs.read_slots.Given as goal

abbrev pub invariant-loop-i : goal.invariant-loop-i
invariant-loop-i l = Turn l.edition l.names l.image l.count l.at l.initial.starts l.p l.i l.starts

abbrev pub decreases-loop-i : goal.decreases-loop-i
decreases-loop-i l = l.count - l.i
