-- The loop's invariant: what the names passed find stands in the table. Assumes nothing.
use Prim.Native.Nat.{◌-◌}
use Rattle.image.proofs.Finding.{Written}
use Rattle.image.proofs.read_finds.Given as goal

abbrev pub invariant-loop-i : goal.invariant-loop-i
invariant-loop-i l = Written l.image l.count l.at l.initial.finds l.p l.i l.finds

abbrev pub decreases-loop-i : goal.decreases-loop-i
decreases-loop-i l = l.count - l.i
