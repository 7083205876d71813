-- The stack is a way from the start, and what is in order has all its parts earlier.
use Prim.Native.Nat.{◌+◌, ◌-◌}
use Rattle.reach.proofs.Walking.{Going}
use Rattle.reach.proofs.walk.Given as goal

abbrev pub invariant-loop-depth : goal.invariant-loop-depth
invariant-loop-depth l = Going l.rows l.count l.start l.initial.order l.sorted l.seen l.left l.stack l.order l.depth l.done

abbrev pub decreases-loop-depth : goal.decreases-loop-depth
decreases-loop-depth l = (l.count - l.done) + (l.count - (l.depth + l.done))
