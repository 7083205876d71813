use Prim.Native.Nat.{◌*◌, ◌+◌}
use Rattle.graph.specs.Loops.{unvisited}
use Rattle.walks.specs.Walk.{Held}
use Rattle.walks.proofs.Along.{Along}
use Rattle.walks.proofs.+walk_slot_walk_type_for_recursion.Given as goal

abbrev pub decreases-walk_slot : goal.decreases-walk_slot
decreases-walk_slot l = unvisited l.state.visited * 2 + 1

abbrev pub decreases-walk_type_for_recursion : goal.decreases-walk_type_for_recursion
decreases-walk_type_for_recursion l = unvisited l.state.visited * 2

abbrev pub invariant-walk_slot-loop-p : goal.invariant-walk_slot-loop-p
invariant-walk_slot-loop-p l = (S : _) → Held S l.messages l.first l.parts → Along S l.first l.parts l.slot l.direct l.initial.after l.p l.after
