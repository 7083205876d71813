use Prim.Native.Nat.{◌-◌}
use Rattle.slot.specs.declared.Edition.{Edition}
use Rattle.loops.specs.Located.{slots_of, Located}
use Rattle.reader.proofs.Losing.{Turn}
use Rattle.reader.proofs.lost_name.Given as goal

abbrev pub invariant-loop-n : goal.invariant-loop-n
invariant-loop-n l = (ed : Edition) → Located ed l.names l.count l.image l.starts → Turn l.names l.image l.finds (slots_of ed l.names l.count l.image l.starts) l.p l.n

abbrev pub decreases-loop-n : goal.decreases-loop-n
decreases-loop-n l = l.names - l.n
