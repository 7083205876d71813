use Prim.Native.Nat.{◌+◌, ◌*◌}
use Rattle.matching.proofs.Walk.{weight}
use Rattle.matching.proofs.+types_compatible.Given as goal

abbrev pub decreases-types_compatible : goal.decreases-types_compatible
decreases-types_compatible l = weight l.sort * 64 + l.levels
