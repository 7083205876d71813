use Prim.Native.Nat.{◌-◌}
use lib.ListN.{length}
use Rattle.level.proofs.+level_type.Given as goal

abbrev pub decreases-level_type : goal.decreases-level_type
decreases-level_type l = length l.image.now - l.at
