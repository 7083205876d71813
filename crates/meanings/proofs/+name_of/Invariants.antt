use Prim.Native.Nat.{◌+◌, ◌*◌}
use Rattle.meanings.proofs.Naming.{rank_at}
use Rattle.meanings.proofs.+name_of.Given as goal

abbrev pub decreases-name_of : goal.decreases-name_of
decreases-name_of l = rank_at l.frame l.levels l.image.now l.at * 64 + l.levels
