-- After i turns without a find, the search goes on at i.
use Prim.Native.Nat.{◌-◌}
use mathlib.Core.Path.{◌≡◌}
use Rattle.graph.specs.Ways.{lowest}
use Rattle.reach.proofs.Backing.{back_at}
use Rattle.reach.proofs.lowest_back.Given as goal

abbrev pub invariant-loop-i : goal.invariant-loop-i
invariant-loop-i l = lowest (back_at l.rows l.starts l.count) l.count 0 ≡ lowest (back_at l.rows l.starts l.count) (l.count - l.i) l.i
