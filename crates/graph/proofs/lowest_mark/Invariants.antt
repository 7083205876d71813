-- After i turns without a find, the search goes on at i.
use Prim.Native.Nat.{◌-◌}
use mathlib.Core.Path.{◌≡◌}
use Rattle.graph.specs.Ways.{lowest}
use Rattle.graph.specs.Table.{grid}
use Rattle.graph.proofs.lowest_mark.Given as goal

abbrev pub invariant-loop-i : goal.invariant-loop-i
invariant-loop-i l = lowest (λ x. grid l.rows x x) l.count 0 ≡ lowest (λ x. grid l.rows x x) (l.count - l.i) l.i
