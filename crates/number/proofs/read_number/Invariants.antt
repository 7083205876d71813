-- `number::read_number` meets its contract. The loop's invariant: the number is what stands from `p` on, counted `weight` times, on top of `sum`.
-- Assumes nothing.
use Prim.Native.Nat.{◌+◌, ◌*◌, ◌^◌, ◌≤◌, ◌<◌}
use mathlib.Core.Path.{◌≡◌}
use Rattle.number.specs.Number.{number_at, groups_at}
use Rattle.number.proofs.Groups.{scaled}
use Rattle.number.proofs.read_number.Given as goal

abbrev pub invariant-loop-more : goal.invariant-loop-more
invariant-loop-more l = (number_at l.image l.at ≡ scaled l.weight l.sum (groups_at l.more l.least l.image l.p))
    × (l.weight * 128 ^ l.more ≡ 2 ^ 63)
    × (l.sum < l.weight)
    × (l.least ≤ 1)
    × (9 ≤ l.more + 9 * l.least)

abbrev pub decreases-loop-more : goal.decreases-loop-more
decreases-loop-more l = l.more
