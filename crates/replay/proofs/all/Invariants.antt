use Rattle.std.proofs.Common.{◌≤◌}
use Rattle.replay.proofs.all.Given as goal

abbrev pub invariant-loop-done : goal.invariant-loop-done
invariant-loop-done g l = l.wrong ≤ l.done-counter
