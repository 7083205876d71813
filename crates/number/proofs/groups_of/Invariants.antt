-- `number::groups_of` meets its contract. The loop's invariant: the groups so far and those of what is left, one counted twice.
-- Assumes nothing.
use Rattle.number.proofs.Shortest.{Left}
use Rattle.number.proofs.groups_of.Given as goal

abbrev pub invariant-loop-rest : goal.invariant-loop-rest
invariant-loop-rest l = Left l.number l.groups l.rest

abbrev pub decreases-loop-rest : goal.decreases-loop-rest
decreases-loop-rest l = l.rest
