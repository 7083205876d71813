use Rattle.matching.proofs.Leaves.{Left}
use Rattle.matching.proofs.same_names.Given as goal

abbrev pub invariant-loop : goal.invariant-loop
invariant-loop l = Left l.names l.image l.a l.b l.count l.counter l.p l.q
