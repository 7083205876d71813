use Rattle.meanings.proofs.Arguments.{Left}
use Rattle.meanings.proofs.argument_in.Given as goal

abbrev pub invariant-loop : goal.invariant-loop
invariant-loop l = Left l.names l.image l.n l.first l.count l.start l.arguments l.counter l.p l.a
