use Rattle.search.proofs.Searching.{Left}
use Rattle.search.proofs.has_field.Given as goal

abbrev pub invariant-loop : goal.invariant-loop
invariant-loop l = Left l.frame l.image l.places l.fields l.count l.name l.expression l.counter l.p
