use Rattle.reader.specs.Reading.{schema_of}
use Rattle.turns.proofs.Turning.{Going}
use Rattle.turns.proofs.take_turns.Given as goal

abbrev pub invariant-loop : goal.invariant-loop
invariant-loop l = Going l.scope.layout l.image (schema_of l.scope.edition l.image) l.initial.rows l.scope.declarations l.rows l.p l.counter
