-- The declarations passed are marked. Assumes nothing.
use Rattle.reader.specs.Reading.{schema_of}
use Rattle.marks.proofs.Starting.{Going}
use Rattle.marks.proofs.mark_starts.Given as goal

abbrev pub invariant-loop : goal.invariant-loop
invariant-loop l = Going (schema_of l.fn.frame.edition l.image) l.fn.frame.slots l.image l.initial.marks l.fn.frame.declarations l.counter l.here l.marks
