use Rattle.reader.specs.Reading.{schema_of}
use Rattle.conformance.proofs.Slots.{Passed}
use Rattle.conformance.proofs.check_impl_conformance.Given as goal

abbrev pub invariant-loop-slot : goal.invariant-loop-slot
invariant-loop-slot l = Passed (schema_of l.frame.edition l.image) l.initial.findings l.findings l.count l.n l.slot
