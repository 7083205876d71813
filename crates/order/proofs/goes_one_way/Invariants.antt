use Rattle.reader.specs.Reading.{schema_of}
use Rattle.order.proofs.Leading.{Sofar}
use Rattle.order.proofs.goes_one_way.Given as goal

abbrev pub invariant-loop-slot : goal.invariant-loop-slot
invariant-loop-slot l = Sofar l.fn.up (schema_of l.fn.frame.edition l.image) l.slot
