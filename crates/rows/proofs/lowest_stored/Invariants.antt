use Rattle.reader.specs.Reading.{schema_of}
use Rattle.rows.proofs.Storing.{Left}
use Rattle.rows.proofs.lowest_stored.Given as goal

abbrev pub invariant-loop-i : goal.invariant-loop-i
invariant-loop-i l = Left (schema_of l.fn.frame.edition l.image) l.fn.frame.slots l.i
