use Rattle.reader.specs.Reading.{schema_of}
use Rattle.sizes.specs.Check.{brought}
use Rattle.rows.proofs.Table.{Rowed}
use Rattle.rows.proofs.put_rows.Given as goal

abbrev pub invariant-loop-i : goal.invariant-loop-i
invariant-loop-i l = Rowed (schema_of l.fn.frame.edition l.image) (brought (schema_of l.fn.frame.edition l.image)) l.initial.rows l.i l.rows
