-- The rows of the slots passed have their marks.
use Rattle.loops.specs.Marks.{Filled}
use Rattle.reader.specs.Reading.{schema_of}
use Rattle.sizes.specs.Reached.{part_leads}
use Rattle.marks.proofs.mark_parts.Given as goal

abbrev pub invariant-loop-slot : goal.invariant-loop-slot
invariant-loop-slot l = Filled l.initial.rows (part_leads (schema_of l.fn.frame.edition l.image)) l.slot l.rows
