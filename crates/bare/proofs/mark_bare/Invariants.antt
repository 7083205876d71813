-- The rows of the slots passed have their marks.
use Rattle.loops.specs.Marks.{Filled}
use Rattle.reader.specs.Reading.{schema_of}
use Rattle.bare.specs.Bare.{bare_leads}
use Rattle.bare.proofs.mark_bare.Given as goal

abbrev pub invariant-loop-slot : goal.invariant-loop-slot
invariant-loop-slot l = Filled l.initial.rows (bare_leads (schema_of l.fn.frame.edition l.image)) l.slot l.rows
