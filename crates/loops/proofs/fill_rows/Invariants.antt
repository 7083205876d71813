-- The loop's invariant: the rows of the slots passed have their marks. Assumes nothing.
use Rattle.loops.specs.Leads.{leads}
use Rattle.loops.specs.Located.{slots_of, Located}
use Rattle.loops.specs.Marks.{Filled}
use Rattle.slot.specs.declared.Edition.{Edition}
use Rattle.loops.proofs.fill_rows.Given as goal

abbrev pub invariant-loop-i : goal.invariant-loop-i
invariant-loop-i l = (ed : Edition) → Located ed l.names l.count l.image l.starts → Filled l.initial.rows (leads l.sort l.finds (slots_of ed l.names l.count l.image l.starts)) l.i l.rows
