use Rattle.table.proofs.Fitting.{Written}
use Rattle.vexil.proofs.fit.Given as goal

abbrev pub invariant-loop-i : goal.invariant-loop-i
invariant-loop-i l = Written l.table l.initial.into l.into l.i
