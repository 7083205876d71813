use Prim.Native.Nat.{◌^◌}
use Rattle.number.specs.Grammar.{slot}
use Rattle.rows.proofs.Taking.{Run}
use Rattle.rows.proofs.Marking.{marked}
use Rattle.rows.proofs.mark_declared.Given as goal

abbrev pub invariant-loop : goal.invariant-loop
invariant-loop l = Run marked slot (2 ^ 32) l.image l.count l.at l.initial.marks l.counter l.here l.marks
