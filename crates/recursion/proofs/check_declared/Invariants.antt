use Prim.Native.Nat.{◌-◌}
use Rattle.reader.specs.Reading.{schema_of}
use Rattle.recursion.proofs.Checking.{Turn}
use Rattle.recursion.proofs.check_declared.Given as goal

abbrev pub invariant-loop : goal.invariant-loop
invariant-loop l = Turn (schema_of l.frame.edition l.image) l.image l.initial.findings (l.end - l.counter) l.p l.count l.findings
