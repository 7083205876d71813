-- The findings before n are in the table.
use Prim.Native.Nat.{◌-◌}
use lib.ListN.{replicate}
use Rattle.findings.specs.Adding.{Adds}
use Rattle.recursion.proofs.put_findings.Given as goal

abbrev pub invariant-loop-n : goal.invariant-loop-n
invariant-loop-n l = Adds (l.n - l.count) l.initial.findings l.findings l.count l.n (replicate (l.n - l.count) l.finding)
