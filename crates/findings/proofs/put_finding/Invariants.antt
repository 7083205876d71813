-- The first i numbers of the row are written.
use mathlib.Core.Path.{◌≡◌}
use lib.ListN.{take}
use lib.Seq.{sets}
use Rattle.findings.proofs.put_finding.Given as goal

abbrev pub invariant-loop-i : goal.invariant-loop-i
invariant-loop-i l = l.findings ≡ sets l.initial.findings l.at (take l.i l.number-items)
