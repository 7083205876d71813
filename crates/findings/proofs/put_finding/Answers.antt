use Rattle.std.proofs.Common.{◌≡◌, arith}
use Rattle.std.proofs.lemmas.Grind.{common_steps}
use lib.Seq.{set_out}
use Rattle.findings.specs.Finding.{rows_of}
use Rattle.findings.proofs.Noting.{sets_next}
use Rattle.findings.proofs.put_finding.Goals as goal

pub loop-i-preserved : goal.loop-i-preserved
loop-i-preserved c = grind (arith, common_steps, sets_next, set_out)

pub returns : goal.returns
unfolding rows_of
returns c = let e : c.loop-i.i ≡ 6 = omega arith in rw e at c.loop-i.invariant
