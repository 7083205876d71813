use Rattle.report.proofs.Texts.{text_is}
use lib.ListN.{length-replicate}
use Prim.Native.Nat.{ℕ}
use Rattle.report.proofs.report.Goals as goal

pub returns : goal.returns
returns c = text_is _ _ _ _ _ _ _ _ _ (length-replicate {A = ℕ} 1536 0) (length-replicate {A = ℕ} 6000 0) c.check-verdict.ensures c.write_verdict.ensures
