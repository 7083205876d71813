use native.Mathlib.Omega.{arith}
use Prim.Native.Nat.{ℕ}
use lib.ListN.{length-replicate}
use Rattle.std.proofs.lemmas.Bool.Decides.{Decides-eqb}
use Rattle.std.proofs.lemmas.Slice.Eq.{slice_eq-Decides}
use Rattle.replay.proofs.Comparing.{same_said, differs_said}
use Rattle.replay.proofs.same_text.Goals as goal

pub returns-then-eq : goal.returns-then-eq
returns-then-eq c =
    same_said _ _ _ _ _ c.report-used.ensures (omega (arith, length-replicate {A = ℕ} 180000 0)) _
    ((slice_eq-Decides Decides-eqb _ _ _ c.eq.ensures).0 c.if-eq.true)

pub returns-else-eq : goal.returns-else-eq
returns-else-eq c =
    differs_said _ _ _ _ _ c.report-used.ensures (omega (arith, length-replicate {A = ℕ} 180000 0))
    (λ q. cc ((slice_eq-Decides Decides-eqb _ _ _ c.eq.ensures).1 q))
