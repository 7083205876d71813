use mathlib.Core.Path.{◌≡◌}
use lib.ListN.{length}
use Rattle.conformance.specs.Adding.{Targeted}
use Rattle.conformance.proofs.Required.{Going}
use Rattle.conformance.proofs.check_required_fields.Given as goal

abbrev pub invariant-loop-k : goal.invariant-loop-k
invariant-loop-k l = (length l.places ≡ 4096) × ((x : Targeted l.image l.starts l.frame l.impl_def l.trait_def l.place l.count) → Going l.image l.starts l.frame l.impl_def l.trait_def l.slot l.place l.count x l.initial.findings l.findings l.places l.n l.p l.k)
