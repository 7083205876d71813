use mathlib.Core.Path.{refl}
use Rattle.findings.specs.Endless.{counted}
use Rattle.walks.proofs.count_one.Goals as goal

pub returns : goal.returns
unfolding counted
returns c = refl
