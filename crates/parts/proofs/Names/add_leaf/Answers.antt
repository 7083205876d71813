use native.Mathlib.Omega.{arith}
use mathlib.Core.Path.{◌∙◌}
use Rattle.parts.proofs.Listing.{leaf_in, leaf_out}
use Rattle.parts.proofs.Names.add_leaf.Goals as goal

pub returns-then-number-lt512-clause-added : goal.returns-then-number-lt512-clause-added
returns-then-number-lt512-clause-added c = c.add.ensures.added ∙ leaf_in _ _ _ _ c.if-kind-eq3.true c.if-number-lt512.true

pub returns-else-kind-eq3-clause-added : goal.returns-else-kind-eq3-clause-added
returns-else-kind-eq3-clause-added c = leaf_out _ _ _ _ (λ e. omega arith)
