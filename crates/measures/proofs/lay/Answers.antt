use mathlib.Core.Path.{◌∙◌}
use Rattle.sizes.specs.Sizes.{then}
use Rattle.measures.proofs.lay.Goals as goal

pub returns-in-Packed : goal.returns-in-Packed
unfolding then
returns-in-Packed c = simp (c.in-Sized.is, c.in-Packed.is)

pub returns-in-Aligned : goal.returns-in-Aligned
unfolding then
returns-in-Aligned c = c.round_wire_size.ensures ∙ simp (c.in-Sized.is, c.in-Aligned.is)

pub returns-in-Over : goal.returns-in-Over
unfolding then
returns-in-Over c = simp c.in-Over.is
