use mathlib.Core.Path.{ap, ◌∙◌}
use Rattle.sizes.specs.Sizes.{then, up_to}
use Rattle.measures.proofs.limited_wire_size.Goals as goal

pub returns-in-Sized : goal.returns-in-Sized
unfolding then
returns-in-Sized c = c.up_to.ensures ∙ ap (up_to _) c.wire_size_max_bits.ensures ∙ simp c.in-Sized.is

pub returns-in-Over : goal.returns-in-Over
unfolding then
returns-in-Over c = simp c.in-Over.is
