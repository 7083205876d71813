use mathlib.Core.Path.{◌∙◌}
use Rattle.sizes.specs.Sizes.{then}
use Rattle.total.proofs.add.Goals as goal

pub returns-in-Sized : goal.returns-in-Sized
unfolding then
returns-in-Sized c = c.add_wire_size.ensures ∙ simp c.in-Sized.is

pub returns-in-Over : goal.returns-in-Over
unfolding then
returns-in-Over c = simp c.in-Over.is
