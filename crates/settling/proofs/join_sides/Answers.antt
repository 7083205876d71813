use mathlib.Core.Path.{refl, ◌∙◌}
use Rattle.sizes.specs.Sizes.{then}
use Rattle.settling.proofs.Ended.{not_over}
use Rattle.settling.proofs.join_sides.Goals as goal

pub returns-in-Sized : goal.returns-in-Sized
unfolding then
returns-in-Sized c = record { next = refl; sized = λ z q. (_, c.in-Sized.is); worked = c.result_wire_size.ensures ∙ simp c.in-Sized.is }

pub returns-in-Over : goal.returns-in-Over
unfolding then
returns-in-Over c = record { next = refl; sized = λ z q. absurd (not_over refl q); worked = simp c.in-Over.is }
