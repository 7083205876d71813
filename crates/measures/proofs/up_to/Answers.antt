use mathlib.Core.Path.{ap}
use Rattle.measures.specs.Cut.{high_of}
use Rattle.measures.proofs.Cutting.{up_to_open, up_to_sized, up_to_over}
use Rattle.measures.proofs.up_to.Goals as goal

pub returns-in-Sized : goal.returns-in-Sized
returns-in-Sized c = up_to_sized _ (ap high_of c.in-Most.is) c.multiply_wire_size.ensures c.in-Sized.is c.count_bits.ensures

pub returns-in-Over : goal.returns-in-Over
returns-in-Over c = up_to_over _ (ap high_of c.in-Most.is) c.multiply_wire_size.ensures c.in-Over.is

pub returns-in-None : goal.returns-in-None
returns-in-None c = up_to_open _ (ap high_of c.in-None.is)
