use mathlib.Core.Path.{ap, sym}
use Rattle.sizes.specs.Sizes.{largest}
use Rattle.measures.proofs.wire_size_max_bits.Goals as goal

pub returns-in-Fixed : goal.returns-in-Fixed
returns-in-Fixed c = sym (ap largest c.in-Fixed.is)

pub returns-in-Bounded : goal.returns-in-Bounded
returns-in-Bounded c = sym (ap largest c.in-Bounded.is)

pub returns-in-Open : goal.returns-in-Open
returns-in-Open c = sym (ap largest c.in-Open.is)
