use native.Mathlib.Omega.{arith}
use mathlib.Core.Path.{refl, ◌∙◌}
use Rattle.rows.proofs.Widths.{by_ordinals, by_backing, no_backing}
use Rattle.rows.proofs.compute_enum_wire_bits.Goals as goal

pub returns-in-0 : goal.returns-in-0
returns-in-0 c = λ e b x h. by_ordinals _ _ _ _ c.least_bits.ensures (cc) e (b ∙ c.in-0.is) x h

pub returns-in-1 : goal.returns-in-1
returns-in-1 c = λ e b x h. by_backing 0 8 refl e (b ∙ c.in-1.is)

pub returns-in-2 : goal.returns-in-2
returns-in-2 c = λ e b x h. by_backing 1 16 refl e (b ∙ c.in-2.is)

pub returns-in-3 : goal.returns-in-3
returns-in-3 c = λ e b x h. by_backing 2 32 refl e (b ∙ c.in-3.is)

pub returns-in-4 : goal.returns-in-4
returns-in-4 c = λ e b x h. by_backing 3 64 refl e (b ∙ c.in-4.is)

pub returns-in_default : goal.returns-in_default
returns-in_default c = λ e b x h. no_backing _ (omega arith) e b
