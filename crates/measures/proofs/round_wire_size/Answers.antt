use Rattle.measures.proofs.Cutting.{cut_fixed, cut_bounded, cut_open}
use Rattle.measures.proofs.round_wire_size.Goals as goal

pub returns-in-Fixed : goal.returns-in-Fixed
returns-in-Fixed c = simp (c.within_limit.ensures, c.round_up.ensures, c.in-Fixed.is, cut_fixed)

pub returns-in-Bounded : goal.returns-in-Bounded
returns-in-Bounded c = simp (c.within_limit-in-Bounded.ensures, c.round_up-high.ensures, c.round_up-low.ensures, c.in-Bounded.is, cut_bounded)

pub returns-in-Open : goal.returns-in-Open
returns-in-Open c = simp (c.within_limit-in-Open.ensures, c.round_up-in-Open.ensures, c.in-Open.is, cut_open)
