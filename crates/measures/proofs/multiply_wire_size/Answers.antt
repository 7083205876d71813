use Rattle.measures.proofs.Cutting.{cut_fixed, cut_bounded, cut_open}
use Rattle.measures.proofs.multiply_wire_size.Goals as goal

pub returns-in-Fixed : goal.returns-in-Fixed
returns-in-Fixed c = simp (c.within_limit.ensures, c.product.ensures, c.in-Fixed.is, cut_fixed)

pub returns-in-Bounded : goal.returns-in-Bounded
returns-in-Bounded c = simp (c.within_limit-in-Bounded.ensures, c.product-in-Bounded-2.ensures, c.product-in-Bounded.ensures, c.in-Bounded.is, cut_bounded)

pub returns-in-Open : goal.returns-in-Open
returns-in-Open c = simp (c.within_limit-in-Open.ensures, c.product-in-Open.ensures, c.in-Open.is, cut_open)
