use mathlib.Core.Path.{◌∙◌}
use Rattle.measures.proofs.Cutting.{cut_fixed}
use Rattle.measures.proofs.add_wire_size.Goals as goal

pub returns-in-Fixed-field : goal.returns-in-Fixed-field
returns-in-Fixed-field c = simp (c.within_limit.ensures, c.sum.ensures, c.in-Fixed-field.is, c.in-Fixed.is, cut_fixed)

pub returns-in-Bounded-field : goal.returns-in-Bounded-field
returns-in-Bounded-field c = c.add_varying.ensures ∙ simp (c.in-Bounded-field.is, c.in-Fixed.is)

pub returns-in-Open-field : goal.returns-in-Open-field
returns-in-Open-field c = c.add_varying-in-Open-field.ensures ∙ simp (c.in-Open-field.is, c.in-Fixed.is)

pub returns-in-Bounded : goal.returns-in-Bounded
returns-in-Bounded c = c.add_varying-in-Bounded.ensures ∙ simp c.in-Bounded.is

pub returns-in-Open : goal.returns-in-Open
returns-in-Open c = c.add_varying-in-Open.ensures ∙ simp c.in-Open.is
