use Rattle.measures.proofs.drop_largest.Goals as goal

pub returns-in-Fixed : goal.returns-in-Fixed
returns-in-Fixed c = simp c.in-Fixed.is

pub returns-in-Bounded : goal.returns-in-Bounded
returns-in-Bounded c = simp c.in-Bounded.is

pub returns-in-Open : goal.returns-in-Open
returns-in-Open c = simp c.in-Open.is
