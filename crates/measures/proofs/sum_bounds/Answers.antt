use Rattle.measures.proofs.sum_bounds.Goals as goal

pub returns-in-Most-b : goal.returns-in-Most-b
returns-in-Most-b c = simp (c.in-Most.is, c.in-Most-b.is, c.sum.ensures)

pub returns-in-None-b : goal.returns-in-None-b
returns-in-None-b c = simp (c.in-Most.is, c.in-None-b.is)

pub returns-in-None : goal.returns-in-None
returns-in-None c = simp c.in-None.is
