use Rattle.measures.proofs.vary.Goals as goal

pub returns-in-Most : goal.returns-in-Most
returns-in-Most c = simp c.in-Most.is

pub returns-in-None : goal.returns-in-None
returns-in-None c = simp c.in-None.is
