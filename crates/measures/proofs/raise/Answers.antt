use Rattle.measures.proofs.raise.Goals as goal

pub returns : goal.returns
returns c = c.add_varying.ensures
