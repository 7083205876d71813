use Rattle.typeck.proofs.check.Goals as goal

pub returns : goal.returns
returns c = c.check_by.ensures
