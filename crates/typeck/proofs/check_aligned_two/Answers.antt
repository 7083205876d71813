use Rattle.typeck.proofs.check_aligned_two.Goals as goal

pub returns : goal.returns
returns c = c.check_by.ensures
