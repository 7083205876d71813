use Rattle.loops.proofs.Filling.{lowest_is}
use Rattle.loops.proofs.looped_in.Goals as goal

pub returns : goal.returns
returns c = λ ed p. lowest_is _ _ _ _ _ _ _ _ _ p.few (c.fill_rows.ensures ed p) c.lowest_on_loop.ensures.answer
