use Rattle.lines.proofs.Pieces.{end_put}
use Rattle.lines.proofs.Text.put_end.Goals as goal

pub returns : goal.returns
returns c = end_put _ c.put_line.ensures
