use Rattle.lines.proofs.Pieces.{line_put}
use Rattle.lines.proofs.Text.put_line.Goals as goal

pub returns : goal.returns
returns c = line_put _ c.append.ensures c.put_numbers.ensures c.put.ensures
