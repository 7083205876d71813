use Rattle.lines.proofs.Pieces.{number_put}
use Rattle.lines.proofs.Text.put_number.Goals as goal

pub returns : goal.returns
returns c = number_put _ c.args.n c.decimal-count.result c.decimal-count.ensures.len c.decimal-count.ensures.digits c.append.ensures
