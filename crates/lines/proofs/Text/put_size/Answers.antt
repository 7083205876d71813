use Rattle.std.proofs.Common.{arith}
use Rattle.std.proofs.lemmas.Bool.Decides.{nat_tests}
use Rattle.lines.specs.Lines.{all_zero}
use Rattle.lines.proofs.Pieces.{no_line, size_put}
use Rattle.lines.proofs.Text.put_size.Goals as goal

pub returns-then-a-ne0 : goal.returns-then-a-ne0
unfolding all_zero
returns-then-a-ne0 c = size_put _ _ _ _ (grind (arith, nat_tests)) c.put_line.ensures

pub returns-else-c-ne0 : goal.returns-else-c-ne0
unfolding all_zero
returns-else-c-ne0 c = no_line _ _ _ _ _ (grind (arith, nat_tests))
