use Rattle.lines.proofs.Pieces.{none_spaced, number_more}
use Rattle.lines.proofs.Text.put_numbers.Goals as goal

pub loop-number-init : goal.loop-number-init
loop-number-init c = none_spaced _

pub loop-number-preserved : goal.loop-number-preserved
loop-number-preserved c = number_more _ _ c.loop-number-test.true c.loop-number.invariant c.put.ensures c.put_number.ensures
