use mathlib.Core.Path.{◌∙◌}
use Rattle.number.proofs.Reading.{told}
use Rattle.reader.proofs.Losing.{lost_is, first_turn, last_turn, stop_turn, found_turn, next_turn}
use Rattle.reader.proofs.lost_name.Goals as goal

pub loop-n-init : goal.loop-n-init
loop-n-init c = λ ed l. first_turn _ _ _ _

pub returns-then-is_lost : goal.returns-then-is_lost
returns-then-is_lost c = λ ed l. found_turn _ _ _ _ _ _ (c.loop-n.invariant ed l) c.loop-n-test.true _ _ (told c.read_below.ensures c.in-Value.is) _ (c.is_lost.ensures ∙ lost_is _ _ _ _ _ l _) c.if-is_lost.true

pub loop-n-preserved : goal.loop-n-preserved
loop-n-preserved c = λ ed l. next_turn _ _ _ _ _ _ (c.loop-n.invariant ed l) c.loop-n-test.true _ _ (told c.read_below.ensures c.in-Value.is) _ (c.is_lost.ensures ∙ lost_is _ _ _ _ _ l _) c.if-is_lost.false

pub returns-in-Refused : goal.returns-in-Refused
returns-in-Refused c = λ ed l. stop_turn _ _ _ _ _ _ (c.loop-n.invariant ed l) c.loop-n-test.true _ _ (told c.read_below.ensures c.in-Refused.is) _

pub returns : goal.returns
returns c = λ ed l. last_turn _ _ _ _ _ _ (c.loop-n.invariant ed l) c.loop-n-test.false
