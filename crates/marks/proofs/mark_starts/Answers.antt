use Rattle.marks.proofs.Starting.{going_start, going_on, going_end}
use Rattle.marks.proofs.mark_starts.Goals as goal

pub loop-init : goal.loop-init
loop-init c = going_start _ _ _ _ c.requires.0 c.requires.1 c.requires.2

pub loop-preserved : goal.loop-preserved
loop-preserved c = going_on _ _ _ _ _ _ _ _ c.loop.invariant c.loop-test.true _ c.take-slot.ensures _ c.mark_start.ensures

pub returns : goal.returns
returns c = going_end _ _ _ _ _ _ _ _ c.loop.invariant c.loop-test.false
