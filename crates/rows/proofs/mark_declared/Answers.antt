use mathlib.Core.Path.{◌∙◌}
use Rattle.rows.proofs.Taking.{first_run, next_run, last_run}
use Rattle.rows.proofs.Marking.{marked, mark_first, mark_none, marked_is}
use Rattle.rows.proofs.mark_declared.Goals as goal

pub loop-init : goal.loop-init
loop-init c = first_run marked _ _ _ _ _ _

pub loop-preserved : goal.loop-preserved
loop-preserved c = next_run marked _ _ _ _ _ _ _ _ _ c.loop.invariant c.loop-test.true _ _ c.take-slot.ensures _ (mark_first _ _ _ c.mark.ensures)

pub returns : goal.returns
returns c = λ ds n e. marked_is _ _ ds ((last_run marked _ _ _ _ _ _ _ _ _ c.loop.invariant c.loop-test.false ds n e).0 ∙ mark_none _)
