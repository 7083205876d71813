use mathlib.Core.Path.{sym, ap}
use Rattle.sizes.specs.Widths.{highest}
use Rattle.rows.proofs.Taking.{first_run, next_run, last_run}
use Rattle.rows.proofs.highest_of.Goals as goal

pub loop-init : goal.loop-init
loop-init c = first_run highest _ _ _ _ _ _

pub loop-preserved : goal.loop-preserved
unfolding highest
loop-preserved c = next_run highest _ _ _ _ _ _ _ _ _ c.loop.invariant c.loop-test.true _ _ c.take-ordinal.ensures _ (λ ns. ap (λ x. highest x ns) (sym c.max-top.ensures))

pub returns : goal.returns
unfolding highest
returns c = λ os n e. let w = last_run highest _ _ _ _ _ _ _ _ _ c.loop.invariant c.loop-test.false os n e in (sym w.0, w.1)
