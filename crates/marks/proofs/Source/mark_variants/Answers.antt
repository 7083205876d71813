use Rattle.number.proofs.Reading.{told}
use Rattle.marks.proofs.Runs.{run_start, run_on, run_end, counted_marked, counted_not, variants_all}
use Rattle.marks.proofs.Source.mark_variants.Goals as goal

pub returns-in_default : goal.returns-in_default
returns-in_default c = counted_not _ _ _ _ _ _ _ _ _ variants_all _ _ (told c.read_below.ensures c.in_default.is)

pub loop-init : goal.loop-init
loop-init c = run_start _ _ _ _ _ _ _

pub loop-preserved : goal.loop-preserved
loop-preserved c = run_on _ _ _ _ _ _ _ _ _ _ _ _ c.loop-test.true c.mark_fields-here.ensures c.loop.invariant

pub returns : goal.returns
returns c = counted_marked _ _ _ _ _ _ _ _ _ variants_all _ _ (told c.read_below.ensures c.in-Value.is) (run_end _ _ _ _ _ _ _ _ _ _ c.loop-test.false c.loop.invariant)
