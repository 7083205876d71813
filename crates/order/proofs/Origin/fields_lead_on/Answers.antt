use Rattle.number.proofs.Reading.{told}
use Rattle.order.proofs.Leading.{run_start, run_on, run_stop, run_end, counted_led, counted_not}
use Rattle.order.proofs.Origin.fields_lead_on.Goals as goal

pub returns-in_default : goal.returns-in_default
returns-in_default c = counted_not _ _ _ _ _ _ _ _ (told c.read_below.ensures c.in_default.is)

pub loop-init : goal.loop-init
loop-init c = run_start _ _ _ _ _ _

pub returns-in_default-pass_field : goal.returns-in_default-pass_field
returns-in_default-pass_field c = counted_led _ _ _ _ _ _ _ _ (told c.read_below.ensures c.in-Value.is) (run_stop _ _ _ _ _ _ _ _ c.loop.invariant c.loop-test.true c.in_default-pass_field.ensures)

pub loop-preserved : goal.loop-preserved
loop-preserved c = run_on _ _ _ _ _ _ _ _ c.loop.invariant c.loop-test.true _ c.in-Some.ensures

pub returns : goal.returns
returns c = counted_led _ _ _ _ _ _ _ _ (told c.read_below.ensures c.in-Value.is) (run_end _ _ _ _ _ _ _ _ c.loop.invariant c.loop-test.false)
