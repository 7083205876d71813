use Rattle.number.proofs.Reading.{told}
use Rattle.matching.proofs.Leaves.{names_start, names_end, names_on, names_differ, names_first, names_second}
use Rattle.matching.proofs.same_names.Goals as goal

pub loop-init : goal.loop-init
loop-init c = names_start _ _ _ _ _

pub returns-in_default : goal.returns-in_default
returns-in_default c = names_first _ _ _ _ _ _ _ _ c.loop-test.true c.loop.invariant _ _ _ (told c.read_below.ensures c.in_default.is)

pub returns-in_default-read_below : goal.returns-in_default-read_below
returns-in_default-read_below c = names_second _ _ _ _ _ _ _ _ c.loop-test.true c.loop.invariant _ _ _ (told c.read_below-in-loop.ensures c.in_default-read_below.is)

pub returns-then-x-y : goal.returns-then-x-y
returns-then-x-y c = names_differ _ _ _ _ _ _ _ _ c.loop-test.true c.loop.invariant _ _ _ _ (told c.read_below.ensures c.in-Value.is) (told c.read_below-in-loop.ensures c.in-Value-read_below.is) c.if-x-y.true

pub loop-preserved : goal.loop-preserved
loop-preserved c = names_on _ _ _ _ _ _ _ _ c.loop-test.true c.loop.invariant _ _ _ _ (told c.read_below.ensures c.in-Value.is) (told c.read_below-in-loop.ensures c.in-Value-read_below.is) c.if-x-y.false

pub returns : goal.returns
returns c = names_end _ _ _ _ _ _ _ _ c.loop-test.false c.loop.invariant
