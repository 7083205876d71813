use native.Mathlib.Omega.{arith}
use Rattle.number.proofs.InRange.{below_is}
use Rattle.number.proofs.Reading.{told}
use Rattle.image.proofs.Finding.{written_start, written_on, written_stop, written_end}
use Rattle.image.proofs.read_finds.Goals as goal

pub loop-i-init : goal.loop-i-init
loop-i-init c = written_start _ _ _ _

pub overflow_cast-find : goal.overflow_cast-find
overflow_cast-find c = omega (arith, (below_is _ _ _ _ _ (told c.read_below.ensures c.in-Value.is)).under)

pub loop-i-preserved : goal.loop-i-preserved
loop-i-preserved c = written_on _ _ _ _ _ _ _ c.loop-i.invariant c.loop-i-test.true _ _ (told c.read_below.ensures c.in-Value.is) _ c.note_find.ensures

pub shape_of-finds-in-Refused : goal.shape_of-finds-in-Refused
shape_of-finds-in-Refused c = c.loop-i.invariant.long

pub returns-in-Refused : goal.returns-in-Refused
returns-in-Refused c = written_stop _ _ _ _ _ _ _ c.loop-i.invariant c.loop-i-test.true _ _ (told c.read_below.ensures c.in-Refused.is)

pub shape_of-finds : goal.shape_of-finds
shape_of-finds c = c.loop-i.invariant.long

pub returns : goal.returns
returns c = written_end _ _ _ _ _ _ _ c.loop-i.invariant c.loop-i-test.false
