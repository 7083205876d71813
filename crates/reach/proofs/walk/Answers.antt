use native.Mathlib.Omega.{arith}
use Rattle.reach.proofs.Walking.{going_start, going_back, room, going_push, going_pop}
use Rattle.reach.proofs.walk.Goals as goal

pub loop-depth-init : goal.loop-depth-init
loop-depth-init c = going_start _ _ _ c.requires.0 c.requires.1 c.requires.2 c.if-seen-start.false

pub returns-then-seen-j : goal.returns-then-seen-j
returns-then-seen-j c = let g = c.loop-depth.invariant in going_back _ _ _ _ _ c.requires.0 g c.loop-depth-test.true _ c.from-i.ensures _ c.first_left.ensures _ c.in-At.is c.if-seen-j.true

pub bounds-stack-depth-in-At : goal.bounds-stack-depth-in-At
bounds-stack-depth-in-At c = let g = c.loop-depth.invariant in omega (arith, room _ _ _ _ _ c.requires.0 g c.loop-depth-test.true _ c.from-i.ensures _ c.first_left.ensures _ c.in-At.is c.if-seen-j.false, g.walk.stack_long)

pub loop-depth-smaller-in-At : goal.loop-depth-smaller-in-At
loop-depth-smaller-in-At c = let g = c.loop-depth.invariant in omega (arith, room _ _ _ _ _ c.requires.0 g c.loop-depth-test.true _ c.from-i.ensures _ c.first_left.ensures _ c.in-At.is c.if-seen-j.false)

pub loop-depth-preserved-in-At : goal.loop-depth-preserved-in-At
loop-depth-preserved-in-At c = let g = c.loop-depth.invariant in going_push _ _ _ _ _ c.requires.0 g c.loop-depth-test.true _ c.from-i.ensures _ c.first_left.ensures _ c.in-At.is c.if-seen-j.false

pub loop-depth-preserved : goal.loop-depth-preserved
loop-depth-preserved c = let g = c.loop-depth.invariant in going_pop _ _ _ _ _ c.requires.0 g c.loop-depth-test.true _ c.from-i.ensures _ c.first_left.ensures c.in-Nowhere.is _ c.clear.ensures
