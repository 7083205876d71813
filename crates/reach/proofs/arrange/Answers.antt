use Prim.Native.Nat.{◌<◌}
use native.Mathlib.Omega.{arith}
use mathlib.Core.Bool.{Bool, false}
use mathlib.Core.Path.{sym, ◌∙◌}
use lib.ListN.{length-take}
use lib.Seq.{get_or-take}
use Rattle.reach.proofs.Arranging.{lit_start, sofar_start, sofar_past, sofar_on}
use Rattle.reach.proofs.arrange.Goals as goal
use Rattle.reach.proofs.arrange.Goals.{then-start+in-Done, else-start}

pub light-requires : goal.light-requires
light-requires c = (lit_start 0, c.requires.0.few)

pub loop-s-init : goal.loop-s-init
loop-s-init c = sofar_start _ _ _ _ _ _ _ c.requires.0.few c.light.ensures c.requires.2

pub loop-s-preserved : goal.loop-s-preserved
loop-s-preserved c =
    let a = c.args in
    let g = c.loop-s.invariant in
    let low : c.loop-s.s < a.count = omega (arith, c.loop-s-test.true, length-take {A = Bool}) in
    let start = get_or-take a.count a.starts.now c.loop-s.s false low in
    elim c.if-start.branch [
      | then-start+in-Done w ↦ rw (w.seen-is, w.stack-is, w.order-is, w.left-is, w.done-is)
          (sofar_on _ _ _ g low (sym start ∙ w.if-start.true) (rw w.in-Done.is at w.walk.ensures))
      | else-start w ↦ rw (w.seen-is, w.stack-is, w.order-is, w.left-is, w.done-is) (sofar_past _ _ _ g (sym start ∙ w.if-start.false))
    ]
