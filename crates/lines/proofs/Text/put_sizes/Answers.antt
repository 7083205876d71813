use Prim.Native.Nat.{◌/◌}
use native.Mathlib.Omega.{arith}
use mathlib.Core.Path.{◌≡◌, ◌∙◌}
use lib.ListN.{length}
use Rattle.lines.proofs.Pieces.{no_sizes_lem, size_more}
use Rattle.lines.proofs.Chunks.{none_gone, one_gone, length_all}
use Rattle.lines.proofs.Text.put_sizes.Goals as goal

pub loop-slot-init : goal.loop-slot-init
loop-slot-init c =
    rw (c.into_iter-slot-iterator.ensures.into_iter_gives, c.enumerate-slot-items.ensures.source, c.enumerate-slot-items.ensures.count)
    (record { three = c.chunks_exact.ensures.size; left = none_gone _ _ _ c.chunks_exact.ensures.rest; lines = no_sizes_lem _ _ })

pub loop-slot-preserved : goal.loop-slot-preserved
loop-slot-preserved c =
    let g = c.loop-slot.invariant in
    let s = c.in-Some.ensures.steps in
    let three = s.0.1.1 ∙ g.three in
    rw s.2
    (record {
      three = s.0.0 ∙ g.three;
      left = one_gone g.left _ _ s.0.1.0 three;
      lines = size_more _ _ _ g.left s.0.1.0 three s.1 g.lines c.put_size.ensures;
    })

pub returns : goal.returns
returns c =
    let g = c.loop-slot.invariant in
    let s = c.in-None.ensures.steps in
    let all : c.loop-slot.slot-iterator.count ≡ length c.args.sizes.now / 3 = omega (arith, length_all g.left, s.0.1.0, g.three) in
    rw all at g.lines
