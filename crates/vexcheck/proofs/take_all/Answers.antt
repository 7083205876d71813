use native.Mathlib.Omega.{arith}
use mathlib.Core.Path.{sym, ap, ◌∙◌}
use Rattle.std.specs.Prelude.{Ok}
use Rattle.vexcheck.proofs.Known.{on_further, bytes_more, all_read}
use Rattle.vexcheck.proofs.take_all.Goals as goal

pub loop-at-smaller : goal.loop-at-smaller
loop-at-smaller g c =
    let more = bytes_more _ _ _ _ _ 0 _ _ _ c.loop-at.invariant.within (sym c.after_read.ensures ∙ c.in_ok-next.was ∙ ap Ok c.in-Some.is) c.read.ensures.bound c.loop-at.invariant.bytes c.read.ensures.bytes in
    let further = on_further _ _ _ (sym c.after_read.ensures ∙ c.in_ok-next.was ∙ ap Ok c.in-Some.is) in
    omega (arith, more.0, further.2, further.3)

pub loop-at-preserved : goal.loop-at-preserved
loop-at-preserved g c =
    let more = bytes_more _ _ _ _ _ _ _ _ _ c.loop-at.invariant.within (sym c.after_read.ensures ∙ c.in_ok-next.was ∙ ap Ok c.in-Some.is) c.read.ensures.bound c.loop-at.invariant.bytes c.read.ensures.bytes in
    record { within = omega (arith, more.0); bytes = more.1 }

pub returns-in-None-clause-bytes : goal.returns-in-None-clause-bytes
returns-in-None-clause-bytes g c =
    all_read _ _ _ _ _ _ _ _ c.loop-at.invariant.within (omega arith) (omega arith) (sym c.after_read.ensures ∙ c.in_ok-next.was ∙ ap Ok c.in-None.is) c.loop-at.invariant.bytes c.read.ensures.bytes
