use mathlib.Core.Path.{sym, ap, ◌∙◌}
use Rattle.total.specs.Totals.{total_after, step_of}
use Rattle.total.proofs.Totals.{summed}
use Rattle.total.proofs.add_field.Goals as goal

pub returns-in-Sized : goal.returns-in-Sized
unfolding total_after
returns-in-Sized c =
    let e = summed _ _ c.total_size.ensures c.add.ensures c.in-Sized.is in
    (c.total_of.ensures ∙ sym (ap (total_after _) e), sym (ap step_of e))

pub returns-in-Over : goal.returns-in-Over
unfolding total_after
returns-in-Over c =
    let e = summed _ _ c.total_size.ensures c.add.ensures c.in-Over.is in
    (sym (ap (total_after _) e), sym (ap step_of e))
