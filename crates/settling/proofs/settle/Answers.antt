use Rattle.settling.specs.Steps.{frame_of}
use mathlib.Core.Path.{sym, ap, ◌∙◌}
use native.Mathlib.Omega.{arith}
use Rattle.number.specs.Answers.{follow}
use Rattle.view.specs.Take.{place_of}
use Rattle.slot.proofs.FourBytes.{short_bytes}
use Rattle.settling.proofs.Settling.{limit_to}
use Rattle.settling.proofs.settle.Goals as goal

pub overflow_add-at : goal.overflow_add-at
overflow_add-at c = omega (arith, (short_bytes _ _ _ _ _ _ (sym c.short_field.ensures ∙ c.in-Is.is)).long)

pub returns-in-Is : goal.returns-in-Is
unfolding follow
returns-in-Is c =
    c.settle_short.ensures _ _ _
    (limit_to (frame_of c.args.scope) _ _ _ (c.place_of-next.ensures ∙ ap place_of c.skip_limit.ensures))
    (sym c.short_field.ensures ∙ c.in-Is.is)
