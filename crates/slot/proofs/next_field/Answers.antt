use mathlib.Core.Path.{sym, ◌∙◌}
use native.Mathlib.Omega.{arith}
use Rattle.number.specs.Answers.{follow}
use Rattle.slot.proofs.FourBytes.{short_bytes, short_next}
use Rattle.slot.proofs.next_field.Goals as goal

pub overflow_add-at : goal.overflow_add-at
overflow_add-at c = omega (arith, (short_bytes _ _ _ _ _ _ (sym c.short_field.ensures ∙ c.in-Is.is)).long)

pub returns-in-Is : goal.returns-in-Is
unfolding follow
returns-in-Is c = c.skip_limit.ensures ∙ sym (short_next _ _ _ _ _ _ (sym c.short_field.ensures ∙ c.in-Is.is) _)

pub returns-in-Other : goal.returns-in-Other
unfolding follow
returns-in-Other c = c.skip_field.ensures
