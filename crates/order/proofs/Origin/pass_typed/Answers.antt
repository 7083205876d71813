use mathlib.Core.Path.{sym, ◌∙◌}
use native.Mathlib.Omega.{arith}
use Rattle.slot.proofs.FourBytes.{short_bytes}
use Rattle.order.proofs.Leading.{pass_short}
use Rattle.order.proofs.Origin.pass_typed.Goals as goal

pub overflow_add-at : goal.overflow_add-at
overflow_add-at c = omega (arith, (short_bytes _ _ _ _ _ _ (sym c.short_field.ensures ∙ c.in-Is.is)).long)

pub returns-in-Is : goal.returns-in-Is
returns-in-Is c = pass_short _ _ _ _ _ _ _ _ _ (sym c.short_field.ensures ∙ c.in-Is.is) c.leaf_leads_on.ensures _ c.then_some.ensures
