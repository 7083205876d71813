use mathlib.Core.Path.{sym, ◌∙◌}
use native.Mathlib.Omega.{arith}
use Rattle.slot.proofs.FourBytes.{short_bytes}
use Rattle.bare.proofs.Naming.{typed_short}
use Rattle.bare.proofs.Source.mark_typed.Goals as goal

pub overflow_add-result : goal.overflow_add-result
overflow_add-result c = omega (arith, (short_bytes _ _ _ _ _ _ (sym c.short_field.ensures ∙ c.in-Is.is)).long)

pub returns-in-Is : goal.returns-in-Is
returns-in-Is c = typed_short _ _ _ _ _ _ _ _ _ (sym c.short_field.ensures ∙ c.in-Is.is) c.mark_leaf.ensures
