use mathlib.Core.Path.{sym, ◌∙◌}
use Rattle.conformance.proofs.Slots.{missing, other_kind, impl_part}
use Rattle.conformance.proofs.check_slot.Goals as goal

pub returns-then-kind-ne9 : goal.returns-then-kind-ne9
returns-then-kind-ne9 c = other_kind _ _ _ _ _ c.requires _ _ (sym c.slot_part.ensures ∙ c.in-At.is) c.if-kind-ne9.true _

pub check_impl-requires : goal.check_impl-requires
check_impl-requires c = (c.requires, impl_part _ _ _ _ _ c.requires _ _ (sym c.slot_part.ensures ∙ c.in-At.is) c.if-kind-ne9.false)

pub returns-in-Missing : goal.returns-in-Missing
returns-in-Missing c = missing _ _ _ _ _ c.requires (sym c.slot_part.ensures ∙ c.in-Missing.is) _
