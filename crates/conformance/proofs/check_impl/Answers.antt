use native.Mathlib.Omega.{arith}
use mathlib.Core.Path.{sym, ◌∙◌}
use Rattle.conformance.proofs.Slots.{none_named, past_slots, no_part, not_a_trait, paired, single}
use Rattle.conformance.proofs.check_impl.Goals as goal

pub returns-then-trait_id-eq0 : goal.returns-then-trait_id-eq0
returns-then-trait_id-eq0 c = none_named _ _ _ _ _ c.requires.0 _ c.requires.1 _ c.read_impl-impl_def.ensures c.if-trait_id-eq0.true _

pub returns-then-frame-trait_id : goal.returns-then-frame-trait_id
returns-then-frame-trait_id c = past_slots _ _ _ _ _ c.requires.0 _ c.requires.1 _ c.read_impl-impl_def.ensures c.if-trait_id-eq0.false c.if-frame-trait_id.true _

pub returns-then-kind-ne8 : goal.returns-then-kind-ne8
returns-then-kind-ne8 c = not_a_trait _ _ _ _ _ c.requires.0 _ c.requires.1 _ c.read_impl-impl_def.ensures c.if-trait_id-eq0.false c.if-frame-trait_id.false _ _ (sym c.slot_part.ensures ∙ c.in-At.is) c.if-kind-ne8.true _

pub overflow_cast-slot : goal.overflow_cast-slot
overflow_cast-slot c = omega (arith, c.requires.0.there, c.requires.0.promise.few)

pub check_single_impl_conformance-requires : goal.check_single_impl_conformance-requires
check_single_impl_conformance-requires c = paired _ _ _ _ _ c.requires.0 _ c.requires.1 _ c.read_impl-impl_def.ensures c.if-trait_id-eq0.false c.if-frame-trait_id.false _ _ (sym c.slot_part.ensures ∙ c.in-At.is) c.if-kind-ne8.false _ c.read_trait-trait_def.ensures

pub returns-else-kind-ne8 : goal.returns-else-kind-ne8
returns-else-kind-ne8 c = single _ _ _ _ _ c.requires.0 _ c.requires.1 _ c.read_impl-impl_def.ensures c.if-trait_id-eq0.false c.if-frame-trait_id.false _ _ (sym c.slot_part.ensures ∙ c.in-At.is) c.if-kind-ne8.false _ c.read_trait-trait_def.ensures _ _ _ c.check_single_impl_conformance.ensures

pub returns-in-Missing : goal.returns-in-Missing
returns-in-Missing c = no_part _ _ _ _ _ c.requires.0 _ c.requires.1 _ c.read_impl-impl_def.ensures c.if-trait_id-eq0.false c.if-frame-trait_id.false (sym c.slot_part.ensures ∙ c.in-Missing.is) _
