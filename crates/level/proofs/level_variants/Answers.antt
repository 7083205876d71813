use native.Mathlib.Omega.{arith}
use mathlib.Core.Path.{refl, sym, subst}
use Rattle.number.proofs.Reading.{told}
use Rattle.sizes.specs.declared.Operation.{Operation}
use Rattle.settling.proofs.Ended.{not_refused}
use Rattle.wiresize.proofs.Fields.{laid_as, next_field, field_over, count_read}
use Rattle.wiresize.proofs.Variants.{clash, next_variant}
use Rattle.level.specs.declared.Tallied.{Tallied}
use Rattle.level.specs.Level.{Tallies}
use Rattle.level.proofs.Variants.{walks, visits_few, fields_turn, in_start, in_variant, variants_turn, in_end, in_over}
use Rattle.level.proofs.level_variants.Goals as goal
use Rattle.level.proofs.level_variants.Goals.{else-variants-test, then-variants-test+in-Value+then-loop-more-test+in-Over}

pub variants-init : goal.variants-init
variants-init c = (refl, in_start _ _ _ _ _ _ _ _ _ c.requires.0.reads _)

pub returns-in_default : goal.returns-in_default
returns-in_default c = absurd (not_refused (told c.read_below.ensures c.in_default.is) (count_read _ _ _ (next_variant _ _ _ _ _ _ _ c.variants.invariant.1.variants c.variants-test.true).here).2)

pub loop-more-init : goal.loop-more-init
loop-more-init c = (
  c.variants.invariant.0,
  in_variant _ _ _ _ _ c.variants.invariant.1 c.variants-test.true (told c.read_below.ensures c.in-Value.is) c.empty_total-total.ensures,
)

pub level_field-field-requires : goal.level_field-field-requires
level_field-field-requires c =
    let f = next_field _ _ _ _ _ _ _ c.loop-more.invariant.1.fields c.loop-more-test.true in
    let a = c.requires.0 in
    record { small = a.small; room = a.room; thing = _; end = _; reads = f.here }

pub overflow_add-visits : goal.overflow_add-visits
overflow_add-visits c =
    let same = c.requires.1 in
    let f = visits_few _ _ _ _ _ c.loop-more.invariant.1 c.loop-more-test.true _ c.level_field-field.ensures (laid_as same _ c.lay-worked.ensures) c.add_field.ensures c.in_default-add_field.is in
    omega (arith, f.0, f.1, c.requires.0.small)

pub loop-more-preserved : goal.loop-more-preserved
loop-more-preserved c =
    let same = c.requires.1 in (
      c.loop-more.invariant.0,
      fields_turn _ _ _ _ _ c.loop-more.invariant.1 c.loop-more-test.true _ c.level_field-field.ensures (laid_as same _ c.lay-worked.ensures) c.add_field.ensures c.in_default-add_field.is,
    )

pub variants-preserved : goal.variants-preserved
variants-preserved c = (
  c.loop-more.invariant.0,
  variants_turn _ _ _ _ _ c.variants.invariant.1 c.variants-test.true (told c.read_below.ensures c.in-Value.is) c.loop-more.invariant.1 c.loop-more-test.false c.total_size-last.ensures c.widen-extremes.ensures,
)

pub returns-then-over : goal.returns-then-over
returns-then-over c =
    let same = c.requires.1 in
    elim c.variants-test.branch [
      | else-variants-test w ↦ absurd (clash c.if-over.true w.over-is c.variants.invariant.0)
      | then-variants-test+in-Value+then-loop-more-test+in-Over w ↦
          subst (λ (o : Operation). Tallies _ _ _ _ _ _ _ (Tallied.Over o)) (sym w.by-is)
          (in_over _ _ _ _ _ c.variants.invariant.1 w.variants-test.true (told w.read_below.ensures w.in-Value.is) _
          (field_over _ _ _ _ _ _ _ w.loop-more.invariant.1.fields w.loop-more-test.true _ (walks _ _ _ _ _ w.level_field-field.ensures) (laid_as same _ w.lay-worked.ensures) w.add_field.ensures w.in-Over.is))
    ]

pub returns : goal.returns
returns c =
    elim c.variants-test.branch [
      | else-variants-test w ↦ in_end _ _ _ _ _ c.variants.invariant.1 w.variants-test.false w.visits-is
      | then-variants-test+in-Value+then-loop-more-test+in-Over w ↦ absurd (clash refl (sym w.over-is) c.if-over.false)
    ]
