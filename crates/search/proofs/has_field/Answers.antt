use Rattle.search.proofs.Searching.{of_name, is_named, name_differs, at_end, field_asked, hit, onward, field_cut}
use mathlib.Core.Bool.{false}
use mathlib.Core.Path.{refl}
use Rattle.search.proofs.has_field.Goals as goal
use Rattle.search.proofs.has_field.Goals.{else-field-name-via-then-field-name+else-is_field, else-field-name-via-else-field-name}

pub is_field-requires : goal.is_field-requires
is_field-requires c = field_asked _ _ _ _ _ _ _ _ _ c.requires _ _ c.loop-test.true c.loop.invariant _ c.field_head-field.ensures

pub loop-preserved : goal.loop-preserved
loop-preserved c =
    let frame = c.args.frame in
    onward frame _ _ _ _ _ _ _ _ c.loop-test.true c.loop.invariant _ c.field_head-field.ensures false (elim c.else-field-name.branch [ else-field-name-via-then-field-name+else-is_field w ↦ of_name frame _ _ _ _ _ w.if-field-name.true _ w.is_field.ensures w.if-is_field.false | else-field-name-via-else-field-name w ↦ name_differs frame _ _ _ _ _ w.if-field-name.false ]) refl _ _ c.read_tree-limited.ensures c.skip_limit.ensures _ c.in-At.is

pub returns-after-loop : goal.returns-after-loop
returns-after-loop c = at_end c.args.frame _ _ _ _ _ _ _ _ c.loop-test.false c.loop.invariant

pub returns-then-is_field : goal.returns-then-is_field
returns-then-is_field c =
    let frame = c.args.frame in
    hit frame _ _ _ _ _ _ _ _ c.loop-test.true c.loop.invariant _ c.field_head-field.ensures _ (is_named frame _ _ _ _ _ c.if-field-name.true _ c.is_field.ensures) c.if-is_field.true

pub returns-in_default : goal.returns-in_default
returns-in_default c = field_cut c.args.frame _ _ _ _ _ _ _ _ c.loop-test.true c.loop.invariant _ c.field_head-field.ensures _ _ c.read_tree-limited.ensures c.skip_limit.ensures _ _ _ c.in_default.is
