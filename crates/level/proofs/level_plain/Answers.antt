use mathlib.Core.Path.{sym, ◌∙◌}
use Rattle.view.proofs.Places.{at_place}
use Rattle.settling.proofs.Counting.{nodes_limited}
use Rattle.settling.proofs.Elements.{is_told, type_told, limited_told, limited_sized}
use Rattle.level.proofs.level_plain.Goals as goal

pub level_type-field-requires : goal.level_type-field-requires
level_type-field-requires c =
    let a = c.requires in
    let k = type_told _ _ _ _ c.settle_plain.ensures c.in-Type.is a.thing a.end a.reads in
    record { small = a.small; room = a.room; thing = a.thing.type; end = k.0; reads = k.1 }

pub level_limited-requires : goal.level_limited-requires
level_limited-requires c =
    let a = c.requires in
    let k = limited_told _ _ _ _ c.settle_plain.ensures _ c.in-Limited.is a.thing a.end a.reads in
    record { small = a.small; room = a.room; thing = k.element; end = k.behind; reads = k.reads }

pub returns-in-Is : goal.returns-in-Is
returns-in-Is c =
    let k = is_told _ _ _ _ c.settle_plain.ensures _ c.in-Is.is in
    record { worked = λ x end q. (k x end q).1 _; next = λ x end q z e. (k x end q).0; visits = λ x end q z e. sym (k x end q).2 }

pub returns-in-Type : goal.returns-in-Type
returns-in-Type c =
    let k = type_told _ _ _ _ c.settle_plain.ensures c.in-Type.is in
    let w = c.level_type-field.ensures.0 in
    let past = c.pass_limit-past.ensures in
    record {
      worked = λ x end q. w.worked _ _ (k x end q).1 ∙ (k x end q).3 _;
      next = λ x end q z e. past.next _ _ (at_place _ _ (k x end q).2 (w.next _ _ (k x end q).1 z e));
      visits = λ x end q z e. w.visits _ _ (k x end q).1 z e ∙ (k x end q).4;
    }

pub returns-in-Limited : goal.returns-in-Limited
returns-in-Limited c =
    let k = limited_told _ _ _ _ c.settle_plain.ensures _ c.in-Limited.is in
    let w = c.level_limited.ensures in
    record {
      worked = λ x end q. limited_sized _ _ _ _ _ (k x end q) _ (w.worked _ _ (k x end q).reads);
      next = λ x end q z e. w.next ∙ (k x end q).next;
      visits = λ x end q z e. w.visits _ _ (k x end q).reads z e ∙ sym (nodes_limited x (k x end q).element (k x end q).bears);
    }
