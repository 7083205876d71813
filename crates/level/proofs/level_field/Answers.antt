use mathlib.Core.Path.{sym, ◌∙◌}
use Rattle.settling.proofs.Settling.{is_settled, name_settled, at_settled}
use Rattle.level.proofs.level_field.Goals as goal

pub answer_of-worked-requires : goal.answer_of-worked-requires
answer_of-worked-requires c = c.requires.room

pub level_plain-requires : goal.level_plain-requires
level_plain-requires c =
    let a = c.requires in
    let k = at_settled _ _ _ _ c.settle.ensures _ c.in-At.is a.thing a.end a.reads in
    record { small = a.small; room = a.room; thing = k.0; end = a.end; reads = k.1 }

pub returns-in-Is : goal.returns-in-Is
returns-in-Is c =
    let k = is_settled _ _ _ _ c.settle.ensures _ c.in-Is.is in
    record { worked = λ x end q. (k x end q).1 _; next = λ x end q z e. (k x end q).0; visits = λ x end q z e. sym (k x end q).2 }

pub returns-in-Name : goal.returns-in-Name
returns-in-Name c =
    let k = name_settled _ _ _ _ c.settle.ensures _ _ c.in-Name.is in
    record { worked = λ x end q. c.answer_of-worked.ensures ∙ (k x end q).1 _; next = λ x end q z e. (k x end q).0; visits = λ x end q z e. sym (k x end q).2 }

pub returns-in-At : goal.returns-in-At
returns-in-At c =
    let k = at_settled _ _ _ _ c.settle.ensures _ c.in-At.is in
    let w = c.level_plain.ensures in
    record {
      worked = λ x end q. w.worked _ _ (k x end q).1 ∙ (k x end q).2 _;
      next = λ x end q z e. w.next _ _ (k x end q).1 z e;
      visits = λ x end q z e. w.visits _ _ (k x end q).1 z e ∙ (k x end q).3;
    }
