use native.Mathlib.Omega.{arith}
use mathlib.Core.Path.{sym, ◌∙◌}
use Rattle.settling.proofs.Typing.{leaf_end, name_sized, type_headed, leaf_decided, pass_decided, name_decided, one_decided, sides_decided}
use Rattle.wiresize.proofs.Insides.{name_part, sides_part}
use Rattle.level.proofs.Types.{type_ends, named_one, head_few, head_one, child_there, child_few, child_leveled, first_leveled, first_few, second_there, both_few, both_leveled}
use Rattle.level.proofs.+level_type.Goals as goal

pub answer_of-worked-requires : goal.answer_of-worked-requires
answer_of-worked-requires t c = c.requires.room

pub level_type-child-requires : goal.level_type-child-requires
level_type-child-requires t c =
    let a = c.requires in
    let one = one_decided _ _ c.head_wire_size.ensures _ _ c.in-One.is in
    let k = child_there _ _ _ _ c.read_head-head.ensures _ _ one a.thing a.end a.reads in
    (omega (arith, c.decreases, k.0, k.1), record { small = a.small; room = a.room; thing = k.2; end = k.3; reads = k.4 })

pub overflow_add-result : goal.overflow_add-result
overflow_add-result t c =
    let a = c.requires in
    let one = one_decided _ _ c.head_wire_size.ensures _ _ c.in-One.is in
    let child = c.level_type-child in
    omega (arith, child_few _ _ _ _ c.read_head-head.ensures _ _ one child.result.visits child.ensures.1 a.thing a.end a.reads, (type_ends _ _ _ _ _ a.reads).1, a.small)

pub level_type-ok-requires : goal.level_type-ok-requires
level_type-ok-requires t c =
    let a = c.requires in
    let sides = sides_decided _ _ c.head_wire_size.ensures _ c.in-Sides.is in
    let p = sides_part _ _ _ _ c.read_head-head.ensures a.thing a.end a.reads _ sides in
    (omega (arith, c.decreases, p.1, p.2), record { small = a.small; room = a.room; thing = p.0.ok; end = p.0.middle; reads = p.0.ok_read })

pub returns-in_default : goal.returns-in_default
returns-in_default t c =
    let sides = sides_decided _ _ c.head_wire_size.ensures _ c.in-Sides.is in
    let ok = c.level_type-ok in (
      first_leveled _ _ _ _ c.read_head-head.ensures _ sides _ _ ok.ensures.0 ok.ensures.1 c.in_default.is,
      first_few _ _ _ _ c.read_head-head.ensures _ sides _ _ ok.ensures.0 ok.ensures.1,
    )

pub level_type-err-requires : goal.level_type-err-requires
level_type-err-requires t c =
    let a = c.requires in
    let sides = sides_decided _ _ c.head_wire_size.ensures _ c.in-Sides.is in
    let ok = c.level_type-ok in
    let k = second_there _ _ _ _ c.read_head-head.ensures _ sides ok.result _ ok.ensures.0 ok.ensures.1 _ c.in-Sized.is a.thing a.end a.reads in
    (omega (arith, c.decreases, k.0, k.1), record { small = a.small; room = a.room; thing = k.2; end = a.end; reads = k.3 })

pub overflow_add-result-in-Sides : goal.overflow_add-result-in-Sides
overflow_add-result-in-Sides t c =
    let a = c.requires in
    let sides = sides_decided _ _ c.head_wire_size.ensures _ c.in-Sides.is in
    let ok = c.level_type-ok in
    let err = c.level_type-err in
    omega (arith, both_few _ _ _ _ c.read_head-head.ensures _ sides ok.result _ ok.ensures.0 ok.ensures.1 _ c.in-Sized.is err.result err.ensures.1 a.thing a.end a.reads, (type_ends _ _ _ _ _ a.reads).1, a.small)

pub overflow_add-result-in-Sides-2 : goal.overflow_add-result-in-Sides-2
overflow_add-result-in-Sides-2 t c =
    let a = c.requires in
    let sides = sides_decided _ _ c.head_wire_size.ensures _ c.in-Sides.is in
    let ok = c.level_type-ok in
    let err = c.level_type-err in
    omega (arith, both_few _ _ _ _ c.read_head-head.ensures _ sides ok.result _ ok.ensures.0 ok.ensures.1 _ c.in-Sized.is err.result err.ensures.1 a.thing a.end a.reads, (type_ends _ _ _ _ _ a.reads).1, a.small)

pub returns-in-Leaf : goal.returns-in-Leaf
returns-in-Leaf t c =
    let seen = c.read_head-head.ensures in
    let leaf = leaf_decided _ _ c.head_wire_size.ensures _ _ c.in-Leaf.is in (
      record {
        worked = λ u end q. leaf.1 _ u (type_headed _ _ _ _ seen u end q);
        next = λ u end q z e. leaf_end _ _ _ _ seen _ leaf.0 u end q;
        visits = λ u end q z e. head_one _ _ _ _ seen _ leaf.1 u end q;
      },
      head_few _ _ _ _ seen,
    )

pub returns-in-Pass : goal.returns-in-Pass
returns-in-Pass t c =
    let seen = c.read_head-head.ensures in
    let all = pass_decided _ _ c.head_wire_size.ensures _ c.in-Pass.is in
    let over = c.pass_type-passed.ensures in (
      record {
        worked = λ u end q. (over.passed u end q).0 ∙ all _ u (type_headed _ _ _ _ seen u end q);
        next = λ u end q z e. (over.passed u end q).1;
        visits = λ u end q z e. head_one _ _ _ _ seen _ all u end q;
      },
      head_few _ _ _ _ seen,
    )

pub returns-in-Name : goal.returns-in-Name
returns-in-Name t c =
    let seen = c.read_head-head.ensures in
    let name = name_decided _ _ c.head_wire_size.ensures _ _ c.in-Name.is in (
      record {
        worked = λ u end q. name_sized _ (name_part _ _ _ _ seen u end q _ _ name).0 c.answer_of-worked.ensures;
        next = λ u end q z e. (name_part _ _ _ _ seen u end q _ _ name).1;
        visits = λ u end q z e. sym (named_one (name_part _ _ _ _ seen u end q _ _ name).0);
      },
      head_few _ _ _ _ seen,
    )

pub returns-in-One : goal.returns-in-One
returns-in-One t c =
    let seen = c.read_head-head.ensures in
    let one = one_decided _ _ c.head_wire_size.ensures _ _ c.in-One.is in
    let child = c.level_type-child in (
      child_leveled _ _ _ _ seen _ _ one _ child.result child.ensures.0 _ c.close_one-around.ensures,
      child_few _ _ _ _ seen _ _ one _ child.ensures.1,
    )

pub returns-in-Sized : goal.returns-in-Sized
returns-in-Sized t c =
    let seen = c.read_head-head.ensures in
    let sides = sides_decided _ _ c.head_wire_size.ensures _ c.in-Sides.is in
    let ok = c.level_type-ok in
    let err = c.level_type-err in
    let sized = c.in-Sized.is in (
      both_leveled _ _ _ _ seen _ sides ok.result _ ok.ensures.0 ok.ensures.1 _ sized err.result err.ensures.0 _ c.join_sides-both.ensures,
      both_few _ _ _ _ seen _ sides ok.result _ ok.ensures.0 ok.ensures.1 _ sized err.result err.ensures.1,
    )
