use native.Mathlib.Omega.{arith}
use mathlib.Core.Path.{refl}
use Rattle.view.proofs.Places.{at_place}
use Rattle.settling.proofs.Ended.{not_over}
use Rattle.settling.proofs.Elements.{first_of, item_sized, entry_over, entry_sized, counted_as, counted_over}
use Rattle.level.proofs.Types.{type_ends}
use Rattle.level.proofs.Fields.{item_nodes, entry_nodes, part_sized}
use Rattle.level.proofs.level_limited.Goals as goal

pub level_type-first-requires : goal.level_type-first-requires
level_type-first-requires c =
    let a = c.requires in
    let f = first_of _ _ _ _ _ _ a.reads in
    record { small = a.small; room = a.room; thing = f.type; end = f.middle; reads = f.here }

pub overflow_add-result : goal.overflow_add-result
overflow_add-result c =
    let a = c.requires in
    let f = first_of _ _ _ _ _ _ a.reads in
    omega (arith, c.level_type-first.ensures.1 _ _ f.here, (type_ends _ _ _ _ _ f.here).1, a.small)

pub returns-then-elements-ne8 : goal.returns-then-elements-ne8
returns-then-elements-ne8 c =
    let first = c.level_type-first.ensures.0 in
    let alone = c.if-elements-ne8.true in
    let made = c.limited_wire_size.ensures in
    record {
      next = refl;
      worked = λ e end q. let f = first_of _ _ _ _ _ _ q in counted_as _ made (item_sized _ (f.alone alone) (first.worked _ _ f.here));
      visits = λ e end q z d.
          let f = first_of _ _ _ _ _ _ q in
          let y = part_sized _ made d in
          item_nodes (f.alone alone) (first.visits _ _ f.here y.0 y.1);
    }

pub returns-in_default : goal.returns-in_default
returns-in_default c =
    let over = c.in_default.is in
    record {
      next = refl;
      worked = λ e end q.
          let f = first_of _ _ _ _ _ _ q in
          counted_over _ over (entry_over _ (f.paired c.if-elements-ne8.false).2 over (c.level_type-first.ensures.0.worked _ _ f.here));
      visits = λ e end q z d. absurd (not_over over d);
    }

pub level_type-value-requires : goal.level_type-value-requires
level_type-value-requires c =
    let a = c.requires in
    let f = first_of _ _ _ _ _ _ a.reads in
    let p = f.paired c.if-elements-ne8.false in
    let n = c.level_type-first.ensures.0.next _ _ f.here _ c.in-Sized.is in
    record { small = a.small; room = a.room; thing = _; end = _; reads = at_place _ _ p.1 n }

pub overflow_add-result-2 : goal.overflow_add-result-2
overflow_add-result-2 c =
    let a = c.requires in
    let f = first_of _ _ _ _ _ _ a.reads in
    omega (arith, c.level_type-first.ensures.1 _ _ f.here, (type_ends _ _ _ _ _ f.here).1, a.small)

pub overflow_add-result-3 : goal.overflow_add-result-3
overflow_add-result-3 c =
    let a = c.requires in
    let f = first_of _ _ _ _ _ _ a.reads in
    let p = f.paired c.if-elements-ne8.false in
    let first = c.level_type-first.ensures in
    let n = first.0.next _ _ f.here _ c.in-Sized.is in
    omega (arith, first.1 _ _ f.here, c.level_type-value.ensures.1 _ _ (at_place _ _ p.1 n), n, (type_ends _ _ _ _ _ p.1).1, a.small)

pub returns : goal.returns
returns c =
    let paired = c.if-elements-ne8.false in
    let first = c.level_type-first.ensures.0 in
    let sized = c.in-Sized.is in
    let second = c.level_type-value.ensures.0 in
    let both = c.entry_wire_size-entry.ensures in
    let made = c.limited_wire_size-2.ensures in
    record {
      next = refl;
      worked = λ e end q.
          let f = first_of _ _ _ _ _ _ q in
          let p = f.paired paired in
          let n = first.next _ _ f.here _ sized in
          counted_as _ made (entry_sized _ p.2 sized (first.worked _ _ f.here) (second.worked _ _ (at_place _ _ p.1 n)) both);
      visits = λ e end q z d.
          let f = first_of _ _ _ _ _ _ q in
          let p = f.paired paired in
          let n = first.next _ _ f.here _ sized in
          let x = part_sized _ made d in
          let y = part_sized _ both x.1 in
          entry_nodes p.2 (first.visits _ _ f.here _ sized) (second.visits _ _ (at_place _ _ p.1 n) y.0 y.1);
    }
