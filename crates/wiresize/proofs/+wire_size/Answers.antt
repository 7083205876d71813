use native.Mathlib.Omega.{arith}
use mathlib.Core.Path.{refl, ap}
use Rattle.wiresize.specs.Asked.{last_in}
use Rattle.wiresize.proofs.Variants.{one_variant, message_told}
use Rattle.wiresize.proofs.Measure.{variants_in_body}
use mathlib.Core.Path.{◌∙◌}
use Rattle.view.proofs.Places.{at_place}
use Rattle.view.proofs.Onward.{goes_on}
use Rattle.settling.proofs.Ended.{not_over}
use Rattle.settling.proofs.Typing.{leaf_end, name_sized, result_sized, result_over, type_headed, leaf_decided, pass_decided, name_decided, one_decided, sides_decided}
use Rattle.wiresize.proofs.Insides.{name_part, one_part, sides_part, child_asked, one_next, one_worked}
use Rattle.wiresize.proofs.Naming.{name_meant}
use Rattle.wiresize.proofs.Measure.{name_in_type, ok_in_result, err_in_result}
use Rattle.settling.proofs.Settling.{is_settled, name_settled, at_settled}
use Rattle.wiresize.proofs.Measure.{name_in_field, plain_in_field}
use native.Mathlib.Nat.{pos_of_ne-zero}
use Rattle.number.proofs.Reading.{told, many_length}
use Rattle.settling.proofs.Ended.{not_refused}
use Rattle.wiresize.specs.Asked.{Meant}
use Rattle.wiresize.proofs.Fields.{count_read}
use Rattle.wiresize.proofs.Variants.{union_none, variants_behind, union_ended, union_tagged}
use mathlib.Core.Path.{refl}
use Rattle.settling.proofs.Elements.{first_of, item_sized, entry_over, entry_sized, counted_as, counted_over}
use Rattle.wiresize.proofs.Measure.{type_in_element}
use mathlib.Core.Path.{refl, sym, ◌∙◌}
use Rattle.view.proofs.Insides.{fields_inside, variants_inside, terminal_inside}
use Rattle.reader.proofs.Fetching.{not_missing}
use Rattle.wiresize.proofs.Naming.{meant, is_message_lem, is_union, is_newtype, kind_is_lem, name_missing, name_marked, name_known, name_message, name_union, name_newtype, name_other, newtype_content, inside_ready}
use Rattle.wiresize.proofs.Measure.{body_in_name, terminal_in_name}
use mathlib.Core.Path.{sym, ◌∙◌}
use Rattle.settling.proofs.Elements.{is_told, type_told, limited_told, limited_sized}
use Rattle.wiresize.proofs.Measure.{element_in_plain, type_in_plain}
use Rattle.sizes.specs.declared.Operation.{Operation}
use mathlib.Core.Path.{refl, sym, subst}
use Rattle.number.proofs.Reading.{told}
use Rattle.wiresize.specs.declared.Varied.{Varied}
use Rattle.wiresize.specs.Asked.{Meant, Varies}
use Rattle.wiresize.proofs.Fields.{laid_as, next_field, field_turn, field_over, count_read}
use Rattle.wiresize.proofs.Variants.{clash, variants_start, next_variant, variant_start, variant_turn, variant_over, variants_end}
use Rattle.wiresize.proofs.Measure.{field_in_variants}
use Rattle.wiresize.proofs.+wire_size.Goals as goal
use Rattle.wiresize.proofs.+wire_size.Goals.{variants_size-else-variants-test, variants_size-then-variants-test+in-Value+then-loop-more-test+in-Over}

pub compute_message_wire_size-variants_size-requires : goal.compute_message_wire_size-variants_size-requires
compute_message_wire_size-variants_size-requires t c =
    let a = c.requires.0 in
    (omega (arith, variants_in_body c.args.working.now, c.decreases), (record { ready = a.ready; thing = _; end = _; reads = one_variant _ _ _ a.reads }, c.requires.1))

pub compute_message_wire_size-returns-in-Sized : goal.compute_message_wire_size-returns-in-Sized
compute_message_wire_size-returns-in-Sized t c = message_told _ _ _ _ _ _ c.variants_size.ensures (ap last_in c.in-Sized.is)

pub compute_message_wire_size-returns-in-Over : goal.compute_message_wire_size-returns-in-Over
compute_message_wire_size-returns-in-Over t c = message_told _ _ _ _ _ _ c.variants_size.ensures (ap last_in c.in-Over.is)

pub compute_resolved_type_wire_size-named_type_wire_size-worked-requires : goal.compute_resolved_type_wire_size-named_type_wire_size-worked-requires
compute_resolved_type_wire_size-named_type_wire_size-worked-requires t c =
    let p = name_part _ _ _ c.read_head-head.result c.read_head-head.ensures c.requires.thing c.requires.end c.requires.reads _ _ (name_decided _ _ c.head_wire_size.ensures _ _ c.in-Name.is) in
    (omega (arith, name_in_type _ _ _ _ _ c.requires.ready _ c.requires.thing c.requires.end c.requires.reads _ p.0, c.decreases), c.requires.ready)

pub compute_resolved_type_wire_size-compute_resolved_type_wire_size-child-requires : goal.compute_resolved_type_wire_size-compute_resolved_type_wire_size-child-requires
compute_resolved_type_wire_size-compute_resolved_type_wire_size-child-requires t c =
    let p = one_part _ _ _ c.read_head-head.result c.read_head-head.ensures c.requires.thing c.requires.end c.requires.reads _ _ (one_decided _ _ c.head_wire_size.ensures _ _ c.in-One.is) in
    let a = child_asked _ _ _ _ _ c.requires.ready _ c.requires.thing c.requires.end c.requires.reads _ _ p in
    (omega (arith, a.0, c.decreases), a.1)

pub compute_resolved_type_wire_size-compute_resolved_type_wire_size-ok-requires : goal.compute_resolved_type_wire_size-compute_resolved_type_wire_size-ok-requires
compute_resolved_type_wire_size-compute_resolved_type_wire_size-ok-requires t c =
    let p = sides_part _ _ _ c.read_head-head.result c.read_head-head.ensures c.requires.thing c.requires.end c.requires.reads _ (sides_decided _ _ c.head_wire_size.ensures _ c.in-Sides.is) in (
      omega (arith, ok_in_result _ _ _ _ _ c.requires.ready _ _ _ _ _ _ c.requires.reads p.0.ok_read p.1 p.2 _ p.0.whole, c.decreases),
      record { ready = c.requires.ready; thing = _; end = _; reads = p.0.ok_read },
    )

pub compute_resolved_type_wire_size-returns-in_default : goal.compute_resolved_type_wire_size-returns-in_default
compute_resolved_type_wire_size-returns-in_default t c =
    record {
      next = λ t end q z e. absurd (not_over c.in_default.is e);
      works = record {
        worked = λ t end q R H.
            let p = (sides_part _ _ _ c.read_head-head.result c.read_head-head.ensures t end q _ (sides_decided _ _ c.head_wire_size.ensures _ c.in-Sides.is)).0 in
            result_over _ p.whole c.in_default.is (c.compute_resolved_type_wire_size-ok.ensures.works.worked _ _ p.ok_read R H);
      };
    }

pub compute_resolved_type_wire_size-compute_resolved_type_wire_size-err-requires : goal.compute_resolved_type_wire_size-compute_resolved_type_wire_size-err-requires
compute_resolved_type_wire_size-compute_resolved_type_wire_size-err-requires t c =
    let p = sides_part _ _ _ c.read_head-head.result c.read_head-head.ensures c.requires.thing c.requires.end c.requires.reads _ (sides_decided _ _ c.head_wire_size.ensures _ c.in-Sides.is) in
    let o = goes_on _ _ _ p.0.ok_read in
    let n = c.compute_resolved_type_wire_size-ok.ensures.next _ _ p.0.ok_read _ c.in-Sized.is in
    let r = at_place _ _ p.0.err_read n in (
      omega (arith, err_in_result _ _ _ _ _ c.requires.ready _ _ _ _ _ _ c.requires.reads r (omega (arith, p.1, o.forward, n)) (omega (arith, o.within p.2, n)) _ p.0.whole, c.decreases),
      record { ready = c.requires.ready; thing = _; end = _; reads = r },
    )

pub compute_resolved_type_wire_size-returns-in-Leaf : goal.compute_resolved_type_wire_size-returns-in-Leaf
compute_resolved_type_wire_size-returns-in-Leaf t c =
    record {
      next = λ t end q z e. leaf_end _ _ _ c.read_head-head.result c.read_head-head.ensures _ (leaf_decided _ _ c.head_wire_size.ensures _ _ c.in-Leaf.is).0 t end q;
      works = record { worked = λ t end q R H. (leaf_decided _ _ c.head_wire_size.ensures _ _ c.in-Leaf.is).1 _ t (type_headed _ _ _ c.read_head-head.result c.read_head-head.ensures t end q) };
    }

pub compute_resolved_type_wire_size-returns-in-Pass : goal.compute_resolved_type_wire_size-returns-in-Pass
compute_resolved_type_wire_size-returns-in-Pass t c =
    record {
      next = λ t end q z e. (c.pass_type.ensures.passed t end q).1;
      works = record {
        worked = λ t end q R H. (c.pass_type.ensures.passed t end q).0 ∙ pass_decided _ _ c.head_wire_size.ensures _ c.in-Pass.is _ t (type_headed _ _ _ c.read_head-head.result c.read_head-head.ensures t end q);
      };
    }

pub compute_resolved_type_wire_size-returns-in-Name : goal.compute_resolved_type_wire_size-returns-in-Name
compute_resolved_type_wire_size-returns-in-Name t c =
    record {
      next = λ t end q z e. (name_part _ _ _ c.read_head-head.result c.read_head-head.ensures t end q _ _ (name_decided _ _ c.head_wire_size.ensures _ _ c.in-Name.is)).1;
      works = record {
        worked = λ t end q R H. name_sized _ (name_part _ _ _ c.read_head-head.result c.read_head-head.ensures t end q _ _ (name_decided _ _ c.head_wire_size.ensures _ _ c.in-Name.is)).0 (name_meant c.named_type_wire_size-worked.ensures R H);
      };
    }

pub compute_resolved_type_wire_size-returns-in-One : goal.compute_resolved_type_wire_size-returns-in-One
compute_resolved_type_wire_size-returns-in-One t c =
    record {
      next = λ t end q z e.
          let p = one_part _ _ _ c.read_head-head.result c.read_head-head.ensures t end q _ _ (one_decided _ _ c.head_wire_size.ensures _ _ c.in-One.is) in
          one_next _ _ _ _ _ _ _ _ c.close_one.ensures c.compute_resolved_type_wire_size-child.ensures.next p.0 z e;
      works = record {
        worked = λ t end q R H.
            let p = one_part _ _ _ c.read_head-head.result c.read_head-head.ensures t end q _ _ (one_decided _ _ c.head_wire_size.ensures _ _ c.in-One.is) in
            one_worked _ _ _ _ _ _ _ _ c.close_one.ensures c.compute_resolved_type_wire_size-child.ensures.next p.0 _ (λ u e r. c.compute_resolved_type_wire_size-child.ensures.works.worked u e r R H);
      };
    }

pub compute_resolved_type_wire_size-returns-in-Sized : goal.compute_resolved_type_wire_size-returns-in-Sized
compute_resolved_type_wire_size-returns-in-Sized t c =
    record {
      next = λ t end q z e.
          let p = (sides_part _ _ _ c.read_head-head.result c.read_head-head.ensures t end q _ (sides_decided _ _ c.head_wire_size.ensures _ c.in-Sides.is)).0 in
          let m = c.join_sides.ensures in
          let n = c.compute_resolved_type_wire_size-ok.ensures.next _ _ p.ok_read _ c.in-Sized.is in
          m.next ∙ c.compute_resolved_type_wire_size-err.ensures.next _ _ (at_place _ _ p.err_read n) _ (m.sized z e).1;
      works = record {
        worked = λ t end q R H.
            let p = (sides_part _ _ _ c.read_head-head.result c.read_head-head.ensures t end q _ (sides_decided _ _ c.head_wire_size.ensures _ c.in-Sides.is)).0 in
            let n = c.compute_resolved_type_wire_size-ok.ensures.next _ _ p.ok_read _ c.in-Sized.is in
            result_sized _ p.whole c.in-Sized.is
            (c.compute_resolved_type_wire_size-ok.ensures.works.worked _ _ p.ok_read R H)
            (c.compute_resolved_type_wire_size-err.ensures.works.worked _ _ (at_place _ _ p.err_read n) R H)
            c.join_sides.ensures.worked;
      };
    }

pub compute_type_wire_size-named_type_wire_size-worked-requires : goal.compute_type_wire_size-named_type_wire_size-worked-requires
compute_type_wire_size-named_type_wire_size-worked-requires t c =
    let ready = c.requires.ready in
    (omega (arith, name_in_field _ _ _ _ _ ready c.in-Name.id, c.decreases), ready)

pub compute_type_wire_size-plain_size-requires : goal.compute_type_wire_size-plain_size-requires
compute_type_wire_size-plain_size-requires t c =
    let a = c.requires in
    let k = at_settled _ _ _ _ c.settle.ensures _ c.in-At.is a.thing a.end a.reads in
    (omega (arith, plain_in_field _ _ _ _ _ a.ready, c.decreases), record { ready = a.ready; thing = k.0; end = a.end; reads = k.1 })

pub compute_type_wire_size-returns-in-Is : goal.compute_type_wire_size-returns-in-Is
compute_type_wire_size-returns-in-Is t c =
    let k = is_settled _ _ _ _ c.settle.ensures _ c.in-Is.is in
    record { next = λ x end q z e. (k x end q).0; works = record { worked = λ x end q R H. (k x end q).1 _ } }

pub compute_type_wire_size-returns-in-Name : goal.compute_type_wire_size-returns-in-Name
compute_type_wire_size-returns-in-Name t c =
    let k = name_settled _ _ _ _ c.settle.ensures _ _ c.in-Name.is in
    record { next = λ x end q z e. (k x end q).0; works = record { worked = λ x end q R H. name_meant c.named_type_wire_size-worked.ensures R H ∙ (k x end q).1 _ } }

pub compute_type_wire_size-returns-in-At : goal.compute_type_wire_size-returns-in-At
compute_type_wire_size-returns-in-At t c =
    let k = at_settled _ _ _ _ c.settle.ensures _ c.in-At.is in
    let w = c.plain_size.ensures in
    record { next = λ x end q z e. w.next _ _ (k x end q).1 z e; works = record { worked = λ x end q R H. w.works.worked _ _ (k x end q).1 R H ∙ (k x end q).2 _ } }

pub compute_union_wire_size-returns-in_default : goal.compute_union_wire_size-returns-in_default
compute_union_wire_size-returns-in_default t c = record { worked = λ vs end q. absurd (not_refused (told c.read_below.ensures c.in_default.is) (count_read _ _ _ q).2) }

pub compute_union_wire_size-returns-then-count-eq0 : goal.compute_union_wire_size-returns-then-count-eq0
compute_union_wire_size-returns-then-count-eq0 t c =
    record {
      worked = λ vs end q R H. union_none _ _ vs (many_length _ _ _ _ vs end (variants_behind _ _ _ _ (told c.read_below.ensures c.in-Value.is) q) ∙ c.if-count-eq0.true);
    }

pub compute_union_wire_size-variants_size-requires : goal.compute_union_wire_size-variants_size-requires
compute_union_wire_size-variants_size-requires t c =
    let a = c.requires.0 in
    let b = told c.read_below.ensures c.in-Value.is in
    (omega (arith, variants_in_body c.args.working.now, c.decreases), (record { ready = a.ready; thing = _; end = _; reads = variants_behind _ _ _ _ b a.reads }, c.requires.1))

pub compute_union_wire_size-returns-in-Sized : goal.compute_union_wire_size-returns-in-Sized
compute_union_wire_size-returns-in-Sized t c =
    let b = told c.read_below.ensures c.in-Value.is in
    union_tagged (Meant _ _ _ _) _ _ _ _ _ b c.variants_size.ensures c.in-Sized.is (pos_of_ne-zero c.if-count-eq0.false) c.tag.ensures

pub compute_union_wire_size-returns-in-Over : goal.compute_union_wire_size-returns-in-Over
compute_union_wire_size-returns-in-Over t c =
    let b = told c.read_below.ensures c.in-Value.is in
    union_ended (Meant _ _ _ _) _ _ _ _ _ b c.variants_size.ensures c.in-Over.is

pub limited_size-compute_resolved_type_wire_size-first-requires : goal.limited_size-compute_resolved_type_wire_size-first-requires
limited_size-compute_resolved_type_wire_size-first-requires t c =
    let a = c.requires in
    let f = first_of _ _ _ _ _ _ a.reads in
    (omega (arith, type_in_element _ _ _ _ _ a.ready c.args.elements.body, c.decreases), record { ready = a.ready; thing = f.type; end = f.middle; reads = f.here })

pub limited_size-returns-then-elements-ne8 : goal.limited_size-returns-then-elements-ne8
limited_size-returns-then-elements-ne8 t c =
    record {
      next = refl;
      works = record {
        worked = λ e end q R H.
            let f = first_of _ _ _ _ _ _ q in
            counted_as _ c.limited_wire_size.ensures (item_sized _ (f.alone c.if-elements-ne8.true) (c.compute_resolved_type_wire_size-first.ensures.works.worked _ _ f.here R H));
      };
    }

pub limited_size-returns-in_default : goal.limited_size-returns-in_default
limited_size-returns-in_default t c =
    record {
      next = refl;
      works = record {
        worked = λ e end q R H.
            let f = first_of _ _ _ _ _ _ q in
            let first = c.compute_resolved_type_wire_size-first.ensures.works.worked _ _ f.here R H in
            counted_over _ c.in_default.is (entry_over _ (f.paired c.if-elements-ne8.false).2 c.in_default.is first);
      };
    }

pub limited_size-compute_resolved_type_wire_size-value-requires : goal.limited_size-compute_resolved_type_wire_size-value-requires
limited_size-compute_resolved_type_wire_size-value-requires t c =
    let a = c.requires in
    let f = first_of _ _ _ _ _ _ a.reads in
    let p = f.paired c.if-elements-ne8.false in
    let first = c.compute_resolved_type_wire_size-first in
    let n = first.ensures.next _ _ f.here _ c.in-Sized.is in
    (omega (arith, type_in_element _ _ _ _ _ a.ready first.result.next, c.decreases), record { ready = a.ready; thing = _; end = _; reads = at_place _ _ p.1 n })

pub limited_size-returns : goal.limited_size-returns
limited_size-returns t c =
    record {
      next = refl;
      works = record {
        worked = λ e end q R H.
            let f = first_of _ _ _ _ _ _ q in
            let p = f.paired c.if-elements-ne8.false in
            let first = c.compute_resolved_type_wire_size-first.ensures in
            let n = first.next _ _ f.here _ c.in-Sized.is in
            let second = c.compute_resolved_type_wire_size-value.ensures.works.worked _ _ (at_place _ _ p.1 n) R H in
            counted_as _ c.limited_wire_size-2.ensures
            (entry_sized _ p.2 c.in-Sized.is (first.works.worked _ _ f.here R H) second c.entry_wire_size-entry.ensures);
      };
    }

pub named_type_wire_size-returns-then-id-scope : goal.named_type_wire_size-returns-then-id-scope
named_type_wire_size-returns-then-id-scope t c = record { worked = λ st H. name_missing _ _ _ _ _ _ c.requires st H _ c.if-id-scope.true }

pub named_type_wire_size-bounds-working-slot : goal.named_type_wire_size-bounds-working-slot
named_type_wire_size-bounds-working-slot t c = omega (arith, c.requires.marks, c.requires.promise.few, c.if-id-scope.false)

pub named_type_wire_size-returns-then-working-slot : goal.named_type_wire_size-returns-then-working-slot
named_type_wire_size-returns-then-working-slot t c = record { worked = λ st H. name_marked _ _ _ _ _ _ c.requires st H _ c.if-working-slot.true }

pub named_type_wire_size-known_size-requires : goal.named_type_wire_size-known_size-requires
named_type_wire_size-known_size-requires t c = omega (arith, c.requires.row_room, c.if-id-scope.false)

pub named_type_wire_size-returns-in-Known : goal.named_type_wire_size-returns-in-Known
named_type_wire_size-returns-in-Known t c = record { worked = λ st H. name_known _ _ _ _ _ _ c.requires st H _ c.if-id-scope.false c.if-working-slot.false (sym c.known_size.ensures ∙ c.in-Known.is) }

pub named_type_wire_size-returns-in_default-slot_part : goal.named_type_wire_size-returns-in_default-slot_part
named_type_wire_size-returns-in_default-slot_part t c = absurd (not_missing _ _ _ c.requires.promise _ c.if-id-scope.false (sym c.slot_part.ensures ∙ c.in_default-slot_part.is))

pub named_type_wire_size-bounds-inside-slot : goal.named_type_wire_size-bounds-inside-slot
named_type_wire_size-bounds-inside-slot t c = omega (arith, c.requires.marks, c.requires.promise.few, c.if-id-scope.false)

pub named_type_wire_size-compute_message_wire_size-requires : goal.named_type_wire_size-compute_message_wire_size-requires
named_type_wire_size-compute_message_wire_size-requires t c =
    let m = is_message_lem _ _ _ c.requires.promise _ c.if-id-scope.false _ _ (sym c.slot_part.ensures ∙ c.in-At.is) c.in-1.is in
    (omega (arith, body_in_name _ _ _ _ _ c.requires _ c.if-id-scope.false c.if-working-slot.false, c.decreases), (record { ready = inside_ready _ _ _ _ _ _ c.requires; thing = _; end = _; reads = fields_inside _ _ _ (sym c.slot_part.ensures ∙ c.in-At.is) c.slot_inside-place.ensures c.in-1.is _ _ _ _ m.3 }, refl))

pub named_type_wire_size-bounds-inside-slot-in-4 : goal.named_type_wire_size-bounds-inside-slot-in-4
named_type_wire_size-bounds-inside-slot-in-4 t c = omega (arith, c.requires.marks, c.requires.promise.few, c.if-id-scope.false)

pub named_type_wire_size-compute_union_wire_size-requires : goal.named_type_wire_size-compute_union_wire_size-requires
named_type_wire_size-compute_union_wire_size-requires t c =
    let m = is_union _ _ _ c.requires.promise _ c.if-id-scope.false _ _ (sym c.slot_part.ensures ∙ c.in-At.is) c.in-4.is in
    (omega (arith, body_in_name _ _ _ _ _ c.requires _ c.if-id-scope.false c.if-working-slot.false, c.decreases), (record { ready = inside_ready _ _ _ _ _ _ c.requires; thing = _; end = _; reads = variants_inside _ _ _ (sym c.slot_part.ensures ∙ c.in-At.is) c.slot_inside-place-in-4.ensures c.in-4.is _ _ _ _ m.3 }, refl))

pub named_type_wire_size-compute_resolved_type_wire_size-term-requires : goal.named_type_wire_size-compute_resolved_type_wire_size-term-requires
named_type_wire_size-compute_resolved_type_wire_size-term-requires t c =
    let m = is_newtype _ _ _ c.requires.promise _ c.if-id-scope.false _ _ (sym c.slot_part.ensures ∙ c.in-At.is) c.in-5.is in
    (omega (arith, terminal_in_name _ _ _ _ _ c.requires _ _ _ (terminal_inside _ _ _ (sym c.slot_part.ensures ∙ c.in-At.is) c.slot_inside-place-in-5.ensures c.requires.promise.named c.in-5.is _ _ m.3) _ (newtype_content _ _ _ m.2), c.decreases), record { ready = c.requires; thing = _; end = _; reads = terminal_inside _ _ _ (sym c.slot_part.ensures ∙ c.in-At.is) c.slot_inside-place-in-5.ensures c.requires.promise.named c.in-5.is _ _ m.3 })

pub named_type_wire_size-returns-in-1 : goal.named_type_wire_size-returns-in-1
named_type_wire_size-returns-in-1 t c =
    let m = is_message_lem _ _ _ c.requires.promise _ c.if-id-scope.false _ _ (sym c.slot_part.ensures ∙ c.in-At.is) c.in-1.is in
    record { worked = λ st H. name_message _ _ _ _ _ _ c.requires st H _ c.if-id-scope.false c.if-working-slot.false (sym c.known_size.ensures ∙ c.in_default.is) _ m.2 (c.compute_message_wire_size.ensures.worked _ _ (fields_inside _ _ _ (sym c.slot_part.ensures ∙ c.in-At.is) c.slot_inside-place.ensures c.in-1.is _ _ _ _ m.3) _ (meant st H)) }

pub named_type_wire_size-returns-in-4 : goal.named_type_wire_size-returns-in-4
named_type_wire_size-returns-in-4 t c =
    let m = is_union _ _ _ c.requires.promise _ c.if-id-scope.false _ _ (sym c.slot_part.ensures ∙ c.in-At.is) c.in-4.is in
    record { worked = λ st H. name_union _ _ _ _ _ _ c.requires st H _ c.if-id-scope.false c.if-working-slot.false (sym c.known_size.ensures ∙ c.in_default.is) _ m.2 (c.compute_union_wire_size.ensures.worked _ _ (variants_inside _ _ _ (sym c.slot_part.ensures ∙ c.in-At.is) c.slot_inside-place-in-4.ensures c.in-4.is _ _ _ _ m.3) _ (meant st H)) }

pub named_type_wire_size-returns-in-5 : goal.named_type_wire_size-returns-in-5
named_type_wire_size-returns-in-5 t c =
    let m = is_newtype _ _ _ c.requires.promise _ c.if-id-scope.false _ _ (sym c.slot_part.ensures ∙ c.in-At.is) c.in-5.is in
    record { worked = λ st H. name_newtype _ _ _ _ _ _ c.requires st H _ c.if-id-scope.false c.if-working-slot.false (sym c.known_size.ensures ∙ c.in_default.is) _ m.2 (c.compute_resolved_type_wire_size-term.ensures.works.worked _ _ (terminal_inside _ _ _ (sym c.slot_part.ensures ∙ c.in-At.is) c.slot_inside-place-in-5.ensures c.requires.promise.named c.in-5.is _ _ m.3) _ (meant st H)) }

pub named_type_wire_size-returns-in_default-kind : goal.named_type_wire_size-returns-in_default-kind
named_type_wire_size-returns-in_default-kind t c =
    record {
      worked = λ st H. name_other _ _ _ _ _ _ c.requires st H _ c.if-id-scope.false c.if-working-slot.false (sym c.known_size.ensures ∙ c.in_default.is) _
          (kind_is_lem _ _ _ c.requires.promise _ c.if-id-scope.false _ _ (sym c.slot_part.ensures ∙ c.in-At.is)) c.in_default-kind.in_default-kind-own.rest.0.0.1 c.in_default-kind.in_default-kind-own.rest.0.1 c.in_default-kind.in_default-kind-own.rest.1;
    }

pub plain_size-compute_resolved_type_wire_size-field-requires : goal.plain_size-compute_resolved_type_wire_size-field-requires
plain_size-compute_resolved_type_wire_size-field-requires t c =
    let a = c.requires in
    let k = type_told _ _ _ _ c.settle_plain.ensures c.in-Type.is a.thing a.end a.reads in
    (omega (arith, type_in_plain _ _ _ _ _ a.ready c.args.at, c.decreases), record { ready = a.ready; thing = a.thing.type; end = k.0; reads = k.1 })

pub plain_size-limited_size-requires : goal.plain_size-limited_size-requires
plain_size-limited_size-requires t c =
    let a = c.requires in
    let k = limited_told _ _ _ _ c.settle_plain.ensures _ c.in-Limited.is a.thing a.end a.reads in
    (omega (arith, element_in_plain _ _ _ _ _ a.ready, c.decreases), record { ready = a.ready; thing = k.element; end = k.behind; reads = k.reads })

pub plain_size-returns-in-Is : goal.plain_size-returns-in-Is
plain_size-returns-in-Is t c =
    let k = is_told _ _ _ _ c.settle_plain.ensures _ c.in-Is.is in
    record { next = λ x end q z e. (k x end q).0; works = record { worked = λ x end q R H. (k x end q).1 _ } }

pub plain_size-returns-in-Type : goal.plain_size-returns-in-Type
plain_size-returns-in-Type t c =
    let k = type_told _ _ _ _ c.settle_plain.ensures c.in-Type.is in
    let w = c.compute_resolved_type_wire_size-field.ensures in
    let past = c.pass_limit.ensures in
    record {
      next = λ x end q z e. past.next _ _ (at_place _ _ (k x end q).2 (w.next _ _ (k x end q).1 z (sym past.worked ∙ e)));
      works = record { worked = λ x end q R H. past.worked ∙ w.works.worked _ _ (k x end q).1 R H ∙ (k x end q).3 _ };
    }

pub plain_size-returns-in-Limited : goal.plain_size-returns-in-Limited
plain_size-returns-in-Limited t c =
    let k = limited_told _ _ _ _ c.settle_plain.ensures _ c.in-Limited.is in
    let w = c.limited_size.ensures in
    record {
      next = λ x end q z e. w.next ∙ (k x end q).next;
      works = record { worked = λ x end q R H. limited_sized _ _ _ _ _ (k x end q) _ (w.works.worked _ _ (k x end q).reads R H) };
    }

pub variants_size-variants-init : goal.variants_size-variants-init
variants_size-variants-init t c = (refl, variants_start _ _ _ _ _ _ _ _ _ c.requires.0.reads _)

pub variants_size-returns-in_default : goal.variants_size-returns-in_default
variants_size-returns-in_default t c = absurd (not_refused (told c.read_below.ensures c.in_default.is) (count_read _ _ _ (next_variant _ _ _ _ _ _ _ c.variants.invariant.1 c.variants-test.true).here).2)

pub variants_size-loop-more-init : goal.variants_size-loop-more-init
variants_size-loop-more-init t c = (c.variants.invariant.0, variant_start _ _ _ _ _ _ _ c.variants.invariant.1 c.variants-test.true (told c.read_below.ensures c.in-Value.is) c.empty_total-total.ensures)

pub variants_size-compute_type_wire_size-field-requires : goal.variants_size-compute_type_wire_size-field-requires
variants_size-compute_type_wire_size-field-requires t c =
    let f = next_field _ _ _ _ _ _ _ c.loop-more.invariant.1 c.loop-more-test.true in
    (omega (arith, field_in_variants c.args.working.now, c.decreases), record { ready = c.requires.0.ready; thing = _; end = _; reads = f.here })

pub variants_size-loop-more-preserved : goal.variants_size-loop-more-preserved
variants_size-loop-more-preserved t c =
    let same = c.requires.1 in
    (c.loop-more.invariant.0, field_turn _ _ _ _ _ _ _ c.loop-more.invariant.1 c.loop-more-test.true _ c.compute_type_wire_size-field.ensures (laid_as same _ c.lay-worked.ensures) c.add_field.ensures c.in_default-add_field.is)

pub variants_size-variants-preserved : goal.variants_size-variants-preserved
variants_size-variants-preserved t c = (c.loop-more.invariant.0, variant_turn _ _ _ _ _ _ _ c.variants.invariant.1 c.variants-test.true (told c.read_below.ensures c.in-Value.is) c.loop-more.invariant.1 c.loop-more-test.false c.total_size-last.ensures c.widen-extremes.ensures)

pub variants_size-returns-then-over : goal.variants_size-returns-then-over
variants_size-returns-then-over t c =
    let same = c.requires.1 in
    elim c.variants-test.branch [
      | variants_size-else-variants-test w ↦ absurd (clash c.if-over.true w.over-is c.variants.invariant.0)
      | variants_size-then-variants-test+in-Value+then-loop-more-test+in-Over w ↦
          subst (λ (o : Operation). Varies _ _ _ _ _ _ _ (Varied.Over o)) (sym w.by-is)
          (variant_over _ _ _ _ _ _ _ c.variants.invariant.1 w.variants-test.true (told w.read_below.ensures w.in-Value.is) _
          (field_over _ _ _ _ _ _ _ w.loop-more.invariant.1 w.loop-more-test.true _ w.compute_type_wire_size-field.ensures (laid_as same _ w.lay-worked.ensures) w.add_field.ensures w.in-Over.is))
    ]

pub variants_size-returns : goal.variants_size-returns
variants_size-returns t c =
    elim c.variants-test.branch [
      | variants_size-else-variants-test w ↦ variants_end _ _ _ _ _ _ _ c.variants.invariant.1 w.variants-test.false
      | variants_size-then-variants-test+in-Value+then-loop-more-test+in-Over w ↦ absurd (clash refl (sym w.over-is) c.if-over.false)
    ]
