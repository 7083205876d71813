use lib.ListN.{length-set}
use native.Mathlib.Omega.{arith}
use mathlib.Core.Path.{refl, sym, ◌∙◌}
use Rattle.view.proofs.Insides.{fields_inside, variants_inside}
use Rattle.reader.proofs.Fetching.{not_missing}
use Rattle.wiresize.proofs.Naming.{meant, is_message_lem, is_union, kind_is_lem}
use Rattle.wiresize.proofs.Own.{turned_as_lem, own_message, own_union, own_other}
use borrow.Author.Rules.{rules}
use Rattle.wiresize.proofs.own_size.Goals as goal

pub returns-in_default : goal.returns-in_default
returns-in_default c = absurd (not_missing _ _ _ c.requires.0 _ c.requires.1 (sym c.slot_part.ensures ∙ c.in_default.is))

pub compute_message_wire_size-requires : goal.compute_message_wire_size-requires
compute_message_wire_size-requires c = let m = is_message_lem _ _ _ c.requires.0 _ c.requires.1 _ _ (sym c.slot_part.ensures ∙ c.in-At.is) c.in-1.is in (record { ready = record { promise = c.requires.0; row_room = c.requires.2; marks = search (rules, length-set) }; thing = _; end = _; reads = fields_inside _ _ _ (sym c.slot_part.ensures ∙ c.in-At.is) c.slot_inside-place.ensures c.in-1.is _ _ _ _ m.3 }, refl)

pub compute_union_wire_size-requires : goal.compute_union_wire_size-requires
compute_union_wire_size-requires c = let m = is_union _ _ _ c.requires.0 _ c.requires.1 _ _ (sym c.slot_part.ensures ∙ c.in-At.is) c.in-4.is in (record { ready = record { promise = c.requires.0; row_room = c.requires.2; marks = search (rules, length-set) }; thing = _; end = _; reads = variants_inside _ _ _ (sym c.slot_part.ensures ∙ c.in-At.is) c.slot_inside-place-in-4.ensures c.in-4.is _ _ _ _ m.3 }, refl)

pub returns-in-1 : goal.returns-in-1
returns-in-1 c = let m = is_message_lem _ _ _ c.requires.0 _ c.requires.1 _ _ (sym c.slot_part.ensures ∙ c.in-At.is) c.in-1.is in record { turn = λ st H. turned_as_lem c.turn_from.ensures (own_message _ _ _ _ (omega (arith, c.requires.0.few, c.requires.1)) _ m.2 (c.compute_message_wire_size.ensures.worked _ _ (fields_inside _ _ _ (sym c.slot_part.ensures ∙ c.in-At.is) c.slot_inside-place.ensures c.in-1.is _ _ _ _ m.3) _ (meant st H))) }

pub returns-in-4 : goal.returns-in-4
returns-in-4 c = let m = is_union _ _ _ c.requires.0 _ c.requires.1 _ _ (sym c.slot_part.ensures ∙ c.in-At.is) c.in-4.is in record { turn = λ st H. turned_as_lem c.turn_from-in-4.ensures (own_union _ _ _ _ (omega (arith, c.requires.0.few, c.requires.1)) _ m.2 (c.compute_union_wire_size.ensures.worked _ _ (variants_inside _ _ _ (sym c.slot_part.ensures ∙ c.in-At.is) c.slot_inside-place-in-4.ensures c.in-4.is _ _ _ _ m.3) _ (meant st H))) }

pub returns-in_default-kind : goal.returns-in_default-kind
returns-in_default-kind c = record { turn = λ st H. own_other _ _ _ _ (kind_is_lem _ _ _ c.requires.0 _ c.requires.1 _ _ (sym c.slot_part.ensures ∙ c.in-At.is)) c.in_default-kind.in_default-kind-own.rest.0.1 c.in_default-kind.in_default-kind-own.rest.1 }
