use native.Mathlib.Omega.{arith}
use mathlib.Core.Path.{sym, ◌∙◌}
use Rattle.view.proofs.Insides.{fields_inside, variants_inside}
use Rattle.reader.proofs.Fetching.{part_behind, not_missing}
use Rattle.parts.proofs.Listing.{list_message, list_union, list_newtype, list_other}
use Rattle.parts.proofs.list_slot.Goals as goal
use Rattle.parts.proofs.list_slot.Goals.{in-1, in-4, in-5, in_default-kind}

pub returns-in_default-clause-listed : goal.returns-in_default-clause-listed
returns-in_default-clause-listed c = absurd (not_missing _ _ _ c.requires.0 _ c.requires.1 (sym c.slot_part.ensures ∙ c.in_default.is))

pub returns-clause-listed : goal.returns-clause-listed
returns-clause-listed c =
    let part = sym c.slot_part.ensures ∙ c.in-At.is in
    let behind = part_behind _ _ _ c.requires.0 _ c.requires.1 _ _ part in
    elim c.match-kind.branch [
      | in-1 w ↦ rw (w.listed-is, w.in-1.is) (list_message _ _ _ _ _ _ behind _ w.in-1.is _ _ _ (fields_inside _ _ _ part w.slot_inside-place.ensures w.in-1.is) w.list_fields.ensures.listed)
      | in-4 w ↦ rw (w.listed-is, w.in-4.is) (list_union _ _ _ _ _ _ behind _ w.in-4.is _ _ _ (variants_inside _ _ _ part w.slot_inside-place-in-4.ensures w.in-4.is) w.list_variants.ensures.listed)
      | in-5 w ↦ rw (w.listed-is, w.in-5.is) (list_newtype _ _ _ _ _ _ behind _ w.in-5.is _ _ w.list_type.ensures.listed)
      | in_default-kind w ↦ rw w.listed-is (list_other _ _ _ _ _ _ behind _ (λ e. omega arith) (λ e. omega arith) (λ e. omega arith))
    ]
