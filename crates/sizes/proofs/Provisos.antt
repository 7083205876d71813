-- The provisos of demand 3 are needed: with one of them dropped, a clause is false of the table of some schema.
use mathlib.Core.Path.{◌≡◌, refl}
use Prim.Native.Nat.{ℕ, zero, suc, ◌≤◌, ◌<◌}
use native.Mathlib.Omega.{arith}
use mathlib.Core.List.Memᴰ
use mathlib.Core.List.{List, [], ◌∷◌, Memᴰ}
use mathlib.Core.Option.{none, some, none-ne-some}
use Rattle.tree.specs.Encoding.{default}
use Rattle.slot.specs.Field.{Field, Stored}
use Rattle.image.specs.Schema.{Schema, slot_of}
use Rattle.sizes.specs.Elements.{limited_element}
use Rattle.sizes.specs.Sizes.{Layout, Packed, Aligned, round_up, Size, Fixed, Open, limited, then, primitive_bits, leaf_size, type_size, encoded_size, elements_size, field_size, add_fields}
use Rattle.sizes.specs.Names.{content_in, content_of, State, content_size, name_rule, name_within, name_size}
use Rattle.sizes.specs.Check.{brought, body_size, own_size, store, accepted, storing, turn, onward, turns, check_sizes, slot_row, rows_from, table_of, size_at}
use Rattle.sizes.specs.Lengths.{of_primitive, of_named, unlimited, plain, FieldsLength, no_field, one_field, of_message, SlotLength, type_parts, encoded_parts, own_parts, fields_parts, content_parts, parts_of, Reaches, at_once, by_way_of, NothingLeadsBack, Encloses}
use Rattle.sizes.specs.Demand.{is_message, Declared, Attained, BringsNone}
use Rattle.sizes.proofs.Laws.{Plus}
use Rattle.sizes.proofs.Rules.{primitive_is, named_is, plain_is, unlimited_is, FieldLength, message_is}
use Rattle.sizes.proofs.Enclosure.{own_enclosed}
use Rattle.sizes.specs.Examples.{all, declaring, a_field, each, a_message, of, u8, slot, wrong}

-- ## The clauses of `Demand3`, each with one proviso dropped

-- `enclosed`, whatever sizes the image brings
abbrev pub EnclosedUntrusted : Layout → Schema → List ℕ → Type 0
EnclosedUntrusted L S table = (i : ℕ) → Declared S i → (s : Size) → size_at table i ≡ some s → Encloses (SlotLength L S i) s

-- `attained`, whatever sizes the image brings
abbrev pub AttainedStored : Layout → Schema → List ℕ → Type 0
AttainedStored L S table = (i : ℕ) → Declared S i → NothingLeadsBack S i → (s : Size) → size_at table i ≡ some s →
    Attained (SlotLength L S i) s

-- `attained`, whatever leads back to itself
abbrev pub AttainedLooped : Layout → Schema → List ℕ → Type 0
AttainedLooped L S table = BringsNone S → (i : ℕ) → Declared S i → (s : Size) → size_at table i ≡ some s →
    Attained (SlotLength L S i) s

-- the check accepts a schema, and the claim is false of its table
pub record Refuted (L : Layout) (Claim : Layout → Schema → List ℕ → Type 0) : Type 0 where
  pub schema : Schema
  pub final : State
  pub accepts : check_sizes L schema ≡ accepted final
  pub fails : ¬ Claim L schema (table_of schema final)

-- ## Enclosure needs trusted sizes

-- A { B }, B { u8 }, where B brings Fixed 3: A is Fixed 3, and has a value of length 8
abbrev untrusted : Schema
untrusted = wrong (0 ∷ 1 ∷ [])

untrusted_length : SlotLength Packed untrusted 0 8
unfolding content_of content_in slot_of primitive_bits limited_element
untrusted_length =
    let b : SlotLength Packed untrusted 1 8 = of_named (of_message (one_field {f = a_field default u8} {n = 8} (unlimited (plain of_primitive)) no_field)) in
    of_named (of_message (one_field {f = a_field default (slot 1)} {n = 8} (unlimited (plain b)) no_field))

pub enclosed_untrusted : Refuted Packed EnclosedUntrusted
unfolding check_sizes turns turn onward own_size body_size storing store brought name_size name_within name_rule content_size content_of content_in slot_of type_size leaf_size then limited primitive_bits encoded_size limited_element elements_size field_size add_fields table_of rows_from slot_row size_at
enclosed_untrusted = record {
  schema = untrusted;
  final = store 1 (Fixed 8) (store 0 (Fixed 3) (brought untrusted));
  accepts = refl;
  fails = λ claim.
      let d : Declared untrusted 0 = record { listed = Memᴰ.head refl; sizable = is_message } in
      let above : 8 ≤ 3 = ((claim 0 d (Fixed 3) refl).within 8 untrusted_length).not_above in
      omega arith;
}

-- ## Attainment needs an image that brings no size

-- A { B }, B { u8 }, where B is not declared and brings `from 0`: A is from 0, and each of its values has length 8
abbrev undeclared : Schema
undeclared = declaring (0 ∷ []) (of (slot 1 ∷ []) ∷ a_message (Stored.from 0) (each (u8 ∷ [])) ∷ [])

part_is : (i j : ℕ) → Memᴰ j (parts_of undeclared i) → i < j
unfolding content_of content_in slot_of content_parts fields_parts own_parts limited_element encoded_parts type_parts
part_is zero j m = let e = Memᴰ.eq_of_singleton m in omega arith
part_is (suc zero) j m = absurd (Memᴰ.not-nil m)
part_is (suc (suc i)) j m = absurd (Memᴰ.not-nil m)

onward_only : {i j : ℕ} → Reaches (parts_of undeclared) i j → i < j
onward_only (at_once m) = part_is _ _ m
onward_only (by_way_of m r) = let a = part_is _ _ m in let b = onward_only r in omega arith

pub attained_stored : Refuted Packed AttainedStored
unfolding check_sizes turns turn onward own_size body_size storing store brought name_size name_within name_rule content_size content_of content_in slot_of type_size leaf_size then limited primitive_bits encoded_size limited_element elements_size field_size add_fields table_of rows_from slot_row size_at
attained_stored = record {
  schema = undeclared;
  final = store 0 (Open 0) (brought undeclared);
  accepts = refl;
  fails = λ claim.
      let d : Declared undeclared 0 = record { listed = Memᴰ.head refl; sizable = is_message } in
      let free : NothingLeadsBack undeclared 0 = λ k m r. let h = onward_only r in omega arith in
      let l = (claim 0 d free (Open 0) refl).low in
      let e = own_enclosed Packed undeclared (λ i. none) (λ i s q. absurd (none-ne-some s q)) 0 (Fixed 8) refl in
      let below : 8 ≤ 0 = (e.within 0 l).not_below in
      omega arith;
}

-- ## Attainment needs that nothing leads back

-- A { u8, A } is from 8, and has no value at all: one of them would hold a shorter one
abbrev looped : Schema
looped = all (of (u8 ∷ slot 0 ∷ []) ∷ [])

not_below_lem : (L : Layout) (n : ℕ) → n ≤ round_up L n
not_below_lem Packed n = omega arith
not_below_lem Aligned n = omega arith

module _ (L : Layout) where
  first_field : (f : Field) (fs : List Field) (n : ℕ) → FieldsLength L looped (f ∷ fs) n →
      Plus (FieldLength L looped f) (FieldsLength L looped fs) n
  first_field f fs n (one_field {n = a} {m = b} l r) = (round_up L a, b, (a, l, refl), r, refl)

  shorter : (n : ℕ) → SlotLength L looped 0 n → (m : ℕ) × SlotLength L looped 0 m × (m < n)
  unfolding content_of content_in slot_of primitive_bits limited_element
  shorter n l =
      let (a, b, (x, byte, up), more, e) = first_field (a_field default u8) (each (slot 0 ∷ [])) n ((message_is L looped _ n).1 ((named_is L looped 0 n).1 l)) in
      let (c, z, (m, own, up'), rest, e') = first_field (a_field default (slot 0)) [] b more in
      let e'' = (primitive_is L looped 1 x).1 ((plain_is L looped u8 x).1 ((unlimited_is L looped (a_field default u8) x).1 byte)) in
      let h = not_below_lem L x in
      let h' = not_below_lem L m in
      (m, (plain_is L looped (slot 0) m).1 ((unlimited_is L looped (a_field default (slot 0)) m).1 own), omega arith)

  none_below : (b n : ℕ) → n < b → SlotLength L looped 0 n → ⊥
  none_below zero n h l = omega arith
  none_below (suc b) n h l = let (m, own, less) = shorter n l in none_below b m (omega arith) own

brings_none : BringsNone looped
unfolding brought slot_of
brings_none zero = refl
brings_none (suc i) = refl

-- on either layout
pub attained_looped : (L : Layout) → Refuted L AttainedLooped
unfolding check_sizes turns turn onward own_size body_size storing store name_size name_within name_rule content_size content_of content_in slot_of type_size leaf_size then limited primitive_bits encoded_size limited_element elements_size field_size add_fields table_of rows_from slot_row size_at
attained_looped L = record {
  schema = looped;
  final = store 0 (Open 8) (brought looped);
  accepts = by_layout L;
  fails = λ claim.
      let d : Declared looped 0 = record { listed = Memᴰ.head refl; sizable = is_message } in
      none_below L 9 8 (omega arith) (claim brings_none 0 d (Open 8) refl).low;
}
  where
    by_layout : (L : Layout) → check_sizes L looped ≡ accepted (store 0 (Open 8) (brought looped))
    by_layout Packed = refl
    by_layout Aligned = refl
