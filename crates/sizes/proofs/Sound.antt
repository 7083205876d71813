-- A relation that keeps the laws holds between the lengths of a type and the ends of its size, where it does so for its parts.
use Rattle.std.specs.Prelude.{◌≡◌, refl, ◌↔◌}
use Rattle.std.proofs.Math.Path.{sym, ap, subst}
use Rattle.std.proofs.Common.{◌∙◌, arith}
use Prim.Native.Nat.{ℕ, ◌+◌, ◌*◌, ◌≤◌}
use mathlib.Core.List.Memᴰ
use mathlib.Core.List.{List, [], ◌∷◌, Memᴰ}
use Rattle.std.proofs.Math.Option.{Option, none, some}
use Rattle.number.specs.Shortest.{groups_of}
use Rattle.tree.specs.Tree.{Tree, Leaf, leaf, wrap, fixed_array, pair, generic, primitive, sub_byte, semantic, named, bits_inline, qualified, map_of, result_of}
use Rattle.tree.specs.Encoding.{Encoding, default, varint, zig_zag, delta}
use Rattle.slot.specs.Field.{Field}
use Rattle.image.specs.Schema.{Schema}
use Rattle.sizes.specs.Elements.{Count, at_most_one, any_number, exactly, count_of, Element, item, entry, limited_element}
use Rattle.sizes.specs.Sizes.{Layout, Packed, Aligned, to_bytes, round_up, rounded, laid, Size, Fixed, Bounded, Open, Sum, Product, Worked, Sized, smallest, largest, variable, both, limited_sum, limited_product, then, semantic_bits, fixed_or_open, Resolver, leaf_size, optional_size, multiplied, without_largest, widened, raised, wrap_size, type_size, varint_end, zig_zag_end, encoded_size, entry_size, element_size, up_to, elements_size, field_size, added, add_fields, fields_size, mark, add_variants, union_size}
use Rattle.sizes.specs.Names.{Content, fields, variants, bits, terminal, anything, or_else, content_size}
use Rattle.sizes.specs.Lengths.{FixedOrAny, Length, of_qualified, of_generic, WrapLength, most_elements, Counted, ElementLength, OwnLength, EncodedLength, FieldsLength, ContentLength, of_anything, wrap_parts, type_parts, encoded_parts, element_parts, own_parts, field_parts, fields_parts, variants_parts, content_parts, SlotLength}
use Rattle.sizes.proofs.Steps.{limited_kept, sized_inj, then_made, step_made, field_added, variant_added, fields_small, first_variant}
use Rattle.sizes.proofs.Laws.{RoundedTo, Rising, Plus, More, Sums, Either, Relation, Laws}
use Rattle.sizes.proofs.Rules.{primitive_is, sub_byte_is, semantic_is, bits_inline_is, optional_is, item_is, entry_is, counted_is, elements_is, exactly_is, fixed_array_is, map_is, result_is, wrap_is, plain_is, varint_is, zigzag_is, delta_is, unlimited_is, limited_is, FieldLength, no_field_is, one_field_is, fields_is, message_is, SomeVariant, no_variant_is, variants_is, none_left_is, one_variant_is, bits_is, terminal_is, varint_end_lem, zigzag_end}

-- between lengths and the ends of a size
abbrev pub On : Relation → (ℕ → Type 0) → Size → Type 0
On R P s = R P (smallest s) (largest s)

-- for what a name comes to, and for each of some names
abbrev pub HoldsAt : Relation → Layout → Schema → Resolver → ℕ → Type 0
HoldsAt R L S r j = (s : Size) → r j ≡ Sized s → On R (SlotLength L S j) s

abbrev pub HoldsFor : Relation → Layout → Schema → Resolver → List ℕ → Type 0
HoldsFor R L S r js = (j : ℕ) → Memᴰ j js → HoldsAt R L S r j

module _ (R : Relation) (laws : Laws R) where
  -- ## The operations

  on_variable : (P : ℕ → Type 0) (l : ℕ) (h : Option ℕ) → R P l h → On R P (variable l h)
  on_variable P l (some h) a = a
  on_variable P l none a = a

  on_loose : (P : ℕ → Type 0) (s : Size) → On R P s → On R P (variable (smallest s) (largest s))
  on_loose P s a = on_variable P (smallest s) (largest s) a

  on_times : (k : ℕ) (P : ℕ → Type 0) (s : Size) → On R P s → On R (Sums P k) (multiplied k s)
  on_times k P (Fixed b) a = laws.times k P b (some b) a
  on_times k P (Bounded l h) a = laws.times k P l (some h) a
  on_times k P (Open l) a = laws.times k P l none a

  on_dropped : (P : ℕ → Type 0) (s : Size) → On R P s → On R P (without_largest s)
  on_dropped P (Fixed b) a = a
  on_dropped P (Bounded l h) a = laws.dropped P l (some h) a
  on_dropped P (Open l) a = a

  on_raised : (k : ℕ) (P : ℕ → Type 0) (s : Size) → On R P s → On R (More k P) (raised k s)
  on_raised k P s a = on_variable (More k P) _ _ (laws.more k P (smallest s) (largest s) a)

  on_widened : (P Q : ℕ → Type 0) (s s' : Size) → On R P s → On R Q s' → On R (Either P Q) (widened s s')
  on_widened P Q s s' a b =
      on_variable (Either P Q) _ _ (laws.either P Q (smallest s) (smallest s') (largest s) (largest s') a b)

  on_added : (P Q : ℕ → Type 0) (s s' : Size) → On R P s → On R Q s' → On R (Plus P Q) (added s s')
  on_added P Q (Fixed x) (Fixed y) a b = laws.plus P Q x y (some x) (some y) a b
  on_added P Q (Fixed x) (Bounded m k) a b = laws.plus P Q x m (some x) (some k) a b
  on_added P Q (Fixed x) (Open m) a b = laws.plus P Q x m (some x) none a b
  on_added P Q (Bounded l h) s a b = on_variable (Plus P Q) _ _ (laws.plus P Q l (smallest s) (some h) (largest s) a b)
  on_added P Q (Open l) s a b = on_variable (Plus P Q) _ _ (laws.plus P Q l (smallest s) none (largest s) a b)

  on_rounded : (up : ℕ → ℕ) → Rising up → (P : ℕ → Type 0) (s : Size) → On R P s → On R (RoundedTo up P) (rounded up s)
  on_rounded up rise P (Fixed b) a = laws.rounded up rise P b (some b) a
  on_rounded up rise P (Bounded l h) a = laws.rounded up rise P l (some h) a
  on_rounded up rise P (Open l) a = laws.rounded up rise P l none a

  -- a field as it is added
  on_laid : (L : Layout) (P : ℕ → Type 0) (s s' : Size) → On R P s → laid L s ≡ Sized s' → On R (RoundedTo (round_up L) P) s'
  on_laid Packed P s s' a q =
      laws.same _ _ _ (λ n. (λ p. (n, p, refl), λ (m, p, e). rw e p)) (subst (On R P) (sized_inj q) a)
  on_laid Aligned P s s' a q =
      subst (On R (RoundedTo to_bytes P)) (limited_kept Sum (rounded to_bytes s) s' q).same (on_rounded to_bytes (λ m n h. omega arith) P s a)

  -- ## A size in the place of another, by a rule

  made : {P : ℕ → Type 0} (Q : ℕ → Type 0) (s s' : Size) → s ≡ s' → ((n : ℕ) → P n ↔ Q n) → On R P s → On R Q s'
  made Q s s' e f a = subst (On R Q) e (laws.same Q _ _ f a)

  sized : {P : ℕ → Type 0} (Q : ℕ → Type 0) (s s' : Size) → Sized s ≡ Sized s' → ((n : ℕ) → P n ↔ Q n) → On R P s → On R Q s'
  sized Q s s' e f a = made Q s s' (sized_inj e) f a

  any_length : (P : ℕ → Type 0) → ((n : ℕ) → P n) → (n : ℕ) → (0 ≤ n) ↔ P n
  any_length P f n = (λ z. f n, λ p. omega arith)

  -- any length, from 0 without largest
  any_sized : (P : ℕ → Type 0) → ((n : ℕ) → P n) → (s : Size) → Sized (Open 0) ≡ Sized s → On R P s
  any_sized P f s q = sized P (Open 0) s q (any_length P f) (laws.up_from 0)

  on_fixed_or_open : (o : Option ℕ) → On R (FixedOrAny o) (fixed_or_open o)
  on_fixed_or_open (some b) = laws.exact b
  on_fixed_or_open none = any_sized (FixedOrAny none) (λ n. tt) (Open 0) refl

  module _ (L : Layout) (S : Schema) (r : Resolver) where
    -- ## Types

    sound_leaf : (l : Leaf) → HoldsFor R L S r (type_parts (leaf l)) → (s : Size) → leaf_size r l ≡ Sized s →
        On R (Length L S (leaf l)) s
    unfolding leaf_size type_parts
    sound_leaf (primitive p) parts s q = sized _ _ s q (primitive_is L S p) (laws.exact _)
    sound_leaf (sub_byte g b) parts s q = sized _ _ s q (sub_byte_is L S g b) (laws.exact b)
    sound_leaf (semantic m) parts s q = sized _ _ s q (semantic_is L S m) (on_fixed_or_open (semantic_bits m))
    sound_leaf (named i) parts s q = parts i (Memᴰ.head refl) s q
    sound_leaf (bits_inline ns) parts s q = sized _ _ s q (bits_inline_is L S ns) (laws.exact _)
    sound_leaf (qualified k) parts s q = any_sized _ (λ n. of_qualified) s q

    -- whatever the elements are
    any_number_lem : (e : Element) → On R (Counted L S e most_elements) (Open 8)
    any_number_lem e = laws.same _ _ _ (counted_is L S e most_elements) (laws.counted most_elements (ElementLength L S e))

    sound_wrap : (c : Count) (t : Tree) → HoldsFor R L S r (wrap_parts c (type_parts t)) →
        (HoldsFor R L S r (type_parts t) → (s : Size) → type_size r t ≡ Sized s → On R (Length L S t) s) →
        (s : Size) → wrap_size c (type_size r t) ≡ Sized s → On R (WrapLength L S c t) s
    unfolding wrap_size
    sound_wrap at_most_one t parts child s q =
        let m = step_made Sum (type_size r t) optional_size s q in
        let a = laws.optional (Length L S t) _ _ (child parts m.part m.given) in
        made _ _ s m.same (optional_is L S t) (on_variable _ _ _ a)
    sound_wrap any_number t parts child s q = sized _ _ s q (elements_is L S t) (any_number_lem (item t))
    sound_wrap (exactly k) t parts child s q =
        let m = step_made Product (type_size r t) (multiplied k) s q in
        made _ _ s m.same (exactly_is L S t k) (on_times k (Length L S t) m.part (child parts m.part m.given))

    pub sound_type : (t : Tree) → HoldsFor R L S r (type_parts t) → (s : Size) → type_size r t ≡ Sized s → On R (Length L S t) s
    unfolding type_size type_parts
    sound_type (leaf l) parts s q = sound_leaf l parts s q
    sound_type (wrap w t) parts s q = laws.same _ _ _ (wrap_is L S w t) (sound_wrap (count_of w) t parts (sound_type t) s q)
    sound_type (fixed_array t k) parts s q =
        let m = step_made Product (type_size r t) (λ x. multiplied k (without_largest x)) s q in
        let a = on_dropped (Length L S t) m.part (sound_type t parts m.part m.given) in
        made _ _ s m.same (fixed_array_is L S t k) (on_times k (Length L S t) (without_largest m.part) a)
    sound_type (pair map_of t u) parts s q = sized _ _ s q (map_is L S t u) (any_number_lem (entry t u))
    sound_type (pair result_of t u) parts s q =
        let m = then_made (type_size r t) (λ x. then (type_size r u) (λ y. limited_sum (raised 1 (widened x y)))) s q in
        let m' = step_made Sum (type_size r u) (λ y. raised 1 (widened m.part y)) s m.made in
        let a = sound_type t (λ j p. parts j (Memᴰ.append_left (type_parts u) p)) m.part m.given in
        let b = sound_type u (λ j p. parts j (Memᴰ.append_right (type_parts t) p)) m'.part m'.given in
        let w = on_widened (Length L S t) (Length L S u) m.part m'.part a b in
        made _ _ s m'.same (result_is L S t u) (on_raised 1 _ (widened m.part m'.part) w)
    sound_type (generic k t) parts s q = any_sized _ (λ n. of_generic) s q

    -- ## Fields

    sound_encoded : (e : Encoding) (t : Tree) → HoldsFor R L S r (encoded_parts e t) → (s : Size) → encoded_size r e t ≡ Sized s →
        On R (EncodedLength L S e t) s
    unfolding encoded_size encoded_parts
    sound_encoded default t parts s q = laws.same _ _ _ (plain_is L S t) (sound_type t parts s q)
    sound_encoded varint t parts s q = sized _ _ s q (varint_is L S t) (laws.span (varint_end t) (varint_end_lem t))
    sound_encoded zig_zag t parts s q = sized _ _ s q (zigzag_is L S t) (laws.span (zig_zag_end t) (zigzag_end t))
    sound_encoded (delta e) t parts s q = laws.same _ _ _ (delta_is L S e t) (sound_encoded e t parts s q)

    -- ## Elements that a limit bears on

    largest_of : (h : Option ℕ) → largest (variable 0 h) ≡ h
    largest_of (some h) = refl
    largest_of none = refl

    -- an element and its largest, from some smallest on
    sound_element : (e : Element) → HoldsFor R L S r (element_parts e) → (s : Size) → element_size r e ≡ Sized s →
        (l : ℕ) × R (ElementLength L S e) l (largest s)
    unfolding element_size element_parts
    sound_element (item t) parts s q = (smallest s, laws.same _ _ _ (item_is L S t) (sound_type t parts s q))
    sound_element (entry t u) parts s q =
        let m = then_made (type_size r t) (λ k. then (type_size r u) (λ v. limited_sum (entry_size k v))) s q in
        let m' = step_made Sum (type_size r u) (λ v. entry_size m.part v) s m.made in
        let a = sound_type t (λ j p. parts j (Memᴰ.append_left (type_parts u) p)) m.part m.given in
        let b = sound_type u (λ j p. parts j (Memᴰ.append_right (type_parts t) p)) m'.part m'.given in
        let h = both ◌+◌ (largest m.part) (largest m'.part) in
        let same : h ≡ largest s = sym (largest_of h) ∙ ap (λ (x : Size). largest x) m'.same in
        let l = smallest m.part + smallest m'.part in
        let c = laws.plus (Length L S t) (Length L S u) _ _ (largest m.part) (largest m'.part) a b in
        (l, laws.same _ _ _ (entry_is L S t u) (subst (λ (o : Option ℕ). R (Plus (Length L S t) (Length L S u)) l o) same c))

    -- at most so many of them
    sound_count : (e : Element) (n l : ℕ) (h : Option ℕ) → R (ElementLength L S e) l h → (s : Size) → up_to n h ≡ Sized s → On R (Counted L S e n) s
    sound_count e n l none a s q = sized _ _ s q (counted_is L S e n) (laws.counted n (ElementLength L S e))
    sound_count e n l (some h) a s q =
        let m = then_made (limited_product (multiplied n (Fixed h))) (λ all. limited_sum (Bounded 8 (8 * groups_of n + smallest all))) s q in
        let k = (limited_kept Product (multiplied n (Fixed h)) m.part m.given).same in
        let k' = (limited_kept Sum _ s m.made).same in
        made _ _ s (ap (λ (x : Size). Bounded 8 (8 * groups_of n + smallest x)) k ∙ k') (counted_is L S e n) (laws.up_to n (ElementLength L S e) l h a)

    sound_own : (f : Field) (o : Option Element) → HoldsFor R L S r (own_parts o (encoded_parts f.encoding f.type)) → (s : Size) →
        elements_size r f.limit o (encoded_size r f.encoding f.type) ≡ Sized s → On R (OwnLength L S o f) s
    unfolding elements_size own_parts
    sound_own f none parts s q = laws.same _ _ _ (unlimited_is L S f) (sound_encoded f.encoding f.type parts s q)
    sound_own f (some e) parts s q =
        let m = then_made (element_size r e) (λ x. up_to f.limit (largest x)) s q in
        let (l, a) = sound_element e parts m.part m.given in
        laws.same _ _ _ (limited_is L S f e) (sound_count e f.limit l (largest m.part) a s m.made)

    sound_field : (f : Field) → HoldsFor R L S r (field_parts f) → (s : Size) → field_size L r f ≡ Sized s →
        On R (FieldLength L S f) s
    unfolding field_size
    sound_field f parts s q =
        let m = then_made (elements_size r f.limit (limited_element f) (encoded_size r f.encoding f.type)) (laid L) s q in
        on_laid L (OwnLength L S (limited_element f) f) m.part s (sound_own f (limited_element f) parts m.part m.given) m.made

    -- P is what the fields so far may come to
    sound_add : (fs : List Field) → HoldsFor R L S r (fields_parts fs) → (P : ℕ → Type 0) (total s : Size) → On R P total →
        add_fields L r total fs ≡ Sized s → On R (Plus P (FieldsLength L S fs)) s
    unfolding add_fields fields_parts
    sound_add [] parts P total s a q = sized _ total s q (no_field_is L S P) a
    sound_add (f ∷ fs) parts P total s a q =
        let m = field_added L r total f fs s q in
        let mine = field_parts f in
        let b = sound_field f (λ j p. parts j (Memᴰ.append_left (fields_parts fs) p)) m.size m.worked in
        let c = on_added P (FieldLength L S f) total m.size a b in
        laws.same _ _ _ (one_field_is L S P f fs)
        (sound_add fs (λ j p. parts j (Memᴰ.append_right mine p)) _ (added total m.size) s c m.rest)

    sound_fields : (fs : List Field) → HoldsFor R L S r (fields_parts fs) → (s : Size) → fields_size L r fs ≡ Sized s →
        On R (FieldsLength L S fs) s
    sound_fields fs parts s q =
        laws.same _ _ _ (fields_is L S fs) (sound_add fs parts (λ n. n ≡ 0) (Fixed 0) s (laws.exact 0) q)

    -- ## Unions

    -- Q is what the variants so far may come to
    sound_variants : (vs : List (List Field)) → HoldsFor R L S r (variants_parts vs) → (Q : ℕ → Type 0) (extremes s : Size) →
        On R Q extremes → add_variants L r extremes vs ≡ Sized s → On R (Either Q (SomeVariant L S vs)) s
    unfolding add_variants variants_parts
    sound_variants [] parts Q extremes s a q = sized _ extremes s q (none_left_is L S Q) a
    sound_variants (v ∷ vs) parts Q extremes s a q =
        let m = variant_added L r extremes v vs s q in
        let b = sound_fields v (λ j p. parts j (Memᴰ.append_left (variants_parts vs) p)) m.part m.given in
        let c = on_widened Q (FieldsLength L S v) extremes m.part a b in
        laws.same _ _ _ (one_variant_is L S Q v vs)
        (sound_variants vs (λ j p. parts j (Memᴰ.append_right (fields_parts v) p)) _ (widened extremes m.part) s c m.made)

    -- the mark is gone after the first variant
    pub sound_union : (vs : List (List Field)) → HoldsFor R L S r (variants_parts vs) → (s : Size) → union_size L r vs ≡ Sized s →
        On R (ContentLength L S (variants vs)) s
    unfolding union_size variants_parts
    sound_union [] parts s q = sized _ (Bounded 8 8) s q (no_variant_is L S) (laws.exact 8)
    sound_union (v ∷ vs) parts s q =
        let m = step_made Sum (add_variants L r (Bounded mark 0) (v ∷ vs)) (raised 8) s q in
        let m' = variant_added L r (Bounded mark 0) v vs m.part m.given in
        let first = widened (Bounded mark 0) m'.part in
        let small = fields_small L r v m'.part m'.given in
        let a = sound_fields v (λ j p. parts j (Memᴰ.append_left (variants_parts vs) p)) m'.part m'.given in
        let a' = subst (On R (FieldsLength L S v)) (sym (first_variant m'.part small)) (on_loose _ m'.part a) in
        let b = sound_variants vs (λ j p. parts j (Memᴰ.append_right (fields_parts v) p)) _ first m.part a' m'.made in
        made _ _ s m.same (variants_is L S v vs) (on_raised 8 _ m.part b)

    pub sound_message : (fs : List Field) → HoldsFor R L S r (fields_parts fs) → (s : Size) → fields_size L r fs ≡ Sized s →
        On R (ContentLength L S (fields fs)) s
    sound_message fs parts s q = laws.same _ _ _ (message_is L S fs) (sound_fields fs parts s q)

  -- ## What a name stands for

  module _ (L : Layout) (S : Schema) (beside inside : Resolver) where
    stored_or : (P : ℕ → Type 0) (o : Option Size) (w : Worked) (s : Size) → ((s' : Size) → o ≡ some s' → On R P s') →
        (w ≡ Sized s → On R P s) → or_else o w ≡ Sized s → On R P s
    stored_or P (some s') w s k k' q = subst (On R P) (sized_inj q) (k s' refl)
    stored_or P none w s k k' q = k' q

    pub sound_content : (c : Content) (stored : Option Size) → ((s : Size) → stored ≡ some s → On R (ContentLength L S c) s) →
        HoldsFor R L S beside (content_parts c) → HoldsFor R L S inside (content_parts c) →
        (s : Size) → content_size L stored beside inside c ≡ Sized s → On R (ContentLength L S c) s
    unfolding content_size content_parts
    sound_content (fields fs) stored known p p' s q = stored_or _ stored _ s known (sound_message L S inside fs p' s) q
    sound_content (variants vs) stored known p p' s q = stored_or _ stored _ s known (sound_union L S inside vs p' s) q
    sound_content (bits b) stored known p p' s q = sized _ _ s q (bits_is L S b) (laws.exact b)
    sound_content (terminal t) stored known p p' s q = laws.same _ _ _ (terminal_is L S t) (sound_type L S beside t p s q)
    sound_content anything stored known p p' s q = any_sized _ (λ n. of_anything) s q
