-- The length rules, each as a way to make lengths of lengths.
use Rattle.std.specs.Prelude.{◌≡◌, refl, ℕ, zero, suc, ◌+◌, ◌⊎◌, ◌↔◌, length, get_or}
use Rattle.std.proofs.Common.{subst, arith, inl, inr, ⊎_elim}
use mathlib.Core.List.Memᴰ
use mathlib.Core.List.{List, [], ◌∷◌, Memᴰ}
use Rattle.std.proofs.Math.Option.{none, some}
use Rattle.tree.specs.Tree.{Tree, Leaf, Wrap, leaf, wrap, fixed_array, pair, generic, primitive, sub_byte, semantic, named, bits_inline, qualified, map_of, result_of}
use Rattle.tree.specs.Encoding.{Encoding, default, varint, zig_zag, delta}
use Rattle.slot.specs.Field.{Field}
use Rattle.image.specs.Schema.{Schema}
use Rattle.sizes.specs.Elements.{at_most_one, any_number, exactly, count_of, Element, item, entry, limited_element}
use Rattle.sizes.specs.Sizes.{Layout, round_up, primitive_bits, semantic_bits, leaf_span, span_end, varint_end, zig_zag_end}
use Rattle.sizes.specs.Names.{fields, variants, bits, terminal, content_of}
use Rattle.sizes.specs.Lengths.{FixedOrAny, InSpan, Length, of_primitive, of_sub_byte, of_semantic, of_named, of_bits_inline, of_wrap, of_fixed_array, of_map, of_ok, of_err, WrapLength, absent, present, of_elements, of_copies, most_elements, Counted, of_count, Several, no_element, one_element, ElementLength, of_item, of_entry, OwnLength, unlimited, limited_to, EncodedLength, plain, of_varint, of_zig_zag, of_delta, FieldsLength, no_field, one_field, ContentLength, of_message, of_variant, of_no_variant, of_bits, of_terminal, SlotLength}
use Rattle.sizes.proofs.Laws.{RoundedTo, Plus, More, Sums, no_more, one_more, CountOf, Either}

module _ (L : Layout) (S : Schema) where
  pub primitive_is : (p n : ℕ) → (n ≡ primitive_bits p) ↔ Length L S (leaf (primitive p)) n
  primitive_is p n = (λ e. rw e of_primitive, back n)
    where
      back : (n : ℕ) → Length L S (leaf (primitive p)) n → n ≡ primitive_bits p
      back n of_primitive = refl

  pub sub_byte_is : (g b n : ℕ) → (n ≡ b) ↔ Length L S (leaf (sub_byte g b)) n
  sub_byte_is g b n = (λ e. rw e of_sub_byte, back n)
    where
      back : (n : ℕ) → Length L S (leaf (sub_byte g b)) n → n ≡ b
      back n of_sub_byte = refl

  pub semantic_is : (m n : ℕ) → FixedOrAny (semantic_bits m) n ↔ Length L S (leaf (semantic m)) n
  semantic_is m n = (of_semantic, back n)
    where
      back : (n : ℕ) → Length L S (leaf (semantic m)) n → FixedOrAny (semantic_bits m) n
      back n (of_semantic h) = h

  pub bits_inline_is : (ns : List ℕ) (n : ℕ) → (n ≡ length ns) ↔ Length L S (leaf (bits_inline ns)) n
  bits_inline_is ns n = (λ e. rw e of_bits_inline, back n)
    where
      back : (n : ℕ) → Length L S (leaf (bits_inline ns)) n → n ≡ length ns
      back n of_bits_inline = refl

  pub named_is : (i n : ℕ) → ContentLength L S (content_of S i) n ↔ SlotLength L S i n
  named_is i n = (of_named, back n)
    where
      back : (n : ℕ) → Length L S (leaf (named i)) n → ContentLength L S (content_of S i) n
      back n (of_named h) = h

  pub optional_is : (t : Tree) (n : ℕ) → Either (λ m. m ≡ 1) (More 1 (Length L S t)) n ↔ WrapLength L S at_most_one t n
  optional_is t n = (⊎_elim (λ e. rw e absent) (λ (m, h, e). rw e (present h)), back n)
    where
      back : (n : ℕ) → WrapLength L S at_most_one t n → Either (λ m. m ≡ 1) (More 1 (Length L S t)) n
      back n absent = inl refl
      back n (present {n = m} h) = inr (m, h, refl)

  -- ## Elements

  pub item_is : (t : Tree) (n : ℕ) → Length L S t n ↔ ElementLength L S (item t) n
  item_is t n = (of_item, back n)
    where
      back : (n : ℕ) → ElementLength L S (item t) n → Length L S t n
      back n (of_item h) = h

  pub entry_is : (t u : Tree) (n : ℕ) → Plus (Length L S t) (Length L S u) n ↔ ElementLength L S (entry t u) n
  entry_is t u n = (λ (a, b, p, q, e). rw e (of_entry p q), back n)
    where
      back : (n : ℕ) → ElementLength L S (entry t u) n → Plus (Length L S t) (Length L S u) n
      back n (of_entry {n = a} {m = b} p q) = (a, b, p, q, refl)

  several : {e : Element} {k n : ℕ} → Sums (ElementLength L S e) k n → Several L S e k n
  several no_more = no_element
  several (one_more h hs) = one_element h (several hs)

  sums : {e : Element} {k n : ℕ} → Several L S e k n → Sums (ElementLength L S e) k n
  sums no_element = no_more
  sums (one_element h hs) = one_more h (sums hs)

  pub counted_is : (e : Element) (most n : ℕ) → CountOf (ElementLength L S e) most n ↔ Counted L S e most n
  counted_is e most n = (λ c. rw c.whole (of_count c.few (several c.elements)), back n)
    where
      back : (n : ℕ) → Counted L S e most n → CountOf (ElementLength L S e) most n
      back n (of_count {k = k} {n = m} f h) = record { count = k; few = f; bits = m; elements = sums h; whole = refl }

  pub elements_is : (t : Tree) (n : ℕ) → Counted L S (item t) most_elements n ↔ WrapLength L S any_number t n
  elements_is t n = (of_elements, back n)
    where
      back : (n : ℕ) → WrapLength L S any_number t n → Counted L S (item t) most_elements n
      back n (of_elements h) = h

  pub map_is : (t u : Tree) (n : ℕ) → Counted L S (entry t u) most_elements n ↔ Length L S (pair map_of t u) n
  map_is t u n = (of_map, back n)
    where
      back : (n : ℕ) → Length L S (pair map_of t u) n → Counted L S (entry t u) most_elements n
      back n (of_map h) = h

  items : {t : Tree} {k n : ℕ} → Sums (Length L S t) k n → Several L S (item t) k n
  items no_more = no_element
  items (one_more h hs) = one_element (of_item h) (items hs)

  copies : {t : Tree} {k n : ℕ} → Several L S (item t) k n → Sums (Length L S t) k n
  copies no_element = no_more
  copies (one_element (of_item h) hs) = one_more h (copies hs)

  pub exactly_is : (t : Tree) (k n : ℕ) → Sums (Length L S t) k n ↔ WrapLength L S (exactly k) t n
  exactly_is t k n = (λ h. of_copies (items h), back n)
    where
      back : (n : ℕ) → WrapLength L S (exactly k) t n → Sums (Length L S t) k n
      back n (of_copies h) = copies h

  pub fixed_array_is : (t : Tree) (k n : ℕ) → Sums (Length L S t) k n ↔ Length L S (fixed_array t k) n
  fixed_array_is t k n = (λ h. of_fixed_array (items h), back n)
    where
      back : (n : ℕ) → Length L S (fixed_array t k) n → Sums (Length L S t) k n
      back n (of_fixed_array h) = copies h

  -- ## Other types

  pub result_is : (t u : Tree) (n : ℕ) → More 1 (Either (Length L S t) (Length L S u)) n ↔ Length L S (pair result_of t u) n
  result_is t u n = (λ (m, h, e). rw e (⊎_elim (λ x. of_ok x) (λ x. of_err x) h), back n)
    where
      back : (n : ℕ) → Length L S (pair result_of t u) n → More 1 (Either (Length L S t) (Length L S u)) n
      back n (of_ok {n = m} h) = (m, inl h, refl)
      back n (of_err {n = m} h) = (m, inr h, refl)

  pub wrap_is : (w : Wrap) (t : Tree) (n : ℕ) → WrapLength L S (count_of w) t n ↔ Length L S (wrap w t) n
  wrap_is w t n = (of_wrap, back n)
    where
      back : (n : ℕ) → Length L S (wrap w t) n → WrapLength L S (count_of w) t n
      back n (of_wrap h) = h

  pub plain_is : (t : Tree) (n : ℕ) → Length L S t n ↔ EncodedLength L S default t n
  plain_is t n = (plain, back n)
    where
      back : (n : ℕ) → EncodedLength L S default t n → Length L S t n
      back n (plain h) = h

  pub varint_is : (t : Tree) (n : ℕ) → InSpan (varint_end t) n ↔ EncodedLength L S varint t n
  varint_is t n = (of_varint, back n)
    where
      back : (n : ℕ) → EncodedLength L S varint t n → InSpan (varint_end t) n
      back n (of_varint h) = h

  pub zigzag_is : (t : Tree) (n : ℕ) → InSpan (zig_zag_end t) n ↔ EncodedLength L S zig_zag t n
  zigzag_is t n = (of_zig_zag, back n)
    where
      back : (n : ℕ) → EncodedLength L S zig_zag t n → InSpan (zig_zag_end t) n
      back n (of_zig_zag h) = h

  pub delta_is : (e : Encoding) (t : Tree) (n : ℕ) → EncodedLength L S e t n ↔ EncodedLength L S (delta e) t n
  delta_is e t n = (of_delta, back n)
    where
      back : (n : ℕ) → EncodedLength L S (delta e) t n → EncodedLength L S e t n
      back n (of_delta h) = h

  -- ## Fields

  pub unlimited_is : (f : Field) (n : ℕ) → EncodedLength L S f.encoding f.type n ↔ OwnLength L S none f n
  unlimited_is f n = (unlimited, back n)
    where
      back : (n : ℕ) → OwnLength L S none f n → EncodedLength L S f.encoding f.type n
      back n (unlimited h) = h

  pub limited_is : (f : Field) (e : Element) (n : ℕ) → Counted L S e f.limit n ↔ OwnLength L S (some e) f n
  limited_is f e n = (limited_to, back n)
    where
      back : (n : ℕ) → OwnLength L S (some e) f n → Counted L S e f.limit n
      back n (limited_to h) = h

  -- the lengths of a field
  abbrev pub FieldLength : Field → ℕ → Type 0
  FieldLength f = RoundedTo (round_up L) (OwnLength L S (limited_element f) f)

  pub no_field_is : (P : ℕ → Type 0) (n : ℕ) → P n ↔ Plus P (FieldsLength L S []) n
  no_field_is P n = (
    λ p. (n, 0, p, no_field, omega arith),
    λ (a, b, p, h, e). let e' = none b h in let e'' : n ≡ a = omega arith in rw e'' p,
  )
    where
      none : (n : ℕ) → FieldsLength L S [] n → n ≡ 0
      none n no_field = refl

  pub one_field_is : (P : ℕ → Type 0) (f : Field) (fs : List Field) (n : ℕ) →
      Plus (Plus P (FieldLength f)) (FieldsLength L S fs) n ↔ Plus P (FieldsLength L S (f ∷ fs)) n
  one_field_is P f fs n = (
    λ (x, c, (a, b, p, (m, h, d), e), hs, e'). (a, round_up L m + c, p, one_field h hs, omega arith),
    λ (a, x, p, h, e). apart x h a p e,
  )
    where
      apart : (x : ℕ) → FieldsLength L S (f ∷ fs) x → (a : ℕ) → P a → n ≡ a + x →
          Plus (Plus P (FieldLength f)) (FieldsLength L S fs) n
      apart x (one_field {n = b} {m = c} h hs) a p e = (a + round_up L b, c, (a, round_up L b, p, (b, h, refl), refl), hs, omega arith)

  pub fields_is : (fs : List Field) (n : ℕ) → Plus (λ m. m ≡ 0) (FieldsLength L S fs) n ↔ FieldsLength L S fs n
  fields_is fs n = (λ (a, b, z, h, e). let e' : n ≡ b = omega arith in rw e' h, λ h. (0, n, refl, h, omega arith))

  pub message_is : (fs : List Field) (n : ℕ) → FieldsLength L S fs n ↔ ContentLength L S (fields fs) n
  message_is fs n = (of_message, back n)
    where
      back : (n : ℕ) → ContentLength L S (fields fs) n → FieldsLength L S fs n
      back n (of_message h) = h

  -- one of the variants
  abbrev pub SomeVariant : List (List Field) → ℕ → Type 0
  SomeVariant vs n = (v : List Field) × Memᴰ v vs × FieldsLength L S v n

  pub no_variant_is : (n : ℕ) → (n ≡ 8) ↔ ContentLength L S (variants []) n
  no_variant_is n = (λ e. rw e of_no_variant, back n)
    where
      back : (n : ℕ) → ContentLength L S (variants []) n → n ≡ 8
      back n of_no_variant = refl
      back n (of_variant m h) = absurd (Memᴰ.not-nil m)

  pub variants_is : (v : List Field) (vs : List (List Field)) (n : ℕ) →
      More 8 (Either (FieldsLength L S v) (SomeVariant vs)) n ↔ ContentLength L S (variants (v ∷ vs)) n
  variants_is v vs n = (
    λ (m, h, e). rw e (⊎_elim (λ x. of_variant (Memᴰ.head refl) x) (λ (u, i, x). of_variant (Memᴰ.tail i) x) h),
    back n,
  )
    where
      pick : (u : List Field) (m : ℕ) → FieldsLength L S u m → (u ≡ v) ⊎ Memᴰ u vs →
          Either (FieldsLength L S v) (SomeVariant vs) m
      pick u m h (inl e) = inl (subst (λ x. FieldsLength L S x m) e h)
      pick u m h (inr i) = inr (u, i, h)

      back : (n : ℕ) → ContentLength L S (variants (v ∷ vs)) n → More 8 (Either (FieldsLength L S v) (SomeVariant vs)) n
      back n (of_variant {v = u} {n = m} i h) = (m, pick u m h (Memᴰ.cases_cons i), refl)

  pub none_left_is : (Q : ℕ → Type 0) (n : ℕ) → Q n ↔ Either Q (SomeVariant []) n
  none_left_is Q n = (inl, ⊎_elim (λ q. q) (λ (v, i, h). absurd (Memᴰ.not-nil i)))

  pub one_variant_is : (Q : ℕ → Type 0) (v : List Field) (vs : List (List Field)) (n : ℕ) →
      Either (Either Q (FieldsLength L S v)) (SomeVariant vs) n ↔ Either Q (SomeVariant (v ∷ vs)) n
  one_variant_is Q v vs n = (
    ⊎_elim (⊎_elim (λ q. inl q) (λ h. inr (v, Memᴰ.head refl, h))) (λ (u, i, h). inr (u, Memᴰ.tail i, h)),
    ⊎_elim (λ q. inl (inl q)) (λ (u, i, h). pick u h (Memᴰ.cases_cons i)),
  )
    where
      pick : (u : List Field) → FieldsLength L S u n → (u ≡ v) ⊎ Memᴰ u vs →
          Either (Either Q (FieldsLength L S v)) (SomeVariant vs) n
      pick u h (inl e) = inl (inr (subst (λ x. FieldsLength L S x n) e h))
      pick u h (inr i) = inr (u, i, h)

  pub bits_is : (b n : ℕ) → (n ≡ b) ↔ ContentLength L S (bits b) n
  bits_is b n = (λ e. rw e of_bits, back n)
    where
      back : (n : ℕ) → ContentLength L S (bits b) n → n ≡ b
      back n of_bits = refl

  pub terminal_is : (t : Tree) (n : ℕ) → Length L S t n ↔ ContentLength L S (terminal t) n
  terminal_is t n = (of_terminal, back n)
    where
      back : (n : ℕ) → ContentLength L S (terminal t) n → Length L S t n
      back n (of_terminal h) = h

-- ## The ends of a span

abbrev Every : (ℕ → Type 0) → List ℕ → Type 0
Every P [] = Unit {0}
Every P (x ∷ xs) = P x × Every P xs

every_get_or : (P : ℕ → Type 0) (d : ℕ) → P d → (l : List ℕ) → Every P l → (i : ℕ) → P (get_or l i d)
every_get_or P d p [] h i = p
every_get_or P d p (x ∷ xs) h zero = h.0
every_get_or P d p (x ∷ xs) h (suc i) = every_get_or P d p xs h.1 i

leaf_span_lem : (ends : List ℕ) → Every (λ n. InSpan n n) ends → (l : Leaf) → InSpan (leaf_span ends l) (leaf_span ends l)
leaf_span_lem ends h (primitive p) = every_get_or (λ n. InSpan n n) 80 (omega arith) ends h p
leaf_span_lem ends h (sub_byte g b) = omega arith
leaf_span_lem ends h (semantic m) = omega arith
leaf_span_lem ends h (named i) = omega arith
leaf_span_lem ends h (bits_inline ns) = omega arith
leaf_span_lem ends h (qualified n) = omega arith

span_end_lem : (ends : List ℕ) → Every (λ n. InSpan n n) ends → (t : Tree) → InSpan (span_end ends t) (span_end ends t)
span_end_lem ends h (leaf l) = leaf_span_lem ends h l
span_end_lem ends h (wrap w t) = omega arith
span_end_lem ends h (fixed_array t k) = omega arith
span_end_lem ends h (pair p t u) = omega arith
span_end_lem ends h (generic n t) = omega arith

pub varint_end_lem : (t : Tree) → InSpan (varint_end t) (varint_end t)
unfolding varint_end
varint_end_lem t = span_end_lem (80 ∷ 80 ∷ 24 ∷ 40 ∷ 80 ∷ []) (omega arith) t

pub zigzag_end : (t : Tree) → InSpan (zig_zag_end t) (zig_zag_end t)
unfolding zig_zag_end
zigzag_end t = span_end_lem (80 ∷ 80 ∷ 80 ∷ 80 ∷ 80 ∷ 80 ∷ 24 ∷ 40 ∷ 80 ∷ []) (omega arith) t
