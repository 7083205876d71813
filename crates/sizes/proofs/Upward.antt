-- Where a part of a slot passes the limit, so does the slot: so all that an accepted schema reaches has a size. Types hold no
-- generics, whose argument no size needs. Assumes nothing.
use mathlib.Core.Path.{◌≡◌, refl, sym, subst, ◌∙◌}
use Prim.Native.Nat.{ℕ, zero, suc}
use mathlib.Core.Bool.{Bool, true, false, cond}
use mathlib.Core.List.Memᴰ
use mathlib.Core.List.{List, [], ◌∷◌, ◌++◌, Memᴰ}
use mathlib.Core.Option.{Option, none, some, none-ne-some, some-injective}
use mathlib.Core.Logic.{⊎_elim}
use Rattle.tree.specs.Tree.{Tree, Leaf, leaf, wrap, fixed_array, pair, generic, primitive, sub_byte, semantic, named, bits_inline, qualified, map_of, result_of}
use Rattle.tree.specs.Encoding.{Encoding, default, varint, zig_zag, delta}
use Rattle.slot.specs.Field.{Field}
use Rattle.graph.specs.declared.Lowest.{Lowest}
use Rattle.image.specs.Schema.{Schema}
use Rattle.sizes.specs.Elements.{Count, at_most_one, any_number, exactly, count_of, Element, item, entry, wrap_element, element_of, is_plain, with_limit, limited_element}
use Rattle.sizes.specs.Sizes.{Layout, laid, Size, Fixed, Bounded, Worked, Sized, limited_sum, limited_product, then, Resolver, leaf_size, optional_size, multiplied, without_largest, raised, largest, entry_size, up_to, widened, wrap_size, type_size, encoded_size, element_size, elements_size, field_alone, field_size, added, add_fields, mark, add_variants, union_size}
use Rattle.sizes.specs.Names.{Content, fields, variants, bits, terminal, anything, content_of, content_size, State}
use Rattle.sizes.specs.Check.{accepted, check_sizes}
use Rattle.sizes.specs.Lengths.{leaf_parts, wrap_parts, type_parts, encoded_parts, element_parts, own_parts, field_parts, fields_parts, variants_parts, content_parts, parts_of, at_once, by_way_of, itself, reached, LeadsTo, MadeOf, NothingLeadsBack}
use Rattle.sizes.specs.Demand.{BringsNone}
use Rattle.sizes.specs.Reached.{is_reached, leading_back}
use Rattle.sizes.proofs.Steps.{then_made, field_added, variant_added}
use Rattle.sizes.proofs.Rank.{no_loop_part}
use Rattle.sizes.specs.Steady.{plain_size}
use Rattle.sizes.proofs.Steady.{plain_obeys}
use Rattle.sizes.proofs.Turns.{last_turn, at_last, all_plain}
use Rattle.sizes.specs.Changed.{Each}
use Rattle.sizes.proofs.OneVisit.{reached_iff, nothing_back}

-- ## Types without generics

abbrev pub NoGeneric : Tree → Type 0
NoGeneric (leaf l) = Unit {0}
NoGeneric (wrap w t) = NoGeneric t
NoGeneric (fixed_array t k) = NoGeneric t
NoGeneric (pair p t u) = NoGeneric t × NoGeneric u
NoGeneric (generic n t) = ⊥

abbrev NoneInside : Element → Type 0
NoneInside (item t) = NoGeneric t
NoneInside (entry t u) = NoGeneric t × NoGeneric u

-- of each type of a slot
abbrev pub EachType : (Tree → Type 0) → Content → Type 0
EachType P (fields fs) = Each (λ f. P f.type) fs
EachType P (variants vs) = Each (Each (λ f. P f.type)) vs
EachType P (bits b) = Unit {0}
EachType P (terminal t) = P t
EachType P anything = Unit {0}

abbrev pub EveryType : (Tree → Type 0) → Schema → Type 0
EveryType P S = (i : ℕ) → EachType P (content_of S i)

-- an element lies inside its type
pub limited_inside : (f : Field) (e : Element) → limited_element f ≡ some e → element_of f.type ≡ some e
unfolding limited_element
limited_inside f e q = go (is_plain f.encoding) f.limit q
  where
    go : (b : Bool) (n : ℕ) → cond b (with_limit n (element_of f.type)) none ≡ some e → element_of f.type ≡ some e
    go false n q' = absurd (none-ne-some e q')
    go true zero q' = absurd (none-ne-some e q')
    go true (suc n) q' = q'

none_inside : (t : Tree) (e : Element) → element_of t ≡ some e → NoGeneric t → NoneInside e
none_inside (leaf l) e q n = absurd (none-ne-some e q)
none_inside (wrap w t) e q n = go (count_of w) q
  where
    go : (c : Count) → wrap_element c t ≡ some e → NoneInside e
    go at_most_one q' = absurd (none-ne-some e q')
    go any_number q' = subst NoneInside (some-injective (item t) e q') n
    go (exactly k) q' = absurd (none-ne-some e q')
none_inside (fixed_array t k) e q n = absurd (none-ne-some e q)
none_inside (pair map_of t u) e q n = subst NoneInside (some-injective (entry t u) e q) n
none_inside (pair result_of t u) e q n = absurd (none-ne-some e q)
none_inside (generic k t) e q n = absurd n

-- ## Each part of what has a size has one

abbrev pub HasSize : Worked → Type 0
HasSize w = (z : Size) × (w ≡ Sized z)

module _ (r : Resolver) where
  abbrev pub AllSized : List ℕ → Type 0
  AllSized js = (j : ℕ) → Memᴰ j js → HasSize (r j)

  none_sized : AllSized []
  none_sized j m = absurd (Memᴰ.not-nil m)

  both_sized : (js ks : List ℕ) → AllSized js → AllSized ks → AllSized (js ++ ks)
  both_sized js ks f g j m = ⊎_elim (f j) (g j) (Memᴰ.append_cases js m)

  leaf_up : (l : Leaf) → HasSize (leaf_size r l) → AllSized (leaf_parts l)
  unfolding leaf_size
  leaf_up (primitive p) h = none_sized
  leaf_up (sub_byte g b) h = none_sized
  leaf_up (semantic m) h = none_sized
  leaf_up (named i) h = λ j m. subst (λ (x : ℕ). HasSize (r x)) (sym (Memᴰ.eq_of_singleton m)) h
  leaf_up (bits_inline ns) h = none_sized
  leaf_up (qualified n) h = none_sized

  then_up : (w : Worked) (next : Size → Worked) → HasSize (then w next) → HasSize w
  then_up w next (z, e) = let m = then_made w next z e in (m.part, m.given)

  wrap_up : (c : Count) (w : Worked) (js : List ℕ) → (HasSize w → AllSized js) → HasSize (wrap_size c w) → AllSized (wrap_parts c js)
  unfolding wrap_size
  wrap_up at_most_one w js f h = f (then_up w (λ s. limited_sum (optional_size s)) h)
  wrap_up any_number w js f h = none_sized
  wrap_up (exactly k) w js f h = f (then_up w (λ s. limited_product (multiplied k s)) h)

  type_up : (t : Tree) → NoGeneric t → HasSize (type_size r t) → AllSized (type_parts t)
  unfolding type_size type_parts
  type_up (leaf l) n h = leaf_up l h
  type_up (wrap w t) n h = wrap_up (count_of w) (type_size r t) (type_parts t) (type_up t n) h
  type_up (fixed_array t k) n h = type_up t n (then_up (type_size r t) (λ s. limited_product (multiplied k (without_largest s))) h)
  type_up (pair map_of t u) n h = none_sized
  type_up (pair result_of t u) n h =
      let m = then_made (type_size r t) (λ s. then (type_size r u) (λ s'. limited_sum (raised 1 (widened s s')))) h.0 h.1 in
      both_sized (type_parts t) (type_parts u) (type_up t n.0 (m.part, m.given))
      (type_up u n.1 (then_up (type_size r u) (λ s'. limited_sum (raised 1 (widened m.part s'))) (h.0, m.made)))
  type_up (generic n t) g h = absurd g

  encoded_up : (e : Encoding) (t : Tree) → NoGeneric t → HasSize (encoded_size r e t) → AllSized (encoded_parts e t)
  unfolding encoded_size encoded_parts
  encoded_up default t n h = type_up t n h
  encoded_up varint t n h = none_sized
  encoded_up zig_zag t n h = none_sized
  encoded_up (delta e) t n h = encoded_up e t n h

  element_up : (e : Element) → NoneInside e → HasSize (element_size r e) → AllSized (element_parts e)
  unfolding element_size element_parts
  element_up (item t) n h = type_up t n h
  element_up (entry t u) n h =
      let m = then_made (type_size r t) (λ k. then (type_size r u) (λ v. limited_sum (entry_size k v))) h.0 h.1 in
      both_sized (type_parts t) (type_parts u) (type_up t n.0 (m.part, m.given))
      (type_up u n.1 (then_up (type_size r u) (λ v. limited_sum (entry_size m.part v)) (h.0, m.made)))

  own_up : (k : ℕ) (o : Option Element) (w : Worked) (js : List ℕ) → ((e : Element) → o ≡ some e → NoneInside e) → (HasSize w → AllSized js)
      → HasSize (elements_size r k o w) → AllSized (own_parts o js)
  unfolding elements_size own_parts
  own_up k none w js n f h = f h
  own_up k (some e) w js n f h = element_up e (n e refl) (then_up (element_size r e) (λ s. up_to k (largest s)) h)

  field_up : (f : Field) → NoGeneric f.type → HasSize (field_alone r f) → AllSized (field_parts f)
  field_up f n h = own_up f.limit (limited_element f) (encoded_size r f.encoding f.type) (encoded_parts f.encoding f.type)
      (λ e q. none_inside f.type e (limited_inside f e q) n) (encoded_up f.encoding f.type n) h

  module _ (L : Layout) where
    fields_up : (fs : List Field) → Each (λ f. NoGeneric f.type) fs → (total : Size) → HasSize (add_fields L r total fs) → AllSized (fields_parts fs)
    unfolding fields_parts field_size
    fields_up [] n total h = none_sized
    fields_up (f ∷ fs) n total h =
        let a = field_added L r total f fs h.0 h.1 in
        both_sized (field_parts f) (fields_parts fs) (field_up f n.0 (then_up (field_alone r f) (laid L) (a.size, a.worked)))
        (fields_up fs n.1 (added total a.size) (h.0, a.rest))

    variants_up : (vs : List (List Field)) → Each (Each (λ f. NoGeneric f.type)) vs → (extremes : Size) → HasSize (add_variants L r extremes vs) → AllSized (variants_parts vs)
    unfolding variants_parts
    variants_up [] n extremes h = none_sized
    variants_up (v ∷ vs) n extremes h =
        let a = variant_added L r extremes v vs h.0 h.1 in
        both_sized (fields_parts v) (variants_parts vs) (fields_up v n.0 (Fixed 0) (a.part, a.given))
        (variants_up vs n.1 (widened extremes a.part) (h.0, a.made))

    union_up : (vs : List (List Field)) → Each (Each (λ f. NoGeneric f.type)) vs → HasSize (union_size L r vs) → AllSized (variants_parts vs)
    unfolding union_size variants_parts
    union_up [] n h = none_sized
    union_up (v ∷ vs) n h = variants_up (v ∷ vs) n (Bounded mark 0) (then_up (add_variants L r (Bounded mark 0) (v ∷ vs)) (λ s. limited_sum (raised 8 s)) h)

    pub content_up : (c : Content) → EachType NoGeneric c → HasSize (content_size L none r r c) → AllSized (content_parts c)
    unfolding content_size content_parts
    content_up (fields fs) n h = fields_up fs n (Fixed 0) h
    content_up (variants vs) n h = union_up vs n h
    content_up (bits b) n h = none_sized
    content_up (terminal t) n h = type_up t n h
    content_up anything n h = none_sized

-- ## What is reached has a size

module _ (L : Layout) (S : Schema) (plain : EveryType NoGeneric S) where
  pub part_sized : (i j : ℕ) → NothingLeadsBack S i → HasSize (plain_size L S i) → Memᴰ j (parts_of S i) → HasSize (plain_size L S j)
  part_sized i j free h m = content_up (plain_size L S) L (content_of S i) (plain i) (h.0, sym (plain_obeys L S i free) ∙ h.1) j m

  led_sized : {i j : ℕ} → NothingLeadsBack S i → HasSize (plain_size L S i) → LeadsTo S i j → HasSize (plain_size L S j)
  led_sized free h (at_once m) = part_sized _ _ free h m
  led_sized {i} free h (by_way_of {j = k} m r) = led_sized (no_loop_part (parts_of S) i k m free) (part_sized i k free h m) r

  made_sized : (d i : ℕ) → NothingLeadsBack S d → HasSize (plain_size L S d) → MadeOf S d i → HasSize (plain_size L S i)
  made_sized d i free h (itself e) = subst (λ (x : ℕ). HasSize (plain_size L S x)) e h
  made_sized d i free h (reached r) = led_sized free h r

  pub reached_sized : leading_back S ≡ Lowest.Nowhere → BringsNone S → (st : State) → check_sizes L S ≡ accepted st →
      (i : ℕ) → is_reached S i ≡ true → (z : Size) × (plain_size L S i ≡ Sized z)
  reached_sized back brings st q i h =
      let (d, p, f) = (reached_iff S i).0 h in
      let free = nothing_back S back d p in
      let (s, w, e) = at_last L S d (last_turn L S st q d p) st q p.sizable in
      made_sized d i free (s, all_plain L S st q brings d s e free) f
