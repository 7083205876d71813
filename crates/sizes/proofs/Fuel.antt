-- Sizes depend on what the names in their parts come to, and on nothing else. So, where no newtype leads back to itself,
-- `name_size` obeys the rule for names, and nothing else does.
use Rattle.std.specs.Prelude.{◌≡◌, Bool, length, get_or, set}
use Rattle.std.proofs.Math.Path.{refl, sym, ap, ap₂, fun_ext}
use Rattle.std.proofs.Common.{◌∙◌, get_or-set_same, get_or-set_other, eq-eqb, ne_eqb}
use Prim.Native.Nat.{ℕ, zero, suc, ◌+◌, ◌*◌, ◌<◌}
use native.Mathlib.Omega.{arith}
use Rattle.std.proofs.Math.Nat.{mul-le-mul_right}
use Rattle.std.proofs.Math.Decide.{ℕ_discrete}
use Rattle.std.proofs.Math.Bool.{true, false, cond}
use mathlib.Core.List.Memᴰ
use mathlib.Core.List.{List, [], ◌∷◌, Memᴰ}
use Rattle.std.proofs.Math.Option.{Option, none, some}
use Rattle.std.proofs.Math.Logic.{by_cases}
use Rattle.tree.specs.Tree.{Tree, Leaf, leaf, wrap, fixed_array, pair, generic, primitive, sub_byte, semantic, named, bits_inline, qualified, map_of, result_of}
use Rattle.tree.specs.Encoding.{Encoding, default, varint, zig_zag, delta}
use Rattle.slot.specs.Field.{Field}
use Rattle.image.specs.Schema.{Schema}
use Rattle.sizes.specs.Elements.{Count, at_most_one, any_number, exactly, count_of, Element, item, entry, limited_element}
use Rattle.sizes.specs.Sizes.{Layout, laid, Size, Fixed, Bounded, Open, Worked, Sized, limited_sum, then, Resolver, leaf_size, widened, wrap_size, type_size, encoded_size, element_size, elements_size, field_size, added, add_fields, mark, add_variants, union_size}
use Rattle.sizes.specs.Names.{Content, fields, variants, bits, terminal, anything, content_of, State, Working, inserted, or_else, content_size, name_rule, name_within, enough, name_size, GoesByRule, NamesObey}
use Rattle.sizes.specs.Check.{body_size}
use Rattle.sizes.specs.Lengths.{wrap_parts, type_parts, encoded_parts, element_parts, own_parts, field_parts, fields_parts, variants_parts, content_parts, terminal_parts, terminals_of, NewtypesEnd}
use Rattle.sizes.proofs.Rank.{unmarked_below, unmarked_all, unmarked_fresh, part_below, terminal_rank, terminal_rank_lem, terminal_rank_bound}

-- ## Two resolvers that agree on the parts of a thing give it one size

abbrev pub Agree : (r r' : Resolver) → List ℕ → Type 0
Agree r r' js = (j : ℕ) → Memᴰ j js → r j ≡ r' j

module _ (r r' : Resolver) where
  leaf_agree : (l : Leaf) → Agree r r' (type_parts (leaf l)) → leaf_size r l ≡ leaf_size r' l
  unfolding leaf_size type_parts
  leaf_agree (primitive p) h = refl
  leaf_agree (sub_byte g b) h = refl
  leaf_agree (semantic m) h = refl
  leaf_agree (named i) h = h i (Memᴰ.head refl)
  leaf_agree (bits_inline ns) h = refl
  leaf_agree (qualified n) h = refl

  wrap_agree : (c : Count) (w w' : Worked) (js : List ℕ) → (Agree r r' js → w ≡ w') → Agree r r' (wrap_parts c js) →
      wrap_size c w ≡ wrap_size c w'
  unfolding wrap_size
  wrap_agree at_most_one w w' js e h = rw (e h)
  wrap_agree any_number w w' js e h = refl
  wrap_agree (exactly k) w w' js e h = rw (e h)

  type_agree : (t : Tree) → Agree r r' (type_parts t) → type_size r t ≡ type_size r' t
  unfolding type_size type_parts
  type_agree (leaf l) h = leaf_agree l h
  type_agree (wrap w t) h = wrap_agree (count_of w) (type_size r t) (type_size r' t) (type_parts t) (type_agree t) h
  type_agree (fixed_array t k) h = rw (type_agree t h)
  type_agree (pair map_of t u) h = refl
  type_agree (pair result_of t u) h =
      let a = type_agree t (λ j p. h j (Memᴰ.append_left (type_parts u) p)) in
      let b = type_agree u (λ j p. h j (Memᴰ.append_right (type_parts t) p)) in
      rw (a, b)
  type_agree (generic n t) h = refl

  encoded_agree : (e : Encoding) (t : Tree) → Agree r r' (encoded_parts e t) → encoded_size r e t ≡ encoded_size r' e t
  unfolding encoded_size encoded_parts
  encoded_agree default t h = type_agree t h
  encoded_agree varint t h = refl
  encoded_agree zig_zag t h = refl
  encoded_agree (delta e) t h = encoded_agree e t h

  element_agree : (e : Element) → Agree r r' (element_parts e) → element_size r e ≡ element_size r' e
  unfolding element_size element_parts
  element_agree (item t) h = type_agree t h
  element_agree (entry t u) h =
      let a = type_agree t (λ j p. h j (Memᴰ.append_left (type_parts u) p)) in
      let b = type_agree u (λ j p. h j (Memᴰ.append_right (type_parts t) p)) in
      rw (a, b)

  own_agree : (n : ℕ) (o : Option Element) (w w' : Worked) (js : List ℕ) → (Agree r r' js → w ≡ w') → Agree r r' (own_parts o js) →
      elements_size r n o w ≡ elements_size r' n o w'
  unfolding elements_size own_parts
  own_agree n none w w' js e h = e h
  own_agree n (some x) w w' js e h = rw (element_agree x h)

  module _ (L : Layout) where
    fields_agree : (fs : List Field) → Agree r r' (fields_parts fs) → (total : Size) →
        add_fields L r total fs ≡ add_fields L r' total fs
    unfolding add_fields field_size fields_parts
    fields_agree [] h total = refl
    fields_agree (f ∷ fs) h total =
        ap₂ (λ (x : Worked) (y : Size → Worked). then (then x (laid L)) (λ s. then (limited_sum (added total s)) y))
        (own_agree f.limit (limited_element f) _ _ _ (encoded_agree f.encoding f.type) (λ j p. h j (Memᴰ.append_left (fields_parts fs) p)))
        (fun_ext (fields_agree fs (λ j p. h j (Memᴰ.append_right (field_parts f) p))))

    variants_agree : (vs : List (List Field)) → Agree r r' (variants_parts vs) → (extremes : Size) →
        add_variants L r extremes vs ≡ add_variants L r' extremes vs
    unfolding add_variants variants_parts
    variants_agree [] h extremes = refl
    variants_agree (v ∷ vs) h extremes =
        ap₂ then (fields_agree v (λ j p. h j (Memᴰ.append_left (variants_parts vs) p)) (Fixed 0))
        (fun_ext (λ s. variants_agree vs (λ j p. h j (Memᴰ.append_right (fields_parts v) p)) (widened extremes s)))

    union_agree : (vs : List (List Field)) → Agree r r' (variants_parts vs) → union_size L r vs ≡ union_size L r' vs
    unfolding union_size
    union_agree [] h = refl
    union_agree (v ∷ vs) h = rw (variants_agree (v ∷ vs) h (Bounded mark 0))

    pub body_agree : (c : Content) → Agree r r' (content_parts c) → body_size L r c ≡ body_size L r' c
    unfolding body_size content_parts
    body_agree (fields fs) h = ap some (fields_agree fs h (Fixed 0))
    body_agree (variants vs) h = ap some (union_agree vs h)
    body_agree (bits b) h = refl
    body_agree (terminal t) h = refl
    body_agree anything h = refl

-- the parts of a message or union are met inside it, those of a newtype beside it
pub content_agree : (L : Layout) (stored : Option Size) (beside beside' inside inside' : Resolver) (c : Content) →
    Agree beside beside' (terminal_parts c) → Agree inside inside' (content_parts c) →
    content_size L stored beside inside c ≡ content_size L stored beside' inside' c
unfolding content_size terminal_parts content_parts
content_agree L stored b b' i i' (fields fs) h h' = ap (or_else stored) (fields_agree i i' L fs h' (Fixed 0))
content_agree L stored b b' i i' (variants vs) h h' = ap (or_else stored) (union_agree i i' L vs h')
content_agree L stored b b' i i' (bits k) h h' = refl
content_agree L stored b b' i i' (terminal t) h h' = type_agree b b' t h
content_agree L stored b b' i i' anything h h' = refl

-- ## The rule for names

module _ (L : Layout) (S : Schema) (st : State) where
  abbrev count : ℕ
  count = length S.slots

  -- what is left to do: the slots that are not being worked out, and then the newtypes that follow
  unfoldable left : Working → ℕ → ℕ
  left w i = unmarked_below count w * suc (suc count) + terminal_rank S i

  left_inside : (w : Working) (i j : ℕ) → i < count → w i ≡ false → left (inserted i w) j < left w i
  unfolding left
  left_inside w i j h e =
      let a = mul-le-mul_right (suc (suc count)) (unmarked_fresh count i w h e) in
      let b = terminal_rank_bound S j in
      omega arith

  left_enough : (w : Working) (i : ℕ) → left w i < enough S
  unfolding left
  left_enough w i =
      let a = mul-le-mul_right (suc (suc count)) (unmarked_all count w) in
      let b = terminal_rank_bound S i in
      omega arith

  -- what goes by the rule for names, and by what goes by it, and so on
  abbrev Obeys : (ℕ → Working → Resolver) → Type 0
  Obeys X = (k : ℕ) (w : Working) (i : ℕ) → X (suc k) w i ≡ name_rule L S st (X k) w i

  within_obeys : Obeys (name_within L S st)
  unfolding name_within
  within_obeys k w i = refl

  module _ (ends : NewtypesEnd S) where
    left_beside : (w : Working) (i j : ℕ) → Memᴰ j (terminals_of S i) → left w j < left w i
    unfolding left
    left_beside w i j p = let a = terminal_rank_lem S ends i j p in omega arith

    agree : (X Y : ℕ → Working → Resolver) → Obeys X → Obeys Y → (f g : ℕ) (w : Working) (i : ℕ) → left w i < f →
        left w i < g → X f w i ≡ Y g w i
    unfolding name_rule
    agree X Y x y zero g w i lf lg = absurd (omega arith)
    agree X Y x y (suc f) zero w i lf lg = absurd (omega arith)
    agree X Y x y (suc f) (suc g) w i lf lg =
        x f w i ∙ go (w i) refl (λ w' j h. agree X Y x y f g w' j (omega arith) (omega arith)) ∙ sym (y g w i)
      where
        go : (b : Bool) → w i ≡ b → ((w' : Working) (j : ℕ) → left w' j < left w i → X f w' j ≡ Y g w' j) →
            cond b (Sized (Open 0)) (content_size L (st i) (X f w) (X f (inserted i w)) (content_of S i))
            ≡ cond b (Sized (Open 0)) (content_size L (st i) (Y g w) (Y g (inserted i w)) (content_of S i))
        go true e less = refl
        go false e less = content_agree L (st i) (X f w) (Y g w) (X f (inserted i w)) (Y g (inserted i w)) (content_of S i)
            (λ j p. less w j (left_beside w i j p)) (λ j p. less (inserted i w) j (left_inside w i j (part_below S i j p) e))

    pub name_obeys : GoesByRule L S st (name_size L S st)
    unfolding name_size name_within
    name_obeys w i = let h = left_enough w i in
        agree (name_within L S st) (name_within L S st) within_obeys within_obeys (enough S) (suc (enough S)) w i h (omega arith)

    -- nothing else obeys it
    pub name_only : (name : Working → Resolver) → GoesByRule L S st name → (w : Working) (i : ℕ) → name w i ≡ name_size L S st w i
    unfolding name_size
    name_only name obeys w i = let h = left_enough w i in
        agree (λ k. name) (name_within L S st) (λ k. obeys) within_obeys (enough S) (enough S) w i h h

  -- what is being worked out is a set
  pub name_same : (w w' : Working) → ((x : ℕ) → w x ≡ w' x) → (i : ℕ) → name_size L S st w i ≡ name_size L S st w' i
  name_same w w' same i = ap (λ (x : Working). name_size L S st x i) (fun_ext same)

pub names_obey : (L : Layout) (S : Schema) → NewtypesEnd S → NamesObey L S
names_obey L S ends = record { obey = λ st. name_obeys L S st ends; alone = λ st. name_only L S st ends }

-- the set as a list of marks
pub inserted_is : (marks : List Bool) (i j : ℕ) → i < length marks →
    get_or (set marks i true) j false ≡ inserted i (λ x. get_or marks x false) j
inserted_is marks i j h = by_cases (ℕ_discrete j i)
    (λ e. rw (e, eq-eqb i i refl, get_or-set_same marks i true false h))
    (λ d. rw (ne_eqb j i d, get_or-set_other marks i j true false d))
