-- Sizes know of a limit only where it bears on elements, and of a list of ordinals or bits the highest alone: a change that keeps
-- these changes no width, no size and no table. Moving the retired ones to the live ones is such a change, and so is leaving out
-- limits that bear on nothing. Assumes nothing.
use Prim.Native.Nat.{ℕ, zero, suc, ◌*◌, max}
use Rattle.std.specs.Prelude.{◌≡◌, cond}
use Rattle.std.proofs.Math.Path.{refl, ap, ap₂, fun_ext}
use Rattle.std.proofs.Common.{sym, ◌∙◌, arith}
use mathlib.Core.List.{List, [], ◌∷◌, ◌++◌, map}
use Rattle.std.proofs.Math.Option.{none, some}
use Rattle.std.proofs.lemmas.List.{length-map}
use Rattle.slot.specs.Field.{Field}
use Rattle.slot.specs.Slot.{Slot, empty, message, Ordinals, Enum, enum, Flags, flags, union, newtype, config, alias, trait, impl}
use Rattle.image.specs.Schema.{Schema, slot_of}
use Rattle.image.specs.Changed.{Change, field_changed, fields_changed, enum_changed, flags_changed, slot_changed, changed, slot_changed_lem, bare, joined, moved, moved_bare}
use Rattle.tree.specs.Tree.{leaf, wrap, primitive, array}
use Rattle.tree.specs.Encoding.{default}
use Rattle.number.specs.Shortest.{groups_within, groups_of}
use Rattle.sizes.specs.Elements.{limited_element}
use Rattle.sizes.specs.Widths.{highest, top_of, ordinal_bits, enum_bits, flags_bytes, enum_bits_at, flags_bytes_at}
use Rattle.sizes.specs.Sizes.{Layout, laid, Size, Bounded, Open, Worked, Sized, limited, limited_sum, then, Resolver, widened, raised, primitive_bits, leaf_size, wrap_size, type_size, encoded_size, element_size, elements_size, field_size, added, add_fields, mark, add_variants, union_size}
use Rattle.sizes.specs.Changed.{KeepsTops, Each, EachField, Unlimited, SizeKept, Keeps}
use Rattle.sizes.proofs.Limits.{by_limit, alone_unlimited}
use Rattle.sizes.specs.Names.{Content, fields, variants, bits, terminal, anything, content_in, content_of, State, nothing, Working, inserted, or_else, content_size, name_rule, name_within, name_size}
use Rattle.sizes.specs.Check.{brought_in, brought, body_size, own_size, storing, turn, onward, turns, check_sizes, row, slot_row, rows_from, table_of}

-- ## The highest of a list

-- one list behind another
highest_behind : (start : ℕ) (ns ms : List ℕ) → highest start (ns ++ ms) ≡ highest (highest start ns) ms
unfolding highest
highest_behind start [] ms = refl
highest_behind start (n ∷ ns) ms = highest_behind (max start n) ns ms

-- retired ones that are moved behind the live ones count as before
pub top_moved : (o : Ordinals) → top_of (joined o) ≡ top_of o
unfolding top_of highest
top_moved o = highest_behind 0 o.live o.retired

-- where none is retired, the live ones count alone
pub top_live : (o : Ordinals) → o.retired ≡ [] → top_of o ≡ highest 0 o.live
unfolding top_of highest
top_live o e = rw e

-- leaving the retired ones out is none: alone, 256 has 9 bits
pub not_bare : ¬ KeepsTops bare
unfolding top_of highest
not_bare keeps = omega (arith, keeps (record { live = []; retired = 256 ∷ [] }))

-- ## Limits

-- a limit that bears on nothing may be left out
pub unlimited_kept : (f : Field) → limited_element f ≡ none → SizeKept moved_bare f
unlimited_kept f e r = alone_unlimited (field_changed moved_bare f) r (by_limit (field_changed moved_bare f) refl) ∙ sym (alone_unlimited f r e)

-- one that bears on elements may not: with limit 1 an array of U8 has 8..16, else from 8
abbrev bytes : Field
bytes = record { field_name = 0; encoding = default; type = wrap array (leaf (primitive 1)); limit = 1 }

pub not_left_out : ¬ SizeKept moved_bare bytes
unfolding limited_element elements_size element_size encoded_size type_size leaf_size wrap_size primitive_bits then limited groups_of groups_within
not_left_out keeps = let e : Sized (Open 8) ≡ Sized (Bounded 8 16) = keeps (λ i. Sized (Open 0)) in let z : ◌≡◌ {A = ℕ} 0 1 = cc in omega arith

-- from a property to another, list by list and field by field
each_map : {A : Type 0} {P Q : A → Type 0} → ((x : A) → P x → Q x) → (xs : List A) → Each P xs → Each Q xs
each_map f [] h = tt
each_map f (x ∷ xs) (h, hs) = (f x h, each_map f xs hs)

field_map : {P Q : Field → Type 0} → ((f : Field) → P f → Q f) → (c : Content) → EachField P c → EachField Q c
field_map g (fields fs) h = each_map g fs h
field_map g (variants vs) h = each_map (each_map g) vs h
field_map g (bits b) h = tt
field_map g (terminal t) h = tt
field_map g anything h = tt

-- what holds of all holds of each
each_of : {A : Type 0} {P : A → Type 0} → ((x : A) → P x) → (xs : List A) → Each P xs
each_of f [] = tt
each_of f (x ∷ xs) = (f x, each_of f xs)

field_of : {P : Field → Type 0} → ((f : Field) → P f) → (c : Content) → EachField P c
field_of g (fields fs) = each_of g fs
field_of g (variants vs) = each_of (each_of g) vs
field_of g (bits b) = tt
field_of g (terminal t) = tt
field_of g anything = tt

-- ## Fields

module _ (c : Change) (L : Layout) (r : Resolver) where
  add_changed : (fs : List Field) → Each (SizeKept c) fs → (total : Size) → add_fields L r total (fields_changed c fs) ≡ add_fields L r total fs
  unfolding add_fields field_size
  add_changed [] h total = refl
  add_changed (f ∷ fs) (h, hs) total =
      ap₂ (λ (w : Worked) (k : Size → Worked). then (then w (laid L)) (λ s. then (limited_sum (added total s)) k)) (h r) (fun_ext (add_changed fs hs))

  variants_changed : (vs : List (List Field)) → Each (Each (SizeKept c)) vs → (extremes : Size) → add_variants L r extremes (map (fields_changed c) vs) ≡ add_variants L r extremes vs
  unfolding add_variants
  variants_changed [] h extremes = refl
  variants_changed (v ∷ vs) (h, hs) extremes = ap₂ then (add_changed v h _) (fun_ext (λ s. variants_changed vs hs (widened extremes s)))

  union_changed : (vs : List (List Field)) → Each (Each (SizeKept c)) vs → union_size L r (map (fields_changed c) vs) ≡ union_size L r vs
  unfolding union_size
  union_changed [] h = refl
  union_changed (v ∷ vs) h = ap (λ (w : Worked). then w (λ s. limited_sum (raised 8 s))) (variants_changed (v ∷ vs) h (Bounded mark 0))

-- ## What the image brings

module _ (c : Change) (S : Schema) where
  pub brings_changed : brought (changed c S) ≡ brought S
  unfolding brought slot_changed
  brings_changed = fun_ext (λ i. ap brought_in (slot_changed_lem c S i) ∙ by_kind (slot_of S i))
    where
      by_kind : (x : Slot) → brought_in (slot_changed c x) ≡ brought_in x
      by_kind empty = refl
      by_kind (message m) = refl
      by_kind (enum e) = refl
      by_kind (flags f) = refl
      by_kind (union u) = refl
      by_kind (newtype n) = refl
      by_kind config = refl
      by_kind (alias a) = refl
      by_kind (trait t) = refl
      by_kind (impl m) = refl

module _ (c : Change) (S : Schema) (keeps : Keeps c S) where
  -- ## Widths

  pub bits_changed : (i : ℕ) (e : Enum) → enum_bits_at (changed c S) i (enum_changed c e) ≡ enum_bits_at S i e
  unfolding enum_bits_at enum_bits ordinal_bits changed
  bits_changed i e = rw (keeps.tops e.ordinals)

  pub bytes_changed : (i : ℕ) (f : Flags) → flags_bytes_at (changed c S) i (flags_changed c f) ≡ flags_bytes_at S i f
  unfolding flags_bytes_at flags_bytes changed
  bytes_changed i f = rw (keeps.tops f.bits)

  -- ## Names

  -- what goes by the sizes of fields is the same of a slot's content
  content_changed : {A : Type 0} (k : Content → A) → ((fs : List Field) → Each (SizeKept c) fs → k (fields (fields_changed c fs)) ≡ k (fields fs))
      → ((vs : List (List Field)) → Each (Each (SizeKept c)) vs → k (variants (map (fields_changed c) vs)) ≡ k (variants vs))
      → (i : ℕ) → k (content_of (changed c S) i) ≡ k (content_of S i)
  unfolding content_of content_in slot_changed changed
  content_changed k fs vs i = ap (λ (x : Slot). k (content_in (changed c S) i x)) (slot_changed_lem c S i) ∙ by_kind (slot_of S i) (keeps.sizes i)
    where
      by_kind : (x : Slot) → EachField (SizeKept c) (content_in S i x) → k (content_in (changed c S) i (slot_changed c x)) ≡ k (content_in S i x)
      by_kind empty h = refl
      by_kind (message m) h = fs m.fields h
      by_kind (enum e) h = ap (λ (w : ℕ). k (bits w)) (bits_changed i e)
      by_kind (flags f) h = ap (λ (w : ℕ). k (bits (8 * w))) (bytes_changed i f)
      by_kind (union u) h = vs u.variants h
      by_kind (newtype n) h = refl
      by_kind config h = refl
      by_kind (alias a) h = refl
      by_kind (trait t) h = refl
      by_kind (impl m) h = refl

  module _ (L : Layout) (st : State) where
    rule_changed : (names : Working → Resolver) (working : Working) (i : ℕ) → name_rule L (changed c S) st names working i ≡ name_rule L S st names working i
    unfolding name_rule content_size
    rule_changed names working i =
        let inside = names (inserted i working) in
        ap (cond (working i) _)
        (content_changed (content_size L (st i) (names working) inside)
        (λ fs h. ap (or_else (st i)) (add_changed c L inside fs h _)) (λ vs h. ap (or_else (st i)) (union_changed c L inside vs h)) i)

    within_changed : (k : ℕ) (working : Working) (i : ℕ) → name_within L (changed c S) st k working i ≡ name_within L S st k working i
    unfolding name_within
    within_changed zero working i = refl
    within_changed (suc k) working i =
        rule_changed (name_within L (changed c S) st k) working i
        ∙ ap (λ (names : Working → Resolver). name_rule L S st names working i) (fun_ext (λ w. fun_ext (within_changed k w)))

    name_changed : (working : Working) → name_size L (changed c S) st working ≡ name_size L S st working
    unfolding name_size changed
    name_changed working = fun_ext (λ i. rw (length-map S.slots (slot_changed c)) (within_changed _ working i))

    -- ## Turns

    own_changed : (i : ℕ) → own_size L (changed c S) st i ≡ own_size L S st i
    unfolding own_size body_size
    own_changed i =
        let r = name_size L S st (inserted i nothing) in
        rw (name_changed (inserted i nothing))
        (content_changed (body_size L r) (λ fs h. ap some (add_changed c L r fs h _)) (λ vs h. ap some (union_changed c L r vs h)) i)

    turn_changed : (i : ℕ) → turn L (changed c S) st i ≡ turn L S st i
    unfolding turn
    turn_changed i = ap (storing st i) (own_changed i)

  turns_changed : (L : Layout) (is : List ℕ) (st : State) → turns L (changed c S) st is ≡ turns L S st is
  unfolding turns
  turns_changed L [] st = refl
  turns_changed L (i ∷ is) st = ap₂ onward (turn_changed L st i) (fun_ext (turns_changed L is))

  pub sizes_changed : (L : Layout) → check_sizes L (changed c S) ≡ check_sizes L S
  unfolding check_sizes changed
  sizes_changed L = turns_changed L S.declared (brought (changed c S)) ∙ ap (λ (st : State). turns L S st S.declared) (brings_changed c S)

  -- ## The size table

  module _ (st : State) where
    row_changed : (i : ℕ) (x : Slot) → slot_row (changed c S) st i (slot_changed c x) ≡ slot_row S st i x
    unfolding slot_row slot_changed
    row_changed i empty = refl
    row_changed i (message m) = refl
    row_changed i (enum e) = ap (λ (w : ℕ). row 4 w 0) (bits_changed i e)
    row_changed i (flags f) = ap (λ (w : ℕ). row 5 w 0) (bytes_changed i f)
    row_changed i (union u) = refl
    row_changed i (newtype n) = refl
    row_changed i config = refl
    row_changed i (alias a) = refl
    row_changed i (trait t) = refl
    row_changed i (impl m) = refl

    rows_changed : (i : ℕ) (xs : List Slot) → rows_from (changed c S) st i (map (slot_changed c) xs) ≡ rows_from S st i xs
    unfolding rows_from
    rows_changed i [] = refl
    rows_changed i (x ∷ xs) = ap₂ ◌++◌ (row_changed i x) (rows_changed (suc i) xs)

    pub table_changed : table_of (changed c S) st ≡ table_of S st
    unfolding table_of changed
    table_changed = rows_changed 0 S.slots

-- ## Retired ones moved to the live ones

module _ (S : Schema) where
  -- limits are as they were
  pub moved_keeps : Keeps moved S
  moved_keeps = record { tops = top_moved; sizes = λ i. field_of (λ f r. refl) (content_of S i) }

  -- they may be left out where none bears on elements
  pub bare_keeps : Unlimited S → Keeps moved_bare S
  bare_keeps h = record { tops = top_moved; sizes = λ i. field_map unlimited_kept (content_of S i) (h i) }

  pub sizes_moved : (L : Layout) → check_sizes L (changed moved S) ≡ check_sizes L S
  sizes_moved = sizes_changed moved S moved_keeps

  -- widths and sizes of all slots
  pub table_moved : (st : State) → table_of (changed moved S) st ≡ table_of S st
  table_moved = table_changed moved S moved_keeps
