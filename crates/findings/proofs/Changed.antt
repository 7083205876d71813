-- Limits, ordinals and bits play no part in findings: whatever they are changed to, findings stay. Assumes nothing.
use Prim.Native.Nat.{ℕ, zero, suc}
use mathlib.Core.Path.{◌≡◌, refl, ap, ap₂, fun_ext, ◌∙◌}
use mathlib.Core.Bool.{Bool, true, false, cond}
use mathlib.Core.List.{List, [], ◌∷◌, ◌++◌, map}
use lib.ListN.{get_or, replicate}
use Rattle.tree.specs.Tree.{Tree, Leaf, leaf, primitive, sub_byte, semantic, named, bits_inline, qualified, wrap, fixed_array, pair, generic}
use Rattle.slot.specs.Field.{Field}
use Rattle.slot.specs.Slot.{Slot, empty, Message, message, enum, flags, union, newtype, config, Alias, alias, Trait, TraitField, trait, Impl, impl}
use Rattle.image.specs.Schema.{Schema, slot_of}
use Rattle.image.specs.Changed.{Change, fields_changed, slot_changed, changed, slot_changed_lem}
use Rattle.findings.specs.Finding.{finding}
use Rattle.findings.specs.Endless.{counted, Walk, entered, left, walk_type, walk_fields, walk_variants, walk_slot, walk_name, start, endless_in, endless_at, endless_of}
use Rattle.findings.specs.Meaning.{resolved, value_of, id_or, leaf_meant, substitute, slot_found, through_alias, applied, meaning_of}
use Rattle.findings.specs.Conformance.{is_field, has_field, lacking, on_target, on_value, conforming, on_trait, impl_findings, conformance_of}
use Rattle.findings.specs.Findings.{findings_of}
use Rattle.findings.specs.declared.RecursionState.{RecursionState}
use Rattle.findings.specs.declared.Value.{Value}
use Rattle.findings.specs.declared.Value.TheVariants.{Id, NotName}

module _ (c : Change) where
  -- ## Fields and slots

  fields_walk : (name : Walk) (d : Bool) (fs : List Field) (st : RecursionState) → walk_fields name d (fields_changed c fs) st ≡ walk_fields name d fs st
  unfolding walk_fields
  fields_walk name d [] st = refl
  fields_walk name d (f ∷ fs) st = fields_walk name d fs (walk_type name d f.type st)

  variants_walk : (name : Walk) (vs : List (List Field)) (st : RecursionState) → walk_variants name (map (fields_changed c) vs) st ≡ walk_variants name vs st
  unfolding walk_variants
  variants_walk name [] st = refl
  variants_walk name (v ∷ vs) st = ap (walk_variants name (map (fields_changed c) vs)) (fields_walk name false v st) ∙ variants_walk name vs (walk_fields name false v st)

  slot_walk : (name : Walk) (i : ℕ) (d : Bool) (x : Slot) (st : RecursionState) → walk_slot name i d (slot_changed c x) st ≡ walk_slot name i d x st
  unfolding walk_slot slot_changed
  slot_walk name i d (message m) st = ap (left i d) (fields_walk name d m.fields (entered i d st))
  slot_walk name i d (union u) st = variants_walk name u.variants (entered i false st)
  slot_walk name i d (newtype n) st = refl
  slot_walk name i d empty st = refl
  slot_walk name i d (enum e) st = refl
  slot_walk name i d (flags f) st = refl
  slot_walk name i d config st = refl
  slot_walk name i d (alias a) st = refl
  slot_walk name i d (trait t) st = refl
  slot_walk name i d (impl x) st = refl

  has_changed : (fs : List Field) (name : ℕ) (x : Tree) → has_field (fields_changed c fs) name x ≡ has_field fs name x
  unfolding has_field is_field
  has_changed [] name x = refl
  has_changed (f ∷ fs) name x = ap (cond (is_field f name x) true) (has_changed fs name x)

  alias_changed : (x : Slot) (f : Alias → ℕ) → through_alias (slot_changed c x) f ≡ through_alias x f
  unfolding slot_changed
  alias_changed (alias a) f = refl
  alias_changed empty f = refl
  alias_changed (message m) f = refl
  alias_changed (enum e) f = refl
  alias_changed (flags g) f = refl
  alias_changed (union u) f = refl
  alias_changed (newtype n) f = refl
  alias_changed config f = refl
  alias_changed (trait t) f = refl
  alias_changed (impl x) f = refl

  module _ (S : Schema) where
    -- ## Endless types

    walk_changed : (n i : ℕ) (d : Bool) (st : RecursionState) → walk_name (changed c S) n i d st ≡ walk_name S n i d st
    unfolding walk_name
    walk_changed zero i d st = refl
    walk_changed (suc n) i d st =
        ap (λ (r : RecursionState). cond (get_or st.path i false) (cond d (counted st) st) (cond (get_or st.visited i false) st r))
        (ap (λ (x : Slot). walk_slot (walk_name (changed c S) n) i d x st) (slot_changed_lem c S i)
        ∙ slot_walk (walk_name (changed c S) n) i d (slot_of S i) st
        ∙ ap (λ (name : Walk). walk_slot name i d (slot_of S i) st) (fun_ext (λ j. fun_ext (λ e. fun_ext (walk_changed n j e)))))

    endless_in_lem : (i : ℕ) (fs : List Field) → endless_in (changed c S) i (fields_changed c fs) ≡ endless_in S i fs
    unfolding endless_in
    endless_in_lem i fs =
        ap (λ (st : RecursionState). st.count)
        (fields_walk (walk_name (changed c S) 513) true fs (start i)
        ∙ ap (λ (name : Walk). walk_fields name true fs (start i)) (fun_ext (λ j. fun_ext (λ e. fun_ext (walk_changed 513 j e)))))

    endless_at_lem : (i : ℕ) (x : Slot) → endless_at (changed c S) i (slot_changed c x) ≡ endless_at S i x
    unfolding slot_changed
    endless_at_lem i (message m) = ap (λ (n : ℕ). replicate n (finding 1 i m.span 0 0)) (endless_in_lem i m.fields)
    endless_at_lem i empty = refl
    endless_at_lem i (enum e) = refl
    endless_at_lem i (flags f) = refl
    endless_at_lem i (union u) = refl
    endless_at_lem i (newtype n) = refl
    endless_at_lem i config = refl
    endless_at_lem i (alias a) = refl
    endless_at_lem i (trait t) = refl
    endless_at_lem i (impl x) = refl

    endless_changed : (is : List ℕ) → endless_of (changed c S) is ≡ endless_of S is
    unfolding endless_of
    endless_changed [] = refl
    endless_changed (i ∷ is) = ap₂ ◌++◌ (ap (endless_at (changed c S) i) (slot_changed_lem c S i) ∙ endless_at_lem i (slot_of S i)) (endless_changed is)

    -- ## What an expression means

    leaf_changed : (ps : List ℕ) (ts : List Tree) (l : Leaf) → leaf_meant (changed c S) ps ts l ≡ leaf_meant S ps ts l
    unfolding leaf_meant resolved changed
    leaf_changed ps ts (primitive p) = refl
    leaf_changed ps ts (sub_byte g b) = refl
    leaf_changed ps ts (semantic m) = refl
    leaf_changed ps ts (named n) = refl
    leaf_changed ps ts (bits_inline ns) = refl
    leaf_changed ps ts (qualified n) = refl

    substitute_changed : (apply : ℕ → Tree → ℕ) (ps : List ℕ) (ts : List Tree) (e : Tree) → substitute (changed c S) apply ps ts e ≡ substitute S apply ps ts e
    unfolding substitute
    substitute_changed apply ps ts (leaf l) = leaf_changed ps ts l
    substitute_changed apply ps ts (wrap w e) = ap (wrap w) (substitute_changed apply ps ts e)
    substitute_changed apply ps ts (fixed_array e n) = ap (λ (t : Tree). fixed_array t n) (substitute_changed apply ps ts e)
    substitute_changed apply ps ts (pair p e f) = ap₂ (pair p) (substitute_changed apply ps ts e) (substitute_changed apply ps ts f)
    substitute_changed apply ps ts (generic n e) = ap (λ (t : Tree). leaf (named (apply n t))) (substitute_changed apply ps ts e)

    found_changed : (n : ℕ) → slot_found (changed c S) n ≡ slot_changed c (slot_found S n)
    unfolding slot_changed
    found_changed zero = refl
    found_changed (suc i) = slot_changed_lem c S i

    applied_changed : (chain name : ℕ) (t : Tree) → applied (changed c S) chain name t ≡ applied S chain name t
    unfolding applied changed
    applied_changed zero n t = refl
    applied_changed (suc chain) n t =
        let found = slot_found S (get_or S.finds n 0) in
        let then : (ℕ → Tree → ℕ) → Alias → ℕ = λ apply a. id_or (value_of (substitute S apply a.parameters (t ∷ []) a.target)) in
        ap₂ through_alias (found_changed (get_or S.finds n 0))
        (fun_ext (λ a. ap (λ (e : Tree). id_or (value_of e)) (substitute_changed (applied (changed c S) chain) a.parameters (t ∷ []) a.target)))
        ∙ alias_changed found (then (applied (changed c S) chain))
        ∙ ap (λ (apply : ℕ → Tree → ℕ). through_alias found (then apply)) (fun_ext (λ m. fun_ext (applied_changed chain m)))

    meaning_changed : (ps : List ℕ) (ts : List Tree) (e : Tree) → meaning_of (changed c S) ps ts e ≡ meaning_of S ps ts e
    unfolding meaning_of
    meaning_changed ps ts e =
        substitute_changed (applied (changed c S) 512) ps ts e
        ∙ ap (λ (apply : ℕ → Tree → ℕ). substitute S apply ps ts e) (fun_ext (λ n. fun_ext (applied_changed 512 n)))

    -- ## Trait fields

    module _ (i : ℕ) (x : Impl) where
      lacking_changed : (ps : List ℕ) (m : Message) (k : ℕ) (fs : List TraitField)
          → lacking (changed c S) i x ps (record { span = m.span; stored = m.stored; fields = fields_changed c m.fields }) k fs ≡ lacking S i x ps m k fs
      unfolding lacking
      lacking_changed ps m k [] = refl
      lacking_changed ps m k (f ∷ fs) =
          rw (meaning_changed ps x.arguments f.type, has_changed m.fields, lacking_changed ps m (suc k) fs)

      target_changed : (t : Trait) (y : Slot) → on_target (changed c S) i x t (slot_changed c y) ≡ on_target S i x t y
      unfolding slot_changed
      target_changed t empty = refl
      target_changed t (message m) = lacking_changed t.parameters m 0 t.fields
      target_changed t (enum e) = refl
      target_changed t (flags f) = refl
      target_changed t (union u) = refl
      target_changed t (newtype n) = refl
      target_changed t config = refl
      target_changed t (alias a) = refl
      target_changed t (trait u) = refl
      target_changed t (impl y) = refl

      value_changed : (t : Trait) (v : Value) → on_value (changed c S) i x t v ≡ on_value S i x t v
      value_changed t (Id j) = ap (on_target (changed c S) i x t) (slot_changed_lem c S j) ∙ target_changed t (slot_of S j)
      value_changed t NotName = refl

      trait_changed : (y : Slot) → on_trait (changed c S) i x (slot_changed c y) ≡ on_trait S i x y
      unfolding slot_changed conforming
      trait_changed (trait t) = rw (value_changed t (value_of x.target))
      trait_changed empty = refl
      trait_changed (message m) = refl
      trait_changed (enum e) = refl
      trait_changed (flags f) = refl
      trait_changed (union u) = refl
      trait_changed (newtype n) = refl
      trait_changed config = refl
      trait_changed (alias a) = refl
      trait_changed (impl y) = refl

    impl_changed : (i : ℕ) (x : Slot) → impl_findings (changed c S) i (slot_changed c x) ≡ impl_findings S i x
    unfolding slot_changed
    impl_changed i (impl x) = ap (on_trait (changed c S) i x) (found_changed x.trait_id) ∙ trait_changed i x (slot_found S x.trait_id)
    impl_changed i empty = refl
    impl_changed i (message m) = refl
    impl_changed i (enum e) = refl
    impl_changed i (flags f) = refl
    impl_changed i (union u) = refl
    impl_changed i (newtype n) = refl
    impl_changed i config = refl
    impl_changed i (alias a) = refl
    impl_changed i (trait t) = refl

    conformance_changed : (i : ℕ) (xs : List Slot) → conformance_of (changed c S) i (map (slot_changed c) xs) ≡ conformance_of S i xs
    unfolding conformance_of
    conformance_changed i [] = refl
    conformance_changed i (x ∷ xs) = ap₂ ◌++◌ (impl_changed i x) (conformance_changed (suc i) xs)

    pub findings_changed : findings_of (changed c S) ≡ findings_of S
    unfolding findings_of changed
    findings_changed = ap₂ ◌++◌ (endless_changed S.declared) (conformance_changed 0 S.slots)
