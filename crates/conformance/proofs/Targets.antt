-- What a slot gives by its kind: an impl's target, its trait, and the impl itself. Assumes nothing.
use Prim.Native.Nat.{ℕ, ◌≤◌, ◌<◌}
use mathlib.Core.Path.{◌≡◌, refl, sym, ap, ap₂, ◌∙◌}
use mathlib.Core.List.{List, [], ◌∷◌}
use native.Mathlib.Omega.{arith}
use lib.ListN.{length, get_or-eq_default}
use borrow.Author.Tests.{eq-eqb, ne_eqb}
use Rattle.number.specs.Grammar.{read}
use Rattle.number.proofs.Reading.{many_length}
use Rattle.tree.specs.TreeAt.{head_at}
use Rattle.tree.specs.declared.Sort.TheVariants.{Resolved}
use Rattle.slot.specs.Field.{type_at, Span}
use Rattle.slot.specs.Slot.{Slot, empty, message, message_at, enum, flags, union, newtype, config, alias, Trait, trait, Impl, impl, slot_kind, slot_body_at}
use Rattle.slot.proofs.Whole.{made_of, Made}
use Rattle.image.specs.Schema.{Schema, slot_of}
use Rattle.image.specs.declared.Frame.{Frame}
use Rattle.reader.specs.Reading.{schema_of}
use Rattle.reader.specs.Promise.{Promise}
use Rattle.view.specs.Part.{part_at}
use Rattle.view.specs.Inside.{inside_at}
use Rattle.view.specs.declared.Part.{Part}
use Rattle.view.proofs.Fetching.{Behind, body_at}
use Rattle.view.proofs.Insides.{fields_inside}
use Rattle.reader.proofs.Fetching.{part_behind, not_missing}
use Rattle.findings.specs.Finding.{finding}
use Rattle.findings.specs.Adding.{Adds}
use Rattle.findings.specs.Conformance.{on_target, on_value, span_or, lacking, conforming, on_trait, impl_findings}
use Rattle.findings.specs.declared.Finding.{Finding}
use Rattle.findings.specs.declared.Value.{Value}
use Rattle.findings.proofs.Adding.{adds_none, adds_same}
use Rattle.meanings.specs.Scopes.{head_value}
use Rattle.meanings.proofs.Leaves.{value_right}
use Rattle.conformance.specs.Adding.{own_finding, target_findings, Paired, Targeted}
use Rattle.conformance.specs.declared.ImplDef.{ImplDef}
use Rattle.conformance.specs.declared.TraitDef.{TraitDef}
use Rattle.conformance.proofs.Required.{own_is}

-- by the kind of the slot
module _ (S : Schema) (i : ℕ) (x : Impl) where
  nothing_there : (t : Trait) (z : Slot) → slot_kind z ≡ 0 → on_target S i x t z ≡ []
  nothing_there t empty h = refl
  nothing_there t (message m) h = absurd (omega arith)
  nothing_there t (enum e) h = absurd (omega arith)
  nothing_there t (flags w) h = absurd (omega arith)
  nothing_there t (union u) h = absurd (omega arith)
  nothing_there t (newtype n) h = absurd (omega arith)
  nothing_there t config h = absurd (omega arith)
  nothing_there t (alias a) h = absurd (omega arith)
  nothing_there t (trait u) h = absurd (omega arith)
  nothing_there t (impl y) h = absurd (omega arith)

  no_message : (t : Trait) (z : Slot) → (slot_kind z ≡ 0 → ⊥) → (slot_kind z ≡ 1 → ⊥) → on_target S i x t z ≡ finding 3 i x.span 0 0 ∷ []
  no_message t empty h g = absurd (h refl)
  no_message t (message m) h g = absurd (g refl)
  no_message t (enum e) h g = refl
  no_message t (flags w) h g = refl
  no_message t (union u) h g = refl
  no_message t (newtype n) h g = refl
  no_message t config h g = refl
  no_message t (alias a) h g = refl
  no_message t (trait u) h g = refl
  no_message t (impl y) h g = refl

  pub no_trait : (z : Slot) → (slot_kind z ≡ 8 → ⊥) → on_trait S i x z ≡ []
  no_trait empty h = refl
  no_trait (message m) h = refl
  no_trait (enum e) h = refl
  no_trait (flags w) h = refl
  no_trait (union u) h = refl
  no_trait (newtype n) h = refl
  no_trait config h = refl
  no_trait (alias a) h = refl
  no_trait (trait u) h = absurd (h refl)
  no_trait (impl y) h = refl

pub no_impl : (S : Schema) (i : ℕ) (z : Slot) → (slot_kind z ≡ 9 → ⊥) → impl_findings S i z ≡ []
no_impl S i empty h = refl
no_impl S i (message m) h = refl
no_impl S i (enum e) h = refl
no_impl S i (flags w) h = refl
no_impl S i (union u) h = refl
no_impl S i (newtype n) h = refl
no_impl S i config h = refl
no_impl S i (alias a) h = refl
no_impl S i (trait u) h = refl
no_impl S i (impl y) h = absurd (h refl)

-- nothing is past the slots
pub slots_past : (s starts : List ℕ) (f : Frame) → Promise s starts f → (j : ℕ) → f.slots ≤ j → slot_of (schema_of f.edition s) j ≡ empty
unfolding slot_of
slots_past s starts f p j h = get_or-eq_default (schema_of f.edition s).slots empty {n = j} (omega (arith, p.count))

module _ (s starts : List ℕ) (f : Frame) (d : ImplDef) (e : TraitDef) (slot held : ℕ) where
  module _ (v : Value) (told : v ≡ head_value (read (head_at Resolved f.names) s d.target_type)) where
    target_is : (a : Paired s starts f d e held) (w : Value) → v ≡ w → target_findings (schema_of f.edition s) slot a.impl a.trait ≡ on_value (schema_of f.edition s) slot a.impl a.trait w
    unfolding target_findings
    target_is a w q = ap (on_value (schema_of f.edition s) slot a.impl a.trait) (sym (value_right f.names s d.target_type v told a.impl.target a.impl_is.target_end a.impl_is.target) ∙ q)

    pub no_name : v ≡ Value.NotName → (t : List ℕ) (a : Paired s starts f d e held) → Adds 65536 t t held held (target_findings (schema_of f.edition s) slot a.impl a.trait)
    no_name q t a = adds_same 65536 (omega arith) (target_is a _ q) (adds_none 0 t held)

    module _ (j : ℕ) (q : v ≡ Value.Id j) where
      by_slot : (a : Paired s starts f d e held) (z : Slot) → slot_of (schema_of f.edition s) j ≡ z → target_findings (schema_of f.edition s) slot a.impl a.trait ≡ on_target (schema_of f.edition s) slot a.impl a.trait z
      by_slot a z h = target_is a _ q ∙ ap (on_target (schema_of f.edition s) slot a.impl a.trait) h

      pub past_slots : f.slots ≤ j → (t : List ℕ) (a : Paired s starts f d e held) → Adds 65536 t t held held (target_findings (schema_of f.edition s) slot a.impl a.trait)
      past_slots h t a = adds_same 65536 (omega arith) (by_slot a empty (slots_past s starts f a.promise j h)) (adds_none 0 t held)

      module _ (there : j < f.slots) where
        pub no_part : part_at s starts j ≡ Part.Missing → (t : List ℕ) (a : Paired s starts f d e held) → Adds 65536 t t held held (target_findings (schema_of f.edition s) slot a.impl a.trait)
        no_part p t a = absurd (not_missing s starts f a.promise j there p)

        module _ (kind body : ℕ) (p : part_at s starts j ≡ Part.At kind body) where
          behind : (a : Paired s starts f d e held) → Behind f.edition f.names s (slot_of (schema_of f.edition s) j) kind body
          behind a = part_behind s starts f a.promise j there kind body p

          pub not_there : kind ≡ 0 → (t : List ℕ) (a : Paired s starts f d e held) → Adds 65536 t t held held (target_findings (schema_of f.edition s) slot a.impl a.trait)
          not_there k t a =
              adds_same 65536 (omega arith) (by_slot a (slot_of (schema_of f.edition s) j) refl ∙ nothing_there (schema_of f.edition s) slot a.impl a.trait (slot_of (schema_of f.edition s) j) ((behind a).kind_is ∙ k)) (adds_none 0 t held)

          held_message : kind ≡ 1 → (a : Paired s starts f d e held) → Made message (message_at f.edition f.names) s body (slot_of (schema_of f.edition s) j) (behind a).end
          unfolding slot_body_at
          held_message k a = made_of s message (message_at f.edition f.names) body _ _ (body_at (behind a) 1 k)

          pub targeted : kind ≡ 1 → (place : ℕ) → place ≡ inside_at s starts j → Paired s starts f d e held → Targeted s starts f d e place held
          targeted k place i a = let m = held_message k a in record { paired = a; message = m.held; end = (behind a).end; reads = fields_inside s starts j p i k f.edition f.names m.held (behind a).end m.reads }

          pub required : (k : kind ≡ 1) (place : ℕ) → place ≡ inside_at s starts j → (t u : List ℕ) (r : ℕ)
              → ((b : Targeted s starts f d e place held) → Adds 65536 t u held r (lacking (schema_of f.edition s) slot b.paired.impl b.paired.trait.parameters b.message 0 b.paired.trait.fields))
              → (a : Paired s starts f d e held) → Adds 65536 t u held r (target_findings (schema_of f.edition s) slot a.impl a.trait)
          unfolding targeted
          required k place i t u r h a = adds_same 65536 (omega arith) (by_slot a _ (held_message k a).slot_is) (h (targeted k place i a))

          pub wrong_kind : (kind ≡ 0 → ⊥) → (kind ≡ 1 → ⊥) → (y : Finding) → y ≡ own_finding 3 slot d 0 → (t u : List ℕ) (r : ℕ) → Adds 1 t u held r (y ∷ [])
              → (a : Paired s starts f d e held) → Adds 65536 t u held r (target_findings (schema_of f.edition s) slot a.impl a.trait)
          wrong_kind k l y own t u r h a =
              adds_same 65536 (omega arith)
              (by_slot a (slot_of (schema_of f.edition s) j) refl
              ∙ no_message (schema_of f.edition s) slot a.impl a.trait (slot_of (schema_of f.edition s) j) (λ z. k (sym (behind a).kind_is ∙ z)) (λ z. l (sym (behind a).kind_is ∙ z))
              ∙ ap (λ (z : Finding). z ∷ []) (sym (own ∙ own_is a.impl_is 3 slot 0)))
              h

  -- the arity
  arguments_are : (a : Paired s starts f d e held) → length a.impl.arguments ≡ d.type_arg_count
  arguments_are a = many_length (type_at f.names) s d.type_arg_count d.type_args a.impl.arguments a.impl_is.arguments_end a.impl_is.arguments

  pub same_arity : e.type_param_count ≡ d.type_arg_count → (t u : List ℕ) (r : ℕ)
      → ((a : Paired s starts f d e held) → Adds 65536 t u held r (target_findings (schema_of f.edition s) slot a.impl a.trait))
      → (a : Paired s starts f d e held) → Adds 65536 t u held r (conforming (schema_of f.edition s) slot a.impl a.trait)
  unfolding conforming target_findings
  same_arity q t u r h a =
      let same = eq-eqb (length a.trait.parameters) (length a.impl.arguments) (sym a.trait_is.parameter_count ∙ q ∙ sym (arguments_are a)) in
      rw same (h a)

  pub other_arity : (e.type_param_count ≡ d.type_arg_count → ⊥) → (t u : List ℕ) (r : ℕ)
      → Adds 1 t u held r (record { class = 2; slot = slot; offset = d.trait_offset; length = d.trait_length; a = e.type_param_count; b = d.type_arg_count } ∷ [])
      → (a : Paired s starts f d e held) → Adds 65536 t u held r (conforming (schema_of f.edition s) slot a.impl a.trait)
  unfolding conforming
  other_arity q t u r h a =
      let other = ne_eqb (length a.trait.parameters) (length a.impl.arguments) (λ z. q (a.trait_is.parameter_count ∙ z ∙ arguments_are a)) in
      adds_same 65536 (omega arith)
      (rw other
      (ap (λ (y : Finding). y ∷ [])
      (ap₂ (λ (m n : ℕ). finding 2 slot (span_or a.impl.trait_span a.impl.span) m n) (sym a.trait_is.parameter_count) (arguments_are a)
      ∙ ap (λ (p : Span). finding 2 slot p e.type_param_count d.type_arg_count) (sym a.impl_is.trait_span))))
      h
