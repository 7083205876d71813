-- A slot that was read whole: its kind, and what the kind holds; and a field that was. Assumes nothing.
use Prim.Native.Nat.{ℕ, ◌<◌}
use mathlib.Core.Path.{◌≡◌, refl, sym, ap, subst, ◌∙◌}
use mathlib.Core.List.{List}
use native.Mathlib.Omega.{arith}
use Rattle.number.specs.Grammar.{kind, name, Grammar, give, number, done, below, read}
use Rattle.number.proofs.Reading.{read_done, read_number, given}
use Rattle.number.proofs.InRange.{below_is}
use Rattle.tree.specs.Encoding.{encoding_at}
use Rattle.tree.proofs.Ranges.{each}
use Rattle.slot.specs.Field.{type_at, Field, limit_at, field_at}
use Rattle.slot.specs.declared.Edition.{Edition}
use Rattle.slot.specs.Slot.{Slot, message, enum, flags, union, newtype, alias, trait, impl, slot_kind, message_at, enum_at, flags_at, union_at, newtype_at, alias_at, trait_at, impl_at, made, slot_body_at, slot_at}

-- what a slot of one kind holds
pub record Made {A : Type 0} (f : A → Slot) (g : Grammar A) (s : List ℕ) (at : ℕ) (x : Slot) (end : ℕ) : Type 0 where
  pub held : A
  pub slot_is : x ≡ f held
  pub reads : read g s at ≡ done held end

module _ (s : List ℕ) where
  pub made_of : {A : Type 0} (f : A → Slot) (g : Grammar A) (at : ℕ) (x : Slot) (end : ℕ) → read (made f g) s at ≡ done x end → Made f g s at x end
  unfolding read
  made_of f g at x end e =
      let a = read_done g (λ y. give (f y)) s at x end e in
      let h = given a.rest in
      record { held = a.first; slot_is = sym h.0; reads = a.here ∙ ap (done a.first) h.1 }

  kind_of_lem : {A : Type 0} (f : A → Slot) (g : Grammar A) (k : ℕ) → ((a : A) → slot_kind (f a) ≡ k) → (at : ℕ) (x : Slot) (end : ℕ) → read (made f g) s at ≡ done x end → slot_kind x ≡ k
  kind_of_lem f g k h at x end e = let m = made_of f g at x end e in ap slot_kind m.slot_is ∙ h m.held

  body_kind : (ed : Edition) (names at : ℕ) (x : Slot) (end k : ℕ) → k < 10 → read (slot_body_at ed names k) s at ≡ done x end → slot_kind x ≡ k
  unfolding slot_body_at read
  body_kind ed names at x end k h =
      each (λ j. read (slot_body_at ed names j) s at ≡ done x end → slot_kind x ≡ j) 0 10 (
        (λ e. ap slot_kind (sym (given e).0)),
        (
          kind_of_lem message (message_at ed names) 1 (λ a. refl) at x end,
          (
            kind_of_lem enum (enum_at ed) 2 (λ a. refl) at x end,
            (
              kind_of_lem flags (flags_at ed) 3 (λ a. refl) at x end,
              (
                kind_of_lem union (union_at ed names) 4 (λ a. refl) at x end,
                (
                  kind_of_lem newtype (newtype_at names) 5 (λ a. refl) at x end,
                  (
                    (λ e. ap slot_kind (sym (given e).0)),
                    (
                      kind_of_lem alias (alias_at names) 7 (λ a. refl) at x end,
                      (kind_of_lem trait (trait_at names) 8 (λ a. refl) at x end, (kind_of_lem impl (impl_at names) 9 (λ a. refl) at x end, tt)),
                    ),
                  ),
                ),
              ),
            ),
          ),
        ),
      )
      k (omega arith) (omega arith)

  -- a slot stands behind its kind
  pub record SlotParts (ed : Edition) (names at : ℕ) (x : Slot) (end : ℕ) : Type 0 where
    pub body : ℕ
    pub kind_read : below 10 s at ≡ done (slot_kind x) body
    pub body_read : read (slot_body_at ed names (slot_kind x)) s body ≡ done x end

  pub slot_parts : (ed : Edition) (names at : ℕ) (x : Slot) (end : ℕ) → read (slot_at ed names) s at ≡ done x end → SlotParts ed names at x end
  unfolding slot_at
  slot_parts ed names at x end e =
      let a = read_done (number kind 10) (slot_body_at ed names) s at x end e in
      let b = sym (read_number kind 10 s at) ∙ a.here in
      let q = body_kind ed names a.middle x end a.first (below_is s at 10 a.first a.middle b).under a.rest in
      record {
        body = a.middle;
        kind_read = b ∙ ap (λ (k : ℕ). done k a.middle) (sym q);
        body_read = subst (λ (k : ℕ). read (slot_body_at ed names k) s a.middle ≡ done x end) (sym q) a.rest;
      }

  -- a field: its name, its encoding and its type
  pub record FieldParts (ed : Edition) (names at : ℕ) (x : Field) (end : ℕ) : Type 0 where
    pub coded : ℕ
    pub name_read : below names s at ≡ done x.field_name coded
    pub typed : ℕ
    pub encoding_read : read (encoding_at 32) s coded ≡ done x.encoding typed
    pub behind : ℕ
    pub type_read : read (type_at names) s typed ≡ done x.type behind
    pub limit_read : read (limit_at ed) s behind ≡ done x.limit end

  pub field_parts_lem : (ed : Edition) (names at : ℕ) (x : Field) (end : ℕ) → read (field_at ed names) s at ≡ done x end → FieldParts ed names at x end
  unfolding field_at read
  field_parts_lem ed names at x end e =
      let u = read_done (number name names) _ s at x end e in
      let v = read_done (encoding_at 32) _ s u.middle x end u.rest in
      let w = read_done (type_at names) _ s v.middle x end v.rest in
      let z = read_done (limit_at ed) _ s w.middle x end w.rest in
      let g = given z.rest in
      record {
        coded = u.middle;
        name_read = sym (read_number name names s at) ∙ u.here ∙ ap (λ (y : Field). done y.field_name u.middle) g.0;
        typed = v.middle;
        encoding_read = v.here ∙ ap (λ (y : Field). done y.encoding v.middle) g.0;
        behind = w.middle;
        type_read = w.here ∙ ap (λ (y : Field). done y.type w.middle) g.0;
        limit_read = z.here ∙ ap (λ (y : Field). done y.limit z.middle) g.0 ∙ ap (done x.limit) g.1;
      }
