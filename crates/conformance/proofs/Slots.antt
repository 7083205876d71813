-- The impl in a slot, and all slots in order. Assumes nothing.
use Prim.Native.Nat.{ℕ, zero, suc, ◌+◌, ◌-◌, ◌*◌, ◌≤◌, ◌<◌, ◌^◌}
use mathlib.Core.Path.{◌≡◌, refl, sym, ap, ◌∙◌}
use mathlib.Core.List.{List, [], ◌++◌, append-nil, append_assoc}
use native.Mathlib.Omega.{arith}
use native.Mathlib.Numerals.{add-one}
use lib.ListN.{length, drop, drop_of_length-le}
use lib.Seq.{drop-cons}
use Rattle.number.specs.Grammar.{done, read}
use Rattle.slot.specs.Slot.{Slot, empty, Trait, trait, trait_at, Impl, impl, impl_at, slot_body_at}
use Rattle.slot.proofs.Whole.{made_of, Made}
use Rattle.image.specs.Schema.{Schema, slot_of}
use Rattle.image.specs.declared.Frame.{Frame}
use Rattle.reader.specs.Reading.{schema_of}
use Rattle.view.specs.Part.{part_at}
use Rattle.view.specs.declared.Part.{Part}
use Rattle.view.proofs.Fetching.{Behind, body_at}
use Rattle.reader.proofs.Fetching.{part_behind, not_missing}
use Rattle.findings.specs.Adding.{Adds}
use Rattle.findings.specs.Meaning.{slot_found}
use Rattle.findings.specs.Conformance.{conforming, on_trait, impl_findings, conformance_of}
use Rattle.findings.specs.declared.Finding.{Finding}
use Rattle.findings.proofs.Adding.{adds_none, adds_then, adds_same}
use Rattle.conformance.specs.Parts.{ImplIs, TraitIs}
use Rattle.conformance.specs.Adding.{slot_findings, SlotAsked, Paired}
use Rattle.conformance.specs.declared.ImplDef.{ImplDef}
use Rattle.conformance.specs.declared.TraitDef.{TraitDef}
use Rattle.conformance.proofs.Targets.{no_trait, no_impl, slots_past}

found_is : (S : Schema) (n : ℕ) → (n ≡ 0 → ⊥) → slot_found S n ≡ slot_of S (n - 1)
found_is S zero h = absurd (h refl)
found_is S (suc n) h = let e : suc n - 1 ≡ n = omega arith in ap (slot_of S) (sym e)

module _ (s starts : List ℕ) (f : Frame) (slot held : ℕ) (a : SlotAsked s starts f slot held) where
  pub missing : part_at s starts slot ≡ Part.Missing → (t : List ℕ) → Adds 65536 t t held held (slot_findings (schema_of f.edition s) slot)
  missing p t = absurd (not_missing s starts f a.promise slot a.there p)

  module _ (kind body : ℕ) (p : part_at s starts slot ≡ Part.At kind body) where
    behind : Behind f.edition f.names s (slot_of (schema_of f.edition s) slot) kind body
    behind = part_behind s starts f a.promise slot a.there kind body p

    pub other_kind : (kind ≡ 9 → ⊥) → (t : List ℕ) → Adds 65536 t t held held (slot_findings (schema_of f.edition s) slot)
    unfolding slot_findings
    other_kind k t = adds_same 65536 (omega arith) (no_impl (schema_of f.edition s) slot (slot_of (schema_of f.edition s) slot) (λ z. k (sym behind.kind_is ∙ z))) (adds_none 0 t held)

    pub impl_part : kind ≡ 9 → part_at s starts slot ≡ Part.At 9 body
    impl_part k = p ∙ ap (λ (n : ℕ). Part.At n body) k

  -- the impl
  module _ (body : ℕ) (p : part_at s starts slot ≡ Part.At 9 body) (d : ImplDef)
      (told : (x : Impl) (end : ℕ) → read (impl_at f.names) s body ≡ done x end → ImplIs f.names s d x) where
    held_impl : Made impl (impl_at f.names) s body (slot_of (schema_of f.edition s) slot) (behind 9 body p).end
    unfolding slot_body_at
    held_impl = made_of s impl (impl_at f.names) body _ _ (behind 9 body p).reads

    impl_is_lem : ImplIs f.names s d held_impl.held
    impl_is_lem = told held_impl.held (behind 9 body p).end held_impl.reads

    findings_are_lem : (z : Slot) → slot_found (schema_of f.edition s) d.trait_id ≡ z → slot_findings (schema_of f.edition s) slot ≡ on_trait (schema_of f.edition s) slot held_impl.held z
    unfolding slot_findings
    findings_are_lem z q =
        ap (impl_findings (schema_of f.edition s) slot) held_impl.slot_is
        ∙ ap (λ (n : ℕ). on_trait (schema_of f.edition s) slot held_impl.held (slot_found (schema_of f.edition s) n)) (sym impl_is_lem.trait_id)
        ∙ ap (on_trait (schema_of f.edition s) slot held_impl.held) q

    pub none_named : d.trait_id ≡ 0 → (t : List ℕ) → Adds 65536 t t held held (slot_findings (schema_of f.edition s) slot)
    none_named z t = adds_same 65536 (omega arith) (findings_are_lem empty (ap (slot_found (schema_of f.edition s)) z)) (adds_none 0 t held)

    module _ (some : d.trait_id ≡ 0 → ⊥) where
      by_slot : (z : Slot) → slot_of (schema_of f.edition s) (d.trait_id - 1) ≡ z → slot_findings (schema_of f.edition s) slot ≡ on_trait (schema_of f.edition s) slot held_impl.held z
      by_slot z q = findings_are_lem z (found_is (schema_of f.edition s) d.trait_id some ∙ q)

      pub past_slots : f.slots < d.trait_id → (t : List ℕ) → Adds 65536 t t held held (slot_findings (schema_of f.edition s) slot)
      past_slots h t = adds_same 65536 (omega arith) (by_slot empty (slots_past s starts f a.promise (d.trait_id - 1) (omega arith))) (adds_none 0 t held)

      module _ (h : d.trait_id ≤ f.slots) where
        there : d.trait_id - 1 < f.slots
        there = omega arith

        pub no_part : part_at s starts (d.trait_id - 1) ≡ Part.Missing → (t : List ℕ) → Adds 65536 t t held held (slot_findings (schema_of f.edition s) slot)
        no_part q t = absurd (not_missing s starts f a.promise (d.trait_id - 1) there q)

        module _ (kind place : ℕ) (q : part_at s starts (d.trait_id - 1) ≡ Part.At kind place) where
          its_part : Behind f.edition f.names s (slot_of (schema_of f.edition s) (d.trait_id - 1)) kind place
          its_part = part_behind s starts f a.promise (d.trait_id - 1) there kind place q

          pub not_a_trait : (kind ≡ 8 → ⊥) → (t : List ℕ) → Adds 65536 t t held held (slot_findings (schema_of f.edition s) slot)
          not_a_trait k t =
              adds_same 65536 (omega arith) (by_slot (slot_of (schema_of f.edition s) (d.trait_id - 1)) refl ∙ no_trait (schema_of f.edition s) slot held_impl.held (slot_of (schema_of f.edition s) (d.trait_id - 1)) (λ z. k (sym its_part.kind_is ∙ z))) (adds_none 0 t held)

          module _ (k : kind ≡ 8) (e : TraitDef) (tells : (y : Trait) (end : ℕ) → read (trait_at f.names) s place ≡ done y end → TraitIs f.names s e y) where
            held_trait : Made trait (trait_at f.names) s place (slot_of (schema_of f.edition s) (d.trait_id - 1)) its_part.end
            unfolding slot_body_at
            held_trait = made_of s trait (trait_at f.names) place _ _ (body_at its_part 8 k)

            pub paired : Paired s starts f d e held
            paired =
                record {
                  promise = a.promise;
                  before = a.before;
                  impl = held_impl.held;
                  impl_is = impl_is_lem;
                  trait = held_trait.held;
                  trait_is = tells held_trait.held its_part.end held_trait.reads;
                }

            pub single : (t u : List ℕ) (r : ℕ) → ((b : Paired s starts f d e held) → Adds 65536 t u held r (conforming (schema_of f.edition s) slot b.impl b.trait))
                → Adds 65536 t u held r (slot_findings (schema_of f.edition s) slot)
            unfolding paired
            single t u r g = adds_same 65536 (omega arith) (by_slot _ held_trait.slot_is) (g paired)

-- the slots below i were passed
pub record Passed (S : Schema) (before now : List ℕ) (held n i : ℕ) : Type 0 where
  pub low : i ≤ length S.slots
  pub added : List Finding
  pub adds : Adds (i * 65536) before now held n added
  pub whole : conformance_of S 0 S.slots ≡ added ++ conformance_of S i (drop i S.slots)

pub none_passed : (S : Schema) (t : List ℕ) (n : ℕ) → Passed S t t n n 0
none_passed S t n = record { low = omega arith; added = []; adds = adds_none 0 t n; whole = refl }

pub one_passed : (S : Schema) (before now table : List ℕ) (held n r i : ℕ) → Passed S before now held n i → i < length S.slots
    → Adds 65536 now table n r (slot_findings S i) → Passed S before table held r (i + 1)
unfolding conformance_of slot_findings slot_of
one_passed S before now table held n r i p h a =
    record {
      low = omega arith;
      added = p.added ++ slot_findings S i;
      adds = adds_then ((i + 1) * 65536) p.adds a (omega arith);
      whole = p.whole
          ∙ ap (λ (l : List Slot). p.added ++ conformance_of S i l) (drop-cons S.slots i empty h)
          ∙ ap (λ (j : ℕ). p.added ++ (slot_findings S i ++ conformance_of S j (drop j S.slots))) (sym (add-one i))
          ∙ sym (append_assoc p.added (slot_findings S i) (conformance_of S (i + 1) (drop (i + 1) S.slots)));
    }

pub all_passed : (S : Schema) (before now : List ℕ) (held n i : ℕ) → Passed S before now held n i → length S.slots ≤ i → i ≤ 512
    → Adds (2 ^ 25) before now held n (conformance_of S 0 S.slots)
unfolding conformance_of
all_passed S before now held n i p h few =
    adds_same (2 ^ 25) (omega arith)
    (p.whole ∙ ap (λ (l : List Slot). p.added ++ conformance_of S i l) (drop_of_length-le S.slots {i = i} h) ∙ append-nil p.added)
    p.adds
