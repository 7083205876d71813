-- Where no slot is of the kind that leads on. Assumes nothing.
use Prim.Native.Nat.{ℕ, zero, suc, ◌≤◌, ◌<◌}
use mathlib.Core.Path.{◌≡◌, refl, sym, ap, subst, ◌∙◌}
use mathlib.Core.List.{List}
use mathlib.Core.Bool.{Bool, true, false, not, and-false}
use mathlib.Core.Logic.{by_cases}
use native.Mathlib.Omega.{arith}
use native.Mathlib.Decide.{dec_lt, ℕ_discrete}
use borrow.Author.Tests.{eq-eqb, ne_eqb, eqb-true}
use lib.Dec.{eqb}
use lib.ListN.{length, get_or}
use Rattle.std.specs.Bool.{MatchBool}
use Rattle.std.specs.List.{range_with_len, HoldsAt, AllWithin}
use Rattle.std.proofs.lemmas.List.FromFn.{length-range_with_len, get_or-range_with_len}
use Rattle.tree.specs.declared.Sort.{Sort}
use Rattle.slot.specs.Slot.{Slot, empty, slot_kind}
use Rattle.slot.specs.declared.Edition.{Edition}
use Rattle.view.specs.Part.{part_at}
use Rattle.graph.specs.Ways.{Path, step, onto, has}
use Rattle.graph.specs.Loops.{not_both}
use Rattle.graph.specs.declared.Lowest.{Lowest}
use Rattle.loops.specs.Leads.{slot_leads, leads, loop_of}
use Rattle.loops.specs.Located.{slots_of, Located}
use Rattle.loops.specs.Marks.{lead_kind, part_leads, none_leads}
use Rattle.loops.specs.Refusals.{is_not_looped}
use Rattle.loops.proofs.Filling.{lead_kind_lem, other_kind, slot_is_lem}

module _ (sort : Sort) (slots : ℕ → Slot) where
  none_below : (n : ℕ) → ((i : ℕ) → i < n → slot_kind (slots i) ≡ lead_kind sort → ⊥) → none_leads sort slots n ≡ true
  unfolding none_leads
  none_below zero h = refl
  none_below (suc n) h = rw (none_below n (λ i l. h i (omega arith)), ne_eqb (slot_kind (slots n)) (lead_kind sort) (h n (omega arith)))

  one_leads : (i n : ℕ) → i < n → slot_kind (slots i) ≡ lead_kind sort → none_leads sort slots n ≡ false
  unfolding none_leads
  one_leads i zero l e = absurd (omega arith)
  one_leads i (suc n) l e = by_cases (ℕ_discrete i n)
      (λ q. rw (← q, eq-eqb (slot_kind (slots i)) (lead_kind sort) e) (and-false (none_leads sort slots i)))
      (λ q. rw (one_leads i n (omega arith) e))

  module _ (finds : List ℕ) (count : ℕ) (past : (i : ℕ) → count ≤ i → slots i ≡ empty) (h : none_leads sort slots count ≡ true) where
    leads_nowhere : (i j : ℕ) → leads sort finds slots i j ≡ false
    unfolding leads slot_leads has
    leads_nowhere i j = by_cases (dec_lt i count)
        (λ l. ap (has j) (sym (other_kind sort finds (slots i) (λ e. not_both _ h (one_leads i count l e)))))
        (λ l. ap (λ (x : Slot). has j (slot_leads sort finds x)) (past i (omega arith)))

    no_path : {a b : ℕ} → Path (leads sort finds slots) a b → ⊥
    no_path (step e) = not_both _ e (leads_nowhere _ _)
    no_path (onto e r) = not_both _ e (leads_nowhere _ _)

    pub nothing_looped : loop_of sort finds slots count ≡ Lowest.Nowhere
    nothing_looped = is_not_looped sort finds slots count past (λ j r. no_path r)

-- the slots of an image, tested one by one
module _ (sort : Sort) (ed : Edition) (names count : ℕ) (s starts : List ℕ) (p : Located ed names count s starts) where
  kind_at : (i : ℕ) → i < count → part_leads sort (part_at s starts i) ≡ eqb (slot_kind (slots_of ed names count s starts i)) (lead_kind sort)
  kind_at i l =
      let r = p.reads i l in
      lead_kind_lem ed names s starts i p.named (omega (arith, p.room)) r.0 r.1 r.2 sort (part_leads sort (part_at s starts i)) refl
      ∙ ap (λ (x : Slot). eqb (slot_kind x) (lead_kind sort)) (sym (slot_is_lem ed names count s starts i l r.0 r.1 r.2))

  abbrev Answers : Bool → ℕ → Type 0
  Answers b i = part_leads sort (part_at s starts i) ≡ b

  at : (k : ℕ) → k < length (range_with_len 0 count) → get_or (range_with_len 0 count) k 0 ≡ k
  at k l = omega (arith, get_or-range_with_len 0 count k 0 (omega (arith, length-range_with_len 0 count)))

  pub none_found : (r : Bool)
      → MatchBool r ((k : ℕ) × (k < length (range_with_len 0 count)) × HoldsAt (Answers true) (range_with_len 0 count) k) (AllWithin (Answers false) (range_with_len 0 count) 0 (length (range_with_len 0 count)))
      → not r ≡ none_leads sort (slots_of ed names count s starts) count
  none_found true h =
      let l : h.0 < count = omega (arith, h.1, length-range_with_len 0 count) in
      let e : Answers true h.0 = subst (Answers true) (at h.0 h.1) (h.2 0) in
      sym (one_leads sort (slots_of ed names count s starts) h.0 count l (eqb-true _ _ (sym (kind_at h.0 l) ∙ e)))
  none_found false h =
      sym (none_below sort (slots_of ed names count s starts) count
      (λ i l k.
      let r : i < length (range_with_len 0 count) = omega (arith, length-range_with_len 0 count) in
      let e : Answers false i = subst (Answers false) (at i r) (h i 0 (omega arith) r) in
      not_both _ (eq-eqb _ _ k) (sym (kind_at i l) ∙ e)))
