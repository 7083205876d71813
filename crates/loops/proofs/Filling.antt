-- The rows of the table, slot by slot. Assumes nothing.
use Prim.Native.Nat.{ℕ, ◌+◌, ◌≤◌, ◌<◌}
use mathlib.Core.Path.{◌≡◌, refl, sym, ap, ◌∙◌}
use mathlib.Core.List.{List, []}
use mathlib.Core.Bool.{Bool, true, false}
use native.Mathlib.Omega.{arith}
use borrow.Author.Tests.{eq-eqb, eqb-true, lt-ltb}
use lib.Dec.{eqb}
use lib.ListN.{length, get_or, replicate, length-replicate}
use Rattle.number.specs.Grammar.{done, read}
use Rattle.tree.specs.Tree.{Tree}
use Rattle.tree.specs.TreeAt.{tree_at}
use Rattle.tree.specs.declared.Sort.{Sort}
use Rattle.tree.specs.declared.Sort.TheVariants.{Resolved, Expression}
use Rattle.slot.specs.Slot.{Slot, empty, message, enum, flags, union, newtype, newtype_at, config, alias, alias_at, trait, impl, slot_kind, slot_body_at, slot_at}
use Rattle.slot.proofs.Whole.{SlotParts, made_of, slot_parts}
use Rattle.slot.specs.declared.Edition.{Edition}
use Rattle.view.specs.Part.{part_at}
use Rattle.view.specs.Inside.{name_count, inside_at}
use Rattle.view.specs.declared.Part.{Part}
use Rattle.view.proofs.Fetching.{fetched}
use Rattle.view.proofs.Insides.{terminal_inside, target_inside}
use Rattle.graph.specs.Ways.{lowest_looped, has}
use Rattle.graph.specs.Table.{grid, grid_zeros}
use Rattle.graph.specs.Loops.{looped_same, not_both}
use Rattle.graph.specs.declared.Lowest.{Lowest}
use Rattle.graph.proofs.Rows.{at_same, grown_as, turns_start, turns_on}
use Rattle.loops.specs.Leads.{tree_slots, slot_leads, leads, loop_of}
use Rattle.loops.specs.Located.{slots_of, Located}
use Rattle.loops.specs.Marks.{lead_kind, part_leads, TreeMarked, SlotMarked, Filled}
use Rattle.loops.proofs.Marking.{led_none, led_as}

-- a slot of another kind leads nowhere
pub other_kind : (sort : Sort) (finds : List ℕ) (x : Slot) → (slot_kind x ≡ lead_kind sort → ⊥) → [] ≡ slot_leads sort finds x
unfolding slot_leads
other_kind sort finds empty h = refl
other_kind sort finds (message m) h = refl
other_kind sort finds (enum e) h = refl
other_kind sort finds (flags f) h = refl
other_kind sort finds (union u) h = refl
other_kind Resolved finds (newtype n) h = absurd (h refl)
other_kind Expression finds (newtype n) h = refl
other_kind sort finds config h = refl
other_kind Resolved finds (alias a) h = refl
other_kind Expression finds (alias a) h = absurd (h refl)
other_kind sort finds (trait t) h = refl
other_kind sort finds (impl i) h = refl

-- a slot that was read where it starts
module _ (ed : Edition) (names : ℕ) (s starts : List ℕ) (row : ℕ) (named : name_count s ≡ names) (l : row < length starts) (x : Slot) (end : ℕ)
    (e : read (slot_at ed names) s (get_or starts row 0) ≡ done x end) where
  here : SlotParts s ed names (get_or starts row 0) x end
  here = slot_parts s ed names (get_or starts row 0) x end e

  part : part_at s starts row ≡ Part.At (slot_kind x) here.body
  part = sym (fetched s starts row l _ _ here.kind_read)

  pub lead_kind_lem : (sort : Sort) (b : Bool) → b ≡ part_leads sort (part_at s starts row) → b ≡ eqb (slot_kind x) (lead_kind sort)
  lead_kind_lem sort b q = q ∙ ap (part_leads sort) part

  -- the tree by which it leads on
  tree_of : (sort : Sort) → slot_kind x ≡ lead_kind sort → (start : ℕ) → start ≡ inside_at s starts row
      → (t : Tree) × (read (tree_at sort names 32) s start ≡ done t end) × ((finds : List ℕ) → slot_leads sort finds x ≡ tree_slots sort finds t)
  unfolding slot_body_at slot_leads tree_slots
  tree_of Resolved q start i =
      let m = made_of s newtype (newtype_at names) here.body x end (rw q at here.body_read) in
      (m.held.terminal, terminal_inside s starts row part i named q m.held end m.reads, λ finds. ap (slot_leads Resolved finds) m.slot_is)
  tree_of Expression q start i =
      let m = made_of s alias (alias_at names) here.body x end (rw q at here.body_read) in
      (m.held.target, target_inside s starts row part i named q m.held end m.reads, λ finds. ap (slot_leads Expression finds) m.slot_is)

module _ (sort : Sort) (finds : List ℕ) (names : ℕ) (s starts : List ℕ) (row : ℕ) (m : List ℕ) (b : Bool) (q : b ≡ part_leads sort (part_at s starts row)) where
  pub row_of : b ≡ true → (start z : ℕ) (m' : List ℕ) → start ≡ inside_at s starts row → TreeMarked sort names 32 finds row s start m m' z
      → SlotMarked sort names finds row s starts m m'
  row_of h start z m' i w named l ed x end e =
      let k = eqb-true (slot_kind x) (lead_kind sort) (sym (lead_kind_lem ed names s starts row named l x end e sort b q) ∙ h) in
      let t = tree_of ed names s starts row named l x end e sort k start i in
      led_as row (sym (t.2 finds)) (w t.0 end t.1).0

  pub row_none : b ≡ false → SlotMarked sort names finds row s starts m m
  row_none h named l ed x end e =
      led_none row (other_kind sort finds x (λ k. not_both _ (eq-eqb (slot_kind x) (lead_kind sort) k) (sym (lead_kind_lem ed names s starts row named l x end e sort b q) ∙ h)))

-- the slots of an image
pub slot_is_lem : (ed : Edition) (names count : ℕ) (s starts : List ℕ) (i : ℕ) → i < count → (x : Slot) (end : ℕ) → read (slot_at ed names) s (get_or starts i 0) ≡ done x end → slots_of ed names count s starts i ≡ x
unfolding slots_of
slot_is_lem ed names count s starts i l x end e = rw (lt-ltb i count l, e)

module _ (sort : Sort) (ed : Edition) (names count : ℕ) (finds s starts : List ℕ) where
  abbrev S : ℕ → Slot
  S = slots_of ed names count s starts

  pub rows_start : (m : List ℕ) → Filled m (leads sort finds S) 0 m
  rows_start m = turns_start (λ a b. a) (leads sort finds S) m

  module _ (p : Located ed names count s starts) where
    pub rows_on : (m₀ m m' : List ℕ) (i : ℕ) → i < count → Filled m₀ (leads sort finds S) i m → SlotMarked sort names finds i s starts m m' → Filled m₀ (leads sort finds S) (i + 1) m'
    unfolding leads
    rows_on m₀ m m' i l r w =
        let q = p.reads i l in
        let y = ap (slot_leads sort finds) (sym (slot_is_lem ed names count s starts i l q.0 q.1 q.2)) in
        let g = grown_as (led_as i y (w p.named (omega (arith, p.room)) ed q.0 q.1 q.2)) (λ a b u v. at_same a i (λ z. has b (slot_leads sort finds (S z)))) in
        turns_on (λ a b. a) (leads sort finds S) m₀ i m m' r g

  pub lowest_is : (m : List ℕ) (r : Lowest) → count ≤ 512 → Filled (replicate 4096 0) (leads sort finds S) count m → r ≡ lowest_looped (grid m) count
      → r ≡ loop_of sort finds S count
  unfolding loop_of
  lowest_is m r few g e =
      e ∙ looped_same (grid m) (leads sort finds S) count
      (λ a b u v. g.places a b (omega (arith, length-replicate {A = ℕ} 4096 0)) (omega arith) ∙ rw (grid_zeros a b, lt-ltb a count u))
