-- Refusals 8 and 9 as a reader thinks of them: the answer is the lowest slot that leads back to itself. Assumes nothing.
use Rattle.std.specs.Prelude.{ℕ, ◌≤◌, ◌<◌, ◌≡◌, refl, List, true}
use Rattle.std.proofs.Common.{ap, arith, le-ltb}
use Rattle.std.proofs.Math.Decide.{dec_lt}
use Rattle.tree.specs.declared.Sort.{Sort}
use Rattle.slot.specs.Slot.{Slot, empty}
use Rattle.slot.specs.declared.Edition.{Edition}
use Rattle.graph.specs.Ways.{Path, Ends, has}
use Rattle.graph.specs.Loops.{not_both, at_lowest, at_none, is_lowest, all_end}
use Rattle.graph.specs.declared.Lowest.{Lowest}
use Rattle.loops.specs.Leads.{slot_leads, leads, loop_of}
use Rattle.loops.specs.Located.{slots_of}

-- a slot leads back to itself
abbrev pub OnLoop : Sort → (finds : List ℕ) → (slots : ℕ → Slot) → ℕ → Type 0
OnLoop sort finds slots i = Path (leads sort finds slots) i i

pub slots_past : (ed : Edition) (names count : ℕ) (s starts : List ℕ) (i : ℕ) → count ≤ i → slots_of ed names count s starts i ≡ empty
unfolding slots_of
slots_past ed names count s starts i h = rw (le-ltb i count h)

module _ (sort : Sort) (finds : List ℕ) (slots : ℕ → Slot) (count : ℕ) (past : (i : ℕ) → count ≤ i → slots i ≡ empty) where
  held : (i : ℕ) → (slots i ≡ empty → ⊥) → i < count
  held i h = go (dec_lt i count)
    where
      go : Dec (i < count) → i < count
      go (yes l) = l
      go (no l) = absurd (h (past i (omega arith)))

  leads_from : (i j : ℕ) → leads sort finds slots i j ≡ true → i < count
  unfolding leads slot_leads has
  leads_from i j h = held i (λ e. not_both _ h (ap (λ (x : Slot). has j (slot_leads sort finds x)) e))

  pub looped : {x : ℕ} → loop_of sort finds slots count ≡ Lowest.At x
      → OnLoop sort finds slots x × ((j : ℕ) → j < x → OnLoop sort finds slots j → ⊥)
  unfolding loop_of
  looped e = at_lowest (leads sort finds slots) count leads_from e

  pub not_looped : loop_of sort finds slots count ≡ Lowest.Nowhere → (j : ℕ) → OnLoop sort finds slots j → ⊥
  unfolding loop_of
  not_looped e = at_none (leads sort finds slots) count leads_from e

  pub is_looped : (x : ℕ) → OnLoop sort finds slots x → ((j : ℕ) → j < x → OnLoop sort finds slots j → ⊥)
      → loop_of sort finds slots count ≡ Lowest.At x
  unfolding loop_of
  is_looped x p l = is_lowest (leads sort finds slots) count leads_from x p l

  pub is_not_looped : ((j : ℕ) → OnLoop sort finds slots j → ⊥) → loop_of sort finds slots count ≡ Lowest.Nowhere
  is_not_looped h = go (loop_of sort finds slots count) refl
    where
      go : (r : Lowest) → loop_of sort finds slots count ≡ r → r ≡ Lowest.Nowhere
      go (Lowest.At y) e = absurd (h y (looped e).0)
      go Lowest.Nowhere e = refl

  -- without loops no more than 512 slots of a kind follow one another
  pub chains_end : count ≤ 512 → (Node : ℕ → Type 0) → ((i : ℕ) → Node i → slots i ≡ empty → ⊥)
      → loop_of sort finds slots count ≡ Lowest.Nowhere → (i : ℕ) → Ends Node (leads sort finds slots) 512 i
  chains_end few Node full e = all_end Node (leads sort finds slots) (not_looped e) (λ j n. omega (arith, held j (full j n)))
