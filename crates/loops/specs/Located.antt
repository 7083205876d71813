-- Contracts of inner functions: the slots of an image by where they start.
use Rattle.std.specs.Prelude.{ℕ, ◌≤◌, ◌<◌, ◌≡◌, List, cond, ltb, length, get_or}
use Rattle.number.specs.Grammar.{Outcome, done, refused, read}
use Rattle.slot.specs.Slot.{Slot, empty, slot_at}
use Rattle.slot.specs.declared.Edition.{Edition}
use Rattle.view.specs.Inside.{name_count}

abbrev pub slot_or : Outcome Slot → Slot
slot_or (done x n) = x
slot_or (refused r p) = empty

-- the slots of an image, from where they start; past the last there is none
unfoldable pub slots_of : Edition → (names count : ℕ) → (s starts : List ℕ) → ℕ → Slot
slots_of ed names count s starts i = cond (ltb i count) (slot_or (read (slot_at ed names) s (get_or starts i 0))) empty

-- a slot was read at each start, of as many as there are slots, in an image of so many names
pub record Located (ed : Edition) (names count : ℕ) (s starts : List ℕ) : Type 0 where
  pub few : count ≤ 512
  pub room : length starts ≡ count
  pub named : name_count s ≡ names
  pub reads : (i : ℕ) → i < count → (x : Slot) × (end : ℕ) × (read (slot_at ed names) s (get_or starts i 0) ≡ done x end)
