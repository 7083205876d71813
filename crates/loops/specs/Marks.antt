-- What the code's steps say: which slots lead on, which kinds are gone into, and the marks of a row.
use Rattle.std.specs.Prelude.{ℕ, zero, suc, ◌<◌, ◌≡◌, List, [], ◌∷◌, Bool, true, false, not, ◌&&◌, eqb, ltb, length, get_or}
use Rattle.number.specs.Grammar.{done, read}
use Rattle.tree.specs.Tree.{Tree}
use Rattle.tree.specs.TreeAt.{tree_at}
use Rattle.tree.specs.declared.Sort.{Sort}
use Rattle.tree.specs.declared.Sort.TheVariants.{Resolved, Expression}
use Rattle.slot.specs.Slot.{Slot, slot_kind, slot_at}
use Rattle.slot.specs.declared.Edition.{Edition}
use Rattle.view.specs.Inside.{name_count}
use Rattle.view.specs.declared.Part.{Part}
use Rattle.graph.specs.Ways.{Leads, has}
use Rattle.graph.specs.Table.{Grown}
use Rattle.loops.specs.Leads.{found, tree_slots, slot_leads}

-- the kind of the slots that lead on: newtypes by types, aliases by expressions
abbrev pub lead_kind : Sort → ℕ
lead_kind Resolved = 5
lead_kind Expression = 7

-- is a slot's part of that kind
abbrev pub part_leads : Sort → Part → Bool
part_leads sort (Part.At kind body) = eqb kind (lead_kind sort)
part_leads sort Part.Missing = false

-- is none of the first `count` slots of that kind
unfoldable pub none_leads : Sort → (slots : ℕ → Slot) → (count : ℕ) → Bool
none_leads sort slots zero = true
none_leads sort slots (suc n) = none_leads sort slots n && not (eqb (slot_kind (slots n)) (lead_kind sort))

-- how many names are looked up: types look up none
abbrev pub used_names : Sort → (names : ℕ) → ℕ
used_names Resolved names = 0
used_names Expression names = names

-- the kinds whose children are followed: in types all but Array, Set and Map
unfoldable pub enters : Sort → (kind : ℕ) → Bool
enters Resolved k = not (has k (5 ∷ 7 ∷ 8 ∷ []))
enters Expression k = true

-- what a generic itself leads to
unfoldable pub name_slots : Sort → (finds : List ℕ) → (name : ℕ) → List ℕ
name_slots Resolved finds n = []
name_slots Expression finds n = found (get_or finds n 0)

-- the table with the places of a list set in a row
abbrev pub Led : (before : List ℕ) → (row : ℕ) → (slots : List ℕ) → (after : List ℕ) → Type 0
Led before row slots after = Grown before (λ a b. eqb a row && has b slots) after

-- with what a tree leads to, if one is read at `at`; it ends at `next`
abbrev pub TreeMarked : Sort → (names levels : ℕ) → (finds : List ℕ) → (row : ℕ) → List ℕ → (at : ℕ) → (before after : List ℕ) → (next : ℕ) → Type 0
TreeMarked sort names levels finds row s at before after next =
    (t : Tree) (end : ℕ) → read (tree_at sort names levels) s at ≡ done t end → Led before row (tree_slots sort finds t) after × (next ≡ end)

-- with what a slot leads to, if one is read where it starts
abbrev pub SlotMarked : Sort → (names : ℕ) → (finds : List ℕ) → (row : ℕ) → (s starts before after : List ℕ) → Type 0
SlotMarked sort names finds row s starts before after =
    name_count s ≡ names → row < length starts
    → (ed : Edition) (x : Slot) (end : ℕ) → read (slot_at ed names) s (get_or starts row 0) ≡ done x end → Led before row (slot_leads sort finds x) after

-- with what the first `count` numbers lead to
abbrev pub Filled : (before : List ℕ) → Leads → (count : ℕ) → (after : List ℕ) → Type 0
Filled before edges count after = Grown before (λ a b. ltb a count && edges a b) after
