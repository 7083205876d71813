-- What the steps of marking say of a table of bits, and of a table of starts.
use Rattle.std.specs.Prelude.{ℕ, ◌≤◌, ◌<◌, ◌≡◌, List, Bool, true, false, ◌&&◌, ◌||◌, eqb, length, get_or}
use Rattle.number.specs.Grammar.{Grammar, done, read}
use Rattle.tree.specs.Tree.{Tree}
use Rattle.slot.specs.Field.{type_at, limit_at}
use Rattle.slot.specs.declared.Edition.{Edition}
use Rattle.graph.specs.Ways.{has}
use Rattle.image.specs.Schema.{Schema, slot_of}
use Rattle.loops.specs.Marks.{Led}
use Rattle.graph.specs.declared.Lowest.{Lowest}
use Rattle.reach.specs.Order.{In}
use Rattle.sizes.specs.Reached.{is_sizable, slot_count, part_leads, is_reached, leading_back}

-- what stands at a position was marked in a row, and `next` is the position after it
pub record Marks {A : Type 0} (g : Grammar A) (parts : A → List ℕ) (s : List ℕ) (at row : ℕ) (before after : List ℕ) (next : ℕ) : Type 0 where
  pub marked : (x : A) (end : ℕ) → read g s at ≡ done x end → Led before row (parts x) after × (next ≡ end)

-- the position after a type and the limit behind it
abbrev pub FieldTo : Edition → (names : ℕ) → List ℕ → (at next : ℕ) → Type 0
FieldTo ed names s at next =
    (t : Tree) (behind l end : ℕ) → read (type_at names) s at ≡ done t behind → read (limit_at ed) s behind ≡ done l end → next ≡ end

-- a declared message or union
abbrev pub is_start : Schema → ℕ → Bool
is_start S i = has i S.declared && is_sizable (slot_of S i)

-- one slot more is a start, if it is a message or union
pub record Begun (S : Schema) (slots slot : ℕ) (before after : List Bool) : Type 0 where
  pub long : length after ≡ length before
  pub places : (i : ℕ) → i < slots → get_or after i false ≡ (get_or before i false || (eqb i slot && is_sizable (slot_of S i)))

-- the starts are the declared messages and unions
pub record Started (S : Schema) (slots : ℕ) (before after : List Bool) : Type 0 where
  pub long : length after ≡ length before
  pub places : (i : ℕ) → i < slots → get_or after i false ≡ is_start S i

-- the slots that are reached and no others, each once, its parts before it; none leads back to itself
pub record Sorted (S : Schema) (order : List ℕ) (m : ℕ) : Type 0 where
  pub short : m ≤ slot_count S
  pub below : (k : ℕ) → k < m → get_or order k 0 < slot_count S
  pub single : (k l : ℕ) → k < l → l < m → get_or order k 0 ≡ get_or order l 0 → ⊥
  pub all : (x : ℕ) → x < slot_count S → is_reached S x ≡ true → In order m x
  pub reached : (k : ℕ) → k < m → is_reached S (get_or order k 0) ≡ true
  pub earlier : (k j : ℕ) → k < m → j < slot_count S → part_leads S (get_or order k 0) j ≡ true → In order k j
  pub no_loop : leading_back S ≡ Lowest.Nowhere
