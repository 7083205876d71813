-- The walk for endless types over the tables of a schema's names.
use Rattle.std.specs.Prelude.{ℕ, ◌+◌, ◌-◌, ◌/◌, ◌%◌, ◌^◌, ◌<◌, ◌≤◌, ◌≡◌, List, [], ◌∷◌, Bool, false, ◌&&◌, eqb, length, get_or, take, drop}
use Rattle.slot.specs.Slot.{message, Message}
use Rattle.graph.specs.Loops.{weight, unvisited}
use Rattle.image.specs.Schema.{Schema, slot_of}
use Rattle.findings.specs.Endless.{Walk, walk_name, endless_in}
use Rattle.findings.specs.declared.RecursionState.{RecursionState}
use Rattle.parts.specs.Names.{all_of, slot_names, is_message}

-- a name as the table has it: only one that stands bare can be direct
unfoldable pub walk_part : Walk → (direct : Bool) → (part : ℕ) → RecursionState → RecursionState
walk_part name d p st = name (p / 2) (d && eqb (p % 2) 1) st

unfoldable pub walk_parts : Walk → (direct : Bool) → List ℕ → RecursionState → RecursionState
walk_parts name d [] st = st
walk_parts name d (p ∷ ps) st = walk_parts name d ps (walk_part name d p st)

-- the names of a slot
unfoldable pub row : (first parts : List ℕ) → ℕ → List ℕ
row first parts i = take (get_or first (i + 1) 0 - get_or first i 0) (drop (get_or first i 0) parts)

-- tables that hold the names of a schema's slots
pub record Held (S : Schema) (messages : List Bool) (first parts : List ℕ) : Type 0 where
  pub marks : length messages ≡ 512
  pub places : length first ≡ 513
  pub few : length S.slots ≤ 512
  pub message : (i : ℕ) → get_or messages i false ≡ is_message (slot_of S i)
  pub inside : (i : ℕ) → get_or first (i + 1) 0 ≤ length parts
  pub names : (i : ℕ) → row first parts i ≡ slot_names (slot_of S i)
  pub most : length (all_of slot_names S.slots) ≤ 32768

-- the names of the slots that were not visited: so many findings can come at most
abbrev pub room : Schema → List Bool → ℕ
room S w = weight w (λ i. length (slot_names (slot_of S i)))

-- with `more` names at hand, the count of findings stays small
pub record Asked (messages : List Bool) (first parts : List ℕ) (st : RecursionState) (more : Schema → ℕ) : Type 0 where
  pub schema : Schema
  pub held : Held schema messages first parts
  pub fits : st.count + room schema st.visited + more schema < 2 ^ 32

-- no more names are within one another than slots are not visited
pub record PartWalked (messages : List Bool) (first parts : List ℕ) (part : ℕ) (d : Bool) (before after : RecursionState) : Type 0 where
  pub walked : (S : Schema) → Held S messages first parts → (n : ℕ) → unvisited before.visited < n
      → after ≡ walk_part (λ j e t. walk_name S n j e t) d part before

pub record SlotWalked (messages : List Bool) (first parts : List ℕ) (slot : ℕ) (d : Bool) (before after : RecursionState) : Type 0 where
  pub walked : (S : Schema) → Held S messages first parts → (n : ℕ) → unvisited before.visited < n
      → after ≡ walk_parts (λ j e t. walk_name S n j e t) d (slot_names (slot_of S slot)) before

-- what a slot's own names add
abbrev pub own_names : (slot : ℕ) → Schema → ℕ
own_names i S = length (slot_names (slot_of S i))

-- tables of some schema, which has a message in that slot
pub record Countable (messages : List Bool) (first parts : List ℕ) (slot : ℕ) : Type 0 where
  pub schema : Schema
  pub held : Held schema messages first parts
  pub within : slot < 512
  pub holder : Message
  pub there : slot_of schema slot ≡ message holder

-- how often that message holds itself
pub record Counted (messages : List Bool) (first parts : List ℕ) (slot r : ℕ) : Type 0 where
  pub count : (a : Countable messages first parts slot) → r ≡ endless_in a.schema slot a.holder.fields
  pub most : r ≤ 65536
