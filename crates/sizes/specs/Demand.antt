-- Demand 3: one claim about a schema and its whole size table.
use Rattle.std.specs.Prelude.{◌≡◌, ℕ, ◌+◌, ◌↔◌}
use mathlib.Core.List.{List, [], ◌∷◌, ◌++◌, Memᴰ}
use Rattle.std.proofs.Math.Option.{Option, none, some}
use Rattle.slot.specs.Field.{Field}
use Rattle.slot.specs.Slot.{Slot, Message, Union, message, union}
use Rattle.image.specs.Schema.{Schema, slot_of}
use Rattle.sizes.specs.Sizes.{Size, Layout, Fixed, smallest, largest, Sized, Resolver, field_size}
use Rattle.sizes.specs.Names.{State, nothing, inserted, name_size}
use Rattle.sizes.specs.Check.{accepted, turns, brought, size_at}
use Rattle.sizes.specs.Lengths.{SlotLength, NothingLeadsBack, Encloses, Trusted}

-- a message or a union
pub data Sizable : Slot → Type 0 where
  is_message : {m : Message} → Sizable (message m)
  is_union : {u : Union} → Sizable (union u)

-- the declaration list holds a message's or a union's number
pub record Declared (S : Schema) (i : ℕ) : Type 0 where
  pub listed : Memᴰ i S.declared
  pub sizable : Sizable (slot_of S i)

abbrev pub AtLargest : (ℕ → Type 0) → Option ℕ → Type 0
AtLargest P (some h) = P h
AtLargest P none = Unit {0}

-- some value has exactly the smallest length, and some value exactly the largest where there is one
pub record Attained (P : ℕ → Type 0) (s : Size) : Type 0 where
  pub low : P (smallest s)
  pub high : AtLargest P (largest s)

-- the image brings no stored size
abbrev pub BringsNone : Schema → Type 0
BringsNone S = (i : ℕ) → brought S i ≡ none

-- a slot's last turn: its last place in the declaration list, and the sizes that are stored then
pub record LastTurn (L : Layout) (S : Schema) (i : ℕ) : Type 0 where
  pub earlier : List ℕ
  pub later : List ℕ
  pub places : S.declared ≡ earlier ++ (i ∷ later)
  pub not_later : ¬ Memᴰ i later
  pub stored : State
  pub reached : turns L S (brought S) earlier ≡ accepted stored

-- a name at a turn, the turn's own slot being worked out
abbrev pub names_at : (L : Layout) (S : Schema) (i : ℕ) → LastTurn L S i → Resolver
names_at L S i last = name_size L S last.stored (inserted i nothing)

-- every one of the fields' sizes is Fixed, and this is their sum
pub data AllFixed (L : Layout) (r : Resolver) : List Field → ℕ → Type 0 where
  no_field : AllFixed L r [] 0
  one_field : {f : Field} {fs : List Field} {a b : ℕ} → field_size L r f ≡ Sized (Fixed a) → AllFixed L r fs b →
      AllFixed L r (f ∷ fs) (a + b)

pub record Demand3 (L : Layout) (S : Schema) (table : List ℕ) : Type 0 where
  -- a declared message or union has a computed size
  pub computed : (i : ℕ) → Declared S i → (s : Size) × (size_at table i ≡ some s)
  -- if each stored size that the image brings is ordered and encloses its type's lengths, so does each computed size
  pub enclosed : Trusted L S (brought S) → (i : ℕ) → Declared S i → (s : Size) → size_at table i ≡ some s →
      Encloses (SlotLength L S i) s
  -- if the image brings none, and nothing that the type is made of leads back to itself, smallest and largest are lengths
  pub attained : BringsNone S → (i : ℕ) → Declared S i → NothingLeadsBack S i → (s : Size) → size_at table i ≡ some s →
      Attained (SlotLength L S i) s
  -- whatever the image brings: there is a last turn, and a declared message is Fixed exactly when every one of its fields'
  -- sizes is Fixed at it, and is then their sum
  pub last_turn : (i : ℕ) → Declared S i → LastTurn L S i
  pub fixed_when : (i : ℕ) (last : LastTurn L S i) (m : Message) → slot_of S i ≡ message m → (b : ℕ) →
      (size_at table i ≡ some (Fixed b)) ↔ AllFixed L (names_at L S i last) m.fields b
