-- The turns of the check, and the size table.
use Rattle.std.specs.Prelude.{ℕ, zero, suc, ◌+◌, ◌*◌, Bool, true, false, cond, List, [], ◌∷◌, ◌++◌, length, get_or, eqb}
use Rattle.std.proofs.Math.Option.{Option, none, some}
use Rattle.slot.specs.Field.{Stored}
use Rattle.slot.specs.Slot.{Slot, empty, message, enum, flags, union, newtype, config, alias, trait, impl}
use Rattle.graph.specs.Ways.{lowest}
use Rattle.graph.specs.declared.Lowest.{Lowest}
use Rattle.image.specs.Schema.{Schema, slot_of}
use Rattle.sizes.specs.Widths.{enum_bits_at, flags_bytes_at}
use Rattle.sizes.specs.Sizes.{Size, Fixed, Bounded, Open, Operation, Layout, Worked, Sized, Over, Resolver, fields_size, union_size}
use Rattle.sizes.specs.Names.{Content, fields, variants, bits, terminal, anything, content_of, State, nothing, inserted, name_size}

-- ## Turns

-- the size that an image brings
abbrev pub size_in : Stored → Option Size
size_in Stored.none = none
size_in (Stored.fixed b) = some (Fixed b)
size_in (Stored.from l) = some (Open l)
size_in (Stored.bounded l h) = some (Bounded l h)

abbrev pub brought_in : Slot → Option Size
brought_in empty = none
brought_in (message m) = size_in m.stored
brought_in (enum e) = none
brought_in (flags f) = none
brought_in (union u) = size_in u.stored
brought_in (newtype n) = none
brought_in config = none
brought_in (alias a) = none
brought_in (trait t) = none
brought_in (impl m) = none

unfoldable pub brought : Schema → State
brought S i = brought_in (slot_of S i)

abbrev pub is_there : Option Size → Bool
is_there none = false
is_there (some s) = true

-- refusal 15: the lowest slot that brings a size, declared, reached or not
unfoldable pub stored_slot : Schema → Lowest
stored_slot S = lowest (λ i. is_there (brought S i)) (length S.slots) 0

-- a message or union, worked out; no other slot is
unfoldable pub body_size : Layout → Resolver → Content → Option Worked
body_size L r (fields fs) = some (fields_size L r fs)
body_size L r (variants vs) = some (union_size L r vs)
body_size L r (bits b) = none
body_size L r (terminal t) = none
body_size L r anything = none

-- at its turn, the slot itself being worked out
unfoldable pub own_size : Layout → Schema → State → (slot : ℕ) → Option Worked
own_size L S st i = body_size L (name_size L S st (inserted i nothing)) (content_of S i)

unfoldable pub store : (slot : ℕ) → Size → State → State
store i s st j = cond (eqb j i) (some s) (st j)

-- the sizes stored, or what made the first number that passed the limit, and the declared slot being worked
pub data Checked : Type 0 where
  accepted : State → Checked
  refused : Operation → (slot : ℕ) → Checked

unfoldable pub storing : State → (slot : ℕ) → Option Worked → Checked
storing st i none = accepted st
storing st i (some (Sized s)) = accepted (store i s st)
storing st i (some (Over o)) = refused o i

-- one place of the declaration list
unfoldable pub turn : Layout → Schema → State → (slot : ℕ) → Checked
turn L S st i = storing st i (own_size L S st i)

unfoldable pub onward : Checked → (State → Checked) → Checked
onward (accepted st) next = next st
onward (refused o i) next = refused o i

-- the places in order
unfoldable pub turns : Layout → Schema → State → List ℕ → Checked
turns L S st [] = accepted st
turns L S st (i ∷ is) = onward (turn L S st i) (λ st'. turns L S st' is)

-- every turn, from the sizes that the image brings
unfoldable pub check_sizes : Layout → Schema → Checked
check_sizes L S = turns L S (brought S) S.declared

-- ## The size table: three numbers a slot

abbrev pub row : (kind a b : ℕ) → List ℕ
row k a b = k ∷ a ∷ b ∷ []

abbrev pub size_row : Option Size → List ℕ
size_row none = row 0 0 0
size_row (some (Fixed b)) = row 1 b b
size_row (some (Bounded l h)) = row 2 l h
size_row (some (Open l)) = row 3 l 0

unfoldable pub slot_row : Schema → State → (slot : ℕ) → Slot → List ℕ
slot_row S st i empty = row 0 0 0
slot_row S st i (message m) = size_row (st i)
slot_row S st i (enum e) = row 4 (enum_bits_at S i e) 0
slot_row S st i (flags f) = row 5 (flags_bytes_at S i f) 0
slot_row S st i (union u) = size_row (st i)
slot_row S st i (newtype n) = row 0 0 0
slot_row S st i config = row 0 0 0
slot_row S st i (alias a) = row 0 0 0
slot_row S st i (trait t) = row 0 0 0
slot_row S st i (impl m) = row 0 0 0

-- the rows of slots, the first of which has this number
unfoldable pub rows_from : Schema → State → (slot : ℕ) → List Slot → List ℕ
rows_from S st i [] = []
rows_from S st i (x ∷ xs) = slot_row S st i x ++ rows_from S st (suc i) xs

unfoldable pub table_of : Schema → State → List ℕ
table_of S st = rows_from S st 0 S.slots

-- the size that a row of a message or union says
abbrev pub row_size : (kind a b : ℕ) → Option Size
row_size zero a b = none
row_size (suc zero) a b = some (Fixed a)
row_size (suc (suc zero)) a b = some (Bounded a b)
row_size (suc (suc (suc zero))) a b = some (Open a)
row_size (suc (suc (suc (suc k)))) a b = none

-- the computed size of a message or union: its entry in the table
unfoldable pub size_at : (table : List ℕ) → (slot : ℕ) → Option Size
size_at table i = row_size (get_or table (3 * i) 0) (get_or table (3 * i + 1) 0) (get_or table (3 * i + 2) 0)
