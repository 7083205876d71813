-- The schema that an image holds.
use Rattle.std.specs.Prelude.{ℕ, List, get_or}
use Rattle.slot.specs.Slot.{Slot, empty}

pub record Schema : Type 0 where
  -- for each name what `find_type` finds: 0, or a slot + 1
  pub finds : List ℕ
  pub slots : List Slot
  -- the slots declared, which may repeat or point nowhere
  pub declared : List ℕ

-- a slot by its number; past the slots there is nothing
unfoldable pub slot_of : Schema → ℕ → Slot
slot_of S i = get_or S.slots i empty
