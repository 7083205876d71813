-- The size table as a name reads it.
use Rattle.std.specs.Prelude.{ℕ, ◌+◌, ◌*◌, ◌<◌, ◌≡◌, List, [], ◌∷◌, length, get_or}
use Rattle.image.specs.Schema.{Schema, slot_of}
use Rattle.sizes.specs.declared.Size.TheVariants.{Fixed, Bounded, Open}
use Rattle.sizes.specs.declared.Worked.TheVariants.{Sized}
use Rattle.sizes.specs.Sizes.{limited_product, multiplied}
use Rattle.sizes.specs.Names.{State}
use Rattle.sizes.specs.Check.{slot_row}
use Rattle.wiresize.specs.declared.Row.{Row}

-- from kind 0 on; flags count bytes
unfoldable pub row_by : (kind a b : ℕ) → Row
row_by k a b =
    get_or
    (Row.None ∷ Row.Known (Sized (Fixed a)) ∷ Row.Known (Sized (Bounded a b)) ∷ Row.Known (Sized (Open a)) ∷ Row.Known (Sized (Fixed a))
    ∷ Row.Known (limited_product (multiplied 8 (Fixed a))) ∷ [])
    k Row.None

abbrev pub row_at : (rows : List ℕ) → (slot : ℕ) → Row
row_at rows i = row_by (get_or rows (3 * i) 0) (get_or rows (3 * i + 1) 0) (get_or rows (3 * i + 2) 0)

-- the table holds the rows of a schema's slots, from its first place on
pub record RowsHold (S : Schema) (st : State) (rows : List ℕ) : Type 0 where
  pub place : (i d : ℕ) → i < length S.slots → d < 3 → get_or rows (3 * i + d) 0 ≡ get_or (slot_row S st i (slot_of S i)) d 0
