-- What the step that looks for a lost name answers.
use Rattle.std.specs.Prelude.{ℕ, zero, suc, List, Bool, true, false, eqb}
use Rattle.view.specs.Part.{part_at}
use Rattle.view.specs.declared.Part.{Part}

abbrev pub empty_part : Part → Bool
empty_part (Part.At kind body) = eqb kind 0
empty_part Part.Missing = true

-- does a name that finds slot + 1 find one that is empty or missing? One that finds 0 finds none
unfoldable pub lost_at : (s starts : List ℕ) → (find : ℕ) → Bool
lost_at s starts zero = false
lost_at s starts (suc i) = empty_part (part_at s starts i)
