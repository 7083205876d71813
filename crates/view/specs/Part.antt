-- A slot's part of the image: its kind, and where what the kind holds stands.
use Rattle.std.specs.Prelude.{ℕ, List, cond, length, get_or, ltb}
use Rattle.number.specs.Grammar.{Outcome, done, refused, below}
use Rattle.view.specs.declared.Part.{Part}

abbrev pub part_of : Outcome ℕ → Part
part_of (done kind body) = Part.At kind body
part_of (refused r p) = Part.Missing

-- by where the slots start, one place a slot; missing past the last, or where no kind is read
unfoldable pub part_at : (s starts : List ℕ) → (slot : ℕ) → Part
part_at s starts k = cond (ltb k (length starts)) (part_of (below 10 s (get_or starts k 0))) Part.Missing
