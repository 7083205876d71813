-- What the names of an image find, read from a position on.
use Rattle.std.specs.Prelude.{ℕ, zero, suc, List, [], ◌∷◌}
use Rattle.number.specs.Grammar.{Outcome, done, refused, below}

-- a number that was read, and what follows it; a refusal ends the list
abbrev pub finds_on : Outcome ℕ → (ℕ → List ℕ) → List ℕ
finds_on (done v n) rest = v ∷ rest n
finds_on (refused r p) rest = []

-- of so many names, each 0 or a slot + 1; where one does not read, those before it
unfoldable pub finds_at : (count : ℕ) → List ℕ → (at : ℕ) → List ℕ
finds_at zero s at = []
finds_at (suc n) s at = finds_on (below 513 s at) (finds_at n s)
