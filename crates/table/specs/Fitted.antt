-- A list in a table.
use Rattle.std.specs.Prelude.{ℕ, zero, suc, List, [], ◌∷◌}

-- a table of so many places: the list as far as it reaches, and zeros after it
unfoldable pub fitted : (places : ℕ) → List ℕ → List ℕ
fitted zero l = []
fitted (suc n) [] = 0 ∷ fitted n []
fitted (suc n) (x ∷ l) = x ∷ fitted n l
