-- The lowest number that is reached and leads back to itself.
use Rattle.std.specs.Prelude.{ℕ, zero, suc, List, Bool, false, ◌&&◌, ◌||◌, get_or, eqb}
use Rattle.graph.specs.declared.Lowest.{Lowest}
use Rattle.graph.specs.Ways.{Leads, via, lowest}

-- some number below n passes a test
unfoldable pub any_below : (ℕ → Bool) → ℕ → Bool
any_below p zero = false
any_below p (suc n) = any_below p n || p n

-- a start, or what one leads to
unfoldable pub is_from : Leads → (n : ℕ) → (starts : List Bool) → ℕ → Bool
is_from e n starts i = any_below (λ s. get_or starts s false && (eqb s i || via e n s i)) n

-- the lowest number below n that is reached and leads back to itself
unfoldable pub leading_back : Leads → (n : ℕ) → (starts : List Bool) → Lowest
leading_back e n starts = lowest (λ i. is_from e n starts i && via e n i i) n 0
