-- Facts at each number of a range. Assumes nothing.
use Prim.Native.Nat.{ℕ, zero, suc, ◌+◌, ◌≤◌, ◌<◌}
use mathlib.Core.Path.{◌≡◌, subst}
use mathlib.Core.Logic.{⊎_elim}
use native.Mathlib.Nat.{eq-or-lt_of_le}
use native.Mathlib.Omega.{arith}

-- a property at each number of a range, written out
abbrev pub Each : (ℕ → Type 0) → ℕ → ℕ → Type 0
Each P from zero = Unit {0}
Each P from (suc n) = P from × Each P (suc from) n

pub each : (P : ℕ → Type 0) (from n : ℕ) → Each P from n → (k : ℕ) → from ≤ k → k < from + n → P k
each P from zero ps k l h = absurd (omega arith)
each P from (suc n) ps k l h =
    ⊎_elim (λ e. subst P e ps.0) (λ g. each P (suc from) n ps.1 k g (omega arith)) (eq-or-lt_of_le l)

-- a bound from a number that is another
pub past : (a k : ℕ) → a ≤ k → (k ≡ a → ⊥) → a + 1 ≤ k
past a k h n = omega arith
