-- Where a cursor stands, and a number taken at a position.
use Rattle.std.specs.Prelude.{ℕ, ◌^◌, List}
use Rattle.number.specs.Grammar.{Outcome, done, refused, below}
use Rattle.number.specs.declared.Next.{Next}
use Rattle.view.specs.declared.Taken.{Taken}

-- after a refusal a cursor stands at the refusal's place
abbrev pub place_of : Next → ℕ
place_of (Next.At n) = n
place_of (Next.Refused r p) = p

-- a number and the position after it; where none reads, 0 and the refusal's place
abbrev pub taken_of : Outcome ℕ → Taken
taken_of (done v n) = record { value = v; next = n }
taken_of (refused r p) = record { value = 0; next = p }

-- a number below 2^32 at a position
abbrev pub taken_at : List ℕ → (at : ℕ) → Taken
taken_at s at = taken_of (below (2 ^ 32) s at)
