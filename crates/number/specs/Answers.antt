-- What the answers of the code's readers say.
use Rattle.std.specs.Prelude.{ℕ}
use Rattle.number.specs.Grammar.{Outcome, done, refused}
use Rattle.number.specs.declared.Ranged.{Ranged}
use Rattle.number.specs.declared.Next.{Next}

-- a number in its range
abbrev pub outcome : Ranged → Outcome ℕ
outcome (Ranged.Value v next) = done v next
outcome (Ranged.Refused r p) = refused r p

-- where something ends, what was read left out
abbrev pub next : {A : Type 0} → Outcome A → Next
next (done a n) = Next.At n
next (refused r p) = Next.Refused r p

-- what follows a position that was reached; a refusal ends it
unfoldable pub follow : Next → (ℕ → Next) → Next
follow (Next.At n) g = g n
follow (Next.Refused r p) g = Next.Refused r p
