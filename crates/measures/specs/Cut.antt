-- Numbers cut to 2^63, the least that passes the limit; a largest as the code has it.
use Rattle.std.specs.Prelude.{ℕ, ◌+◌, ◌^◌, min}
use Rattle.std.proofs.Math.Option.{Option, none, some}
use Rattle.measures.specs.declared.Bound.{Bound}

abbrev pub cut_sum : ℕ → ℕ → ℕ
cut_sum x y = min (x + y) (2 ^ 63)

abbrev pub high_of : Bound → Option ℕ
high_of (Bound.Most h) = some h
high_of Bound.None = none
