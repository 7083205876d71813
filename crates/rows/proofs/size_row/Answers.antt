use mathlib.Core.Path.{sym, ap}
use mathlib.Core.Option.{some}
use Rattle.sizes.specs.Check.{size_row}
use Rattle.sizes.specs.declared.Size.{Size}
use Rattle.rows.proofs.size_row.Goals as goal

pub returns-in-Fixed : goal.returns-in-Fixed
returns-in-Fixed c = ap (λ (x : Size). size_row (some x)) (sym c.in-Fixed.is)

pub returns-in-Bounded : goal.returns-in-Bounded
returns-in-Bounded c = ap (λ (x : Size). size_row (some x)) (sym c.in-Bounded.is)

pub returns-in-Open : goal.returns-in-Open
returns-in-Open c = ap (λ (x : Size). size_row (some x)) (sym c.in-Open.is)
