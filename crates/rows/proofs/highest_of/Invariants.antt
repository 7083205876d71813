use Prim.Native.Nat.{◌^◌}
use Rattle.number.specs.Grammar.{value}
use Rattle.sizes.specs.Widths.{highest}
use Rattle.rows.proofs.Taking.{Run}
use Rattle.rows.proofs.highest_of.Given as goal

abbrev pub invariant-loop : goal.invariant-loop
invariant-loop l = Run highest value (2 ^ 32) l.image l.count l.at l.start l.counter l.here l.top
