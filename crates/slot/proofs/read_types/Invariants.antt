use mathlib.Core.Path.{◌≡◌}
use Rattle.number.specs.Grammar.{many, read}
use Rattle.number.specs.Answers.{next}
use Rattle.slot.specs.Field.{type_at}
use Rattle.slot.proofs.read_types.Given as goal

abbrev pub invariant-loop-left : goal.invariant-loop-left
invariant-loop-left l = next (read (many l.count (type_at l.names)) l.image l.at) ≡ next (read (many l.left (type_at l.names)) l.image l.p)

abbrev pub decreases-loop-left : goal.decreases-loop-left
decreases-loop-left l = l.left
