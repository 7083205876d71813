use mathlib.Core.Path.{◌≡◌}
use Rattle.number.specs.Grammar.{Role, number, many, read}
use Rattle.number.specs.Answers.{next}
use Rattle.number.proofs.skip_numbers.Given as goal

abbrev pub invariant-loop-left : goal.invariant-loop-left
invariant-loop-left l = (role : Role) → next (read (many l.count (number role l.limit)) l.image l.at) ≡ next (read (many l.left (number role l.limit)) l.image l.p)

abbrev pub decreases-loop-left : goal.decreases-loop-left
decreases-loop-left l = l.left
