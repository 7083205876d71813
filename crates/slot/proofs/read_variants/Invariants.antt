use mathlib.Core.Path.{◌≡◌}
use Rattle.number.specs.Grammar.{many, read}
use Rattle.number.specs.Answers.{next}
use Rattle.slot.specs.Field.{fields_at}
use Rattle.slot.proofs.read_variants.Given as goal

abbrev pub invariant-loop-left : goal.invariant-loop-left
invariant-loop-left l = next (read (many l.count (fields_at l.edition l.names)) l.image l.at) ≡ next (read (many l.left (fields_at l.edition l.names)) l.image l.p)

abbrev pub decreases-loop-left : goal.decreases-loop-left
decreases-loop-left l = l.left
