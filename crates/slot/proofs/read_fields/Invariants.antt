use mathlib.Core.Path.{◌≡◌}
use Rattle.number.specs.Grammar.{many, read}
use Rattle.number.specs.Answers.{next}
use Rattle.slot.specs.Field.{field_at}
use Rattle.slot.proofs.read_fields.Given as goal

abbrev pub invariant-loop-left : goal.invariant-loop-left
invariant-loop-left l = next (read (many l.count (field_at l.edition l.names)) l.image l.at) ≡ next (read (many l.left (field_at l.edition l.names)) l.image l.p)

abbrev pub decreases-loop-left : goal.decreases-loop-left
decreases-loop-left l = l.left
