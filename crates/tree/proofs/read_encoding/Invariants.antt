use mathlib.Core.Path.{◌≡◌}
use Rattle.number.specs.Grammar.{read}
use Rattle.number.specs.Answers.{next}
use Rattle.tree.specs.Encoding.{encoding_at}
use Rattle.tree.proofs.read_encoding.Given as goal

abbrev pub invariant-loop-levels : goal.invariant-loop-levels
invariant-loop-levels l = next (read (encoding_at 32) l.image l.at) ≡ next (read (encoding_at l.levels) l.image l.p)

abbrev pub decreases-loop-levels : goal.decreases-loop-levels
decreases-loop-levels l = l.levels
