use Prim.Native.Nat.{ℕ}
use mathlib.Core.Path.{◌≡◌}
use Rattle.number.specs.Grammar.{done, read}
use Rattle.tree.specs.Encoding.{Encoding, encoding_at}
use Rattle.settling.proofs.Encodings.{Inner}
use Rattle.settling.proofs.read_coded.Given as goal

abbrev pub invariant-loop-levels : goal.invariant-loop-levels
invariant-loop-levels l = (e : Encoding) (end : ℕ) → read (encoding_at 32) l.image l.at ≡ done e end → Inner l.image l.p l.levels e end

abbrev pub decreases-loop-levels : goal.decreases-loop-levels
decreases-loop-levels l = l.levels
