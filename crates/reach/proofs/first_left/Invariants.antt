-- The first w words of the row have nothing that is left.
use Prim.Native.Nat.{ℕ, ◌<◌}
use mathlib.Core.Path.{◌≡◌}
use Rattle.reach.proofs.Bits.{shared}
use Rattle.reach.proofs.first_left.Given as goal

abbrev pub invariant-loop-w : goal.invariant-loop-w
invariant-loop-w l = (x : ℕ) → x < l.w → shared l.rows l.left l.i x ≡ 0
