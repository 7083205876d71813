use Prim.Native.Nat.{◌+◌, ◌*◌}
use lib.ListN.{get_or}
use lib.Bits.{and_le_r}
use native.Mathlib.Omega.{arith}
use Rattle.reach.proofs.Bits.{some_shared, none_shared}
use Rattle.reach.proofs.first_left.Goals as goal

pub returns-then-both-ne0 : goal.returns-then-both-ne0
returns-then-both-ne0 c = let a = c.args in some_shared _ _ _ a.count _ (omega arith) c.if-both-ne0.true (omega (arith, c.type_inv.left c.loop-w.w, and_le_r (get_or a.rows.now (a.i * 8 + c.loop-w.w) 0) (get_or a.left.now c.loop-w.w 0)))

pub returns : goal.returns
returns c = none_shared _ _ _ _ _ (omega arith) c.loop-w.invariant
