use Prim.Native.Nat.{◌+◌, ◌-◌}
use native.Mathlib.Omega.{arith}
use mathlib.Core.Path.{◌≡◌}
use Rattle.number.proofs.Reading.{told}
use Rattle.recursion.proofs.Checking.{first_turn, small_count, never_refused, next_turn, last_turn}
use Rattle.recursion.proofs.check_declared.Goals as goal

pub loop-init : goal.loop-init
loop-init c =
    let n = c.args.frame.declarations in
    let z : n - 0 ≡ n = omega arith in
    rw z (first_turn _ _ _ c.requires.0.promise _ c.requires.1)

pub returns-in_default : goal.returns-in_default
returns-in_default c = absurd (never_refused _ _ _ _ _ _ _ c.loop.invariant (omega arith) _ _ (told c.read_below.ensures c.in_default.is))

pub check_slot-count-requires : goal.check_slot-count-requires
check_slot-count-requires c = (c.requires.0, small_count _ _ _ _ _ _ _ c.loop.invariant (omega arith))

pub loop-preserved : goal.loop-preserved
loop-preserved c =
    let n = c.args.frame.declarations in
    let e : n - (c.loop.counter + 1) ≡ n - c.loop.counter - 1 = omega arith in
    rw e (next_turn _ _ _ _ _ _ _ c.loop.invariant (omega arith) _ _ (told c.read_below.ensures c.in-Value.is) _ _ c.check_slot-count.ensures)

pub returns : goal.returns
returns c = last_turn _ _ _ _ _ _ _ c.loop.invariant (omega arith)
