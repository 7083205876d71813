use native.Mathlib.Omega.{arith}
use Rattle.turns.proofs.Saying.{few_places, passed_limit, all_passed, at_through}
use borrow.Author.Rules.{rules}
use Rattle.turns.proofs.work_out.Goals as goal

pub returns-then-sizes-frame : goal.returns-then-sizes-frame
returns-then-sizes-frame c = few_places _ _ _ _ (omega (arith, c.requires.count, c.if-sizes-frame.true)) c.clear.ensures

pub take_turns-requires : goal.take_turns-requires
take_turns-requires c =
    let pre = c.requires in
    (pre, omega (arith, c.if-sizes-frame.false), record { base = _; room = omega (arith, pre.count, c.if-sizes-frame.false); filled = c.fill_rows.ensures })

pub returns-in-Ok : goal.returns-in-Ok
returns-in-Ok c = all_passed _ _ _ _ (omega (arith, c.requires.count, c.if-sizes-frame.false)) _ c.clear.ensures (at_through _ _ _ _ _ _ (c.take_turns.ensures _ (omega (arith, c.requires.count, c.if-sizes-frame.false)) c.fill_rows.ensures) c.in-Ok.is)

pub returns-in-Err : goal.returns-in-Err
returns-in-Err c =
    let count = c.requires.count in
    passed_limit _ _ _ _ (omega (arith, count, c.if-sizes-frame.false)) _ _ _ _ c.refusal_of.ensures (search rules)
    (at_through _ _ _ _ _ _ (c.take_turns.ensures _ (omega (arith, count, c.if-sizes-frame.false)) c.fill_rows.ensures) c.in-Err.is) c.clear-in-Err.ensures
