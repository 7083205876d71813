use borrow.Author.Rules.{rules}
use native.Mathlib.Omega.{arith}
use Rattle.number.proofs.Reading.{told}
use Rattle.turns.proofs.Turning.{turn_held, first_turn, last_turn, stop_turn, over_turn, next_turn, mapped_ok, mapped_err}
use Rattle.std.proofs.lemmas.Result.{err_from_is_err_and}
use Rattle.std.proofs.Common.{Ok}
use Rattle.turns.proofs.take_turns.Goals as goal

pub loop-init : goal.loop-init
loop-init c = first_turn _ _ _ _ _ _ _ c.requires.0.declared

pub take_turn-requires : goal.take_turn-requires
take_turn-requires c =
    let pre = c.requires in
    (pre.0, omega (arith, pre.1, c.loop.invariant.long), turn_held _ _ _ _ _ _ _ _ pre.2 c.loop.invariant)

pub loop-preserved : goal.loop-preserved
loop-preserved c =
    next_turn _ _ _ _ _ _ _ _ c.loop.invariant c.loop-test.true _ _ (told c.read_below.ensures c.in-Value.is) _ _ c.take_turn.ensures
    _ (mapped_ok _ _ _ c.map_err.ensures.cases _ c.in_ok-map_err.was) (search rules)

pub returns-in_err-map_err : goal.returns-in_err-map_err
returns-in_err-map_err c =
    let w = mapped_err _ c.take_turn.result c.map_err.result c.map_err.ensures.cases c.in-Value.slot (λ o x q. search rules) _ c.in_err-map_err.was in
    let p = err_from_is_err_and c.from_residual.result c.from_residual.ensures.1 in
    rw (p.1, p.2, w.2) (over_turn _ _ _ _ _ _ _ _ c.loop.invariant c.loop-test.true _ _ (told c.read_below.ensures c.in-Value.is) _ _ c.take_turn.ensures w.0 w.1)

pub returns-in_default : goal.returns-in_default
returns-in_default c = stop_turn _ _ _ _ _ _ _ _ c.loop.invariant c.loop-test.true _ _ (told c.read_below.ensures c.in_default.is) (Ok tt)

pub returns : goal.returns
returns c = last_turn _ _ _ _ _ _ _ _ c.loop.invariant c.loop-test.false
