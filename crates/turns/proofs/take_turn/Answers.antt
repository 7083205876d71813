use native.Mathlib.Omega.{arith}
use Rattle.turns.proofs.Turning.{holds, beyond, other, over, sized}
use Rattle.turns.proofs.take_turn.Goals as goal

pub returns-then-scope-slot : goal.returns-then-scope-slot
returns-then-scope-slot c = λ l st h e. beyond _ _ _ _ _ _ h e (omega (arith, c.requires.0.count, c.if-scope-slot.true))

pub own_size-requires : goal.own_size-requires
own_size-requires c = (c.requires.0, omega arith, c.requires.1, c.requires.2)

pub put_row-requires : goal.put_row-requires
put_row-requires c = omega (arith, c.requires.1, c.if-scope-slot.false)

pub returns-in-Sized : goal.returns-in-Sized
returns-in-Sized c = λ l st h e. sized _ _ _ _ _ _ h e _ _ (c.own_size.ensures.turn st (holds _ st l _ h e)) c.in-Sized.is _ _ c.size_row.ensures c.put_row.ensures

pub returns-in-Over : goal.returns-in-Over
returns-in-Over c = λ l st h e. over _ _ _ _ _ _ h e _ _ (c.own_size.ensures.turn st (holds _ st l _ h e)) c.in-Over.is

pub returns-in-Other : goal.returns-in-Other
returns-in-Other c = λ l st h e. other _ _ _ _ _ _ h e _ (c.own_size.ensures.turn st (holds _ st l _ h e)) c.in-Other.is
