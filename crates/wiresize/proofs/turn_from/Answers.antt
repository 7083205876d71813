use Rattle.wiresize.proofs.turn_from.Goals as goal

pub returns-in-Sized : goal.returns-in-Sized
returns-in-Sized c = simp c.in-Sized.is

pub returns-in-Over : goal.returns-in-Over
returns-in-Over c = simp c.in-Over.is
