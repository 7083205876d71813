use Rattle.turns.proofs.Saying.{gate_ordinary, gate_at, gate_nowhere}
use Rattle.turns.proofs.gate.Goals as goal

pub returns-in-Ordinary : goal.returns-in-Ordinary
returns-in-Ordinary c = gate_ordinary _ _ c.in-Ordinary.is

pub returns-in-At : goal.returns-in-At
returns-in-At c = gate_at _ _ c.in-HeadBoard.is _ c.lowest_stored.ensures _ c.in-At.is

pub returns-in-Nowhere : goal.returns-in-Nowhere
returns-in-Nowhere c = gate_nowhere _ _ c.in-HeadBoard.is _ c.lowest_stored.ensures c.in-Nowhere.is
