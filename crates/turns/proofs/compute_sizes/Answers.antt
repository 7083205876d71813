use native.Mathlib.Omega.{arith}
use Rattle.reader.proofs.Judging.{first_places}
use Rattle.turns.proofs.Saying.{read_said, refused_said}
use Rattle.turns.proofs.compute_sizes.Goals as goal

pub slice_bounds-size_slots-end : goal.slice_bounds-size_slots-end
slice_bounds-size_slots-end c = omega (arith, (c.read_into.ensures.promise _ c.in-Accepted.is).few)

pub size_slots-requires : goal.size_slots-requires
size_slots-requires c = rw first_places at (c.read_into.ensures.promise _ c.in-Accepted.is)

pub returns-in-Accepted : goal.returns-in-Accepted
returns-in-Accepted c = read_said _ _ _ _ _ _ _ _ c.read_into.ensures.answer c.in-Accepted.is (c.read_into.ensures.edition _ c.in-Accepted.is) c.size_slots.ensures

pub returns-in-Refused : goal.returns-in-Refused
returns-in-Refused c = refused_said _ _ _ _ _ _ _ _ c.read_into.ensures.answer c.in-Refused.is c.clear.ensures
