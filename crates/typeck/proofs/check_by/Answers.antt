use mathlib.Core.Path.{refl}
use native.Mathlib.Omega.{arith}
use Rattle.reader.proofs.Judging.{first_places}
use Rattle.turns.proofs.Saying as sizing
use Rattle.typeck.proofs.Saying.{found_said, refused_said, cleared_length, cleared_itself}
use Rattle.typeck.proofs.check_by.Goals as goal

pub slice_bounds-slots-end : goal.slice_bounds-slots-end
slice_bounds-slots-end c = omega (arith, (c.read_into.ensures.promise _ c.in-Accepted.is).few)

pub size_slots-requires : goal.size_slots-requires
size_slots-requires c = rw first_places at (c.read_into.ensures.promise _ c.in-Accepted.is)

pub find-requires : goal.find-requires
find-requires c = (rw first_places at (c.read_into.ensures.promise _ c.in-Accepted.is), cleared_itself _ _ c.clear_findings.ensures)

pub returns-in-Accepted-size_slots : goal.returns-in-Accepted-size_slots
returns-in-Accepted-size_slots c = found_said _ _ _ _ _ _ _ _ _ _ _ _ (sizing.read_said _ _ _ _ _ _ _ _ c.read_into.ensures.answer c.in-Accepted.is (c.read_into.ensures.edition _ c.in-Accepted.is) c.size_slots.ensures) c.in-Accepted-size_slots.is (cleared_length _ _ c.clear_findings.ensures) (c.read_into.ensures.edition _ c.in-Accepted.is) c.find.ensures

pub returns-in-Refused-size_slots : goal.returns-in-Refused-size_slots
returns-in-Refused-size_slots c = refused_said _ _ _ _ _ _ _ _ _ _ (sizing.read_said _ _ _ _ _ _ _ _ c.read_into.ensures.answer c.in-Accepted.is (c.read_into.ensures.edition _ c.in-Accepted.is) c.size_slots.ensures) c.in-Refused-size_slots.is c.clear_findings.ensures

pub returns-in-Refused : goal.returns-in-Refused
returns-in-Refused c = refused_said _ _ _ _ _ _ _ _ _ _ (sizing.refused_said _ _ _ _ _ _ _ _ c.read_into.ensures.answer c.in-Refused.is c.clear.ensures) refl c.clear_findings.ensures
