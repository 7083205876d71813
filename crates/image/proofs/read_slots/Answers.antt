use mathlib.Core.Path.{sym, ◌∙◌}
use Rattle.image.proofs.Tables.{first_turn, stop_turn, last_turn, next_turn}
use Rattle.image.proofs.read_slots.Goals as goal

pub loop-i-init : goal.loop-i-init
loop-i-init c = first_turn _ _ _ _ _ _

pub loop-i-preserved : goal.loop-i-preserved
loop-i-preserved c = next_turn _ _ _ _ _ _ _ _ _ c.loop-i.invariant c.loop-i-test.true _ _ (sym c.read_slot.ensures ∙ c.in-At.is) c.note.ensures

pub shape_of-starts-in-Refused : goal.shape_of-starts-in-Refused
shape_of-starts-in-Refused c = c.loop-i.invariant.long

pub returns-in-Refused : goal.returns-in-Refused
returns-in-Refused c =
    let z = stop_turn _ _ _ _ _ _ _ _ _ c.loop-i.invariant c.loop-i-test.true _ _ (sym c.read_slot.ensures ∙ c.in-Refused.is) in
    record { end = z.0; table = z.1 }

pub shape_of-starts : goal.shape_of-starts
shape_of-starts c = c.loop-i.invariant.long

pub returns : goal.returns
returns c =
    let z = last_turn _ _ _ _ _ _ _ _ _ c.loop-i.invariant c.loop-i-test.false in
    record { end = z.0; table = z.1 }
