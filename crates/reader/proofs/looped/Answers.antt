-- Where no slot is of the kind that leads on, none is on a loop.
use mathlib.Core.Path.{sym, ◌∙◌}
use Rattle.loops.specs.Refusals.{slots_past}
use Rattle.loops.proofs.Leading.{nothing_looped}
use Rattle.reader.proofs.looped.Goals as goal

pub returns-then-none_leads : goal.returns-then-none_leads
returns-then-none_leads c = λ ed l. sym (nothing_looped _ _ _ _ (slots_past _ _ _ _ _) (sym (c.none_leads.ensures _ _ l) ∙ c.if-none_leads.true))
