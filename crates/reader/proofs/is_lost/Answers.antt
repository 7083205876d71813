use mathlib.Core.Path.{sym, ◌∙◌}
use Rattle.reader.proofs.Losing.{lost_none, lost_part}
use Rattle.reader.proofs.is_lost.Goals as goal

pub returns-then-find-eq0 : goal.returns-then-find-eq0
returns-then-find-eq0 c = lost_none _ _ _ c.if-find-eq0.true

pub returns-in-At : goal.returns-in-At
returns-in-At c = lost_part _ _ _ c.if-find-eq0.false _ (sym c.slot_part.ensures ∙ c.in-At.is)

pub returns-in-Missing : goal.returns-in-Missing
returns-in-Missing c = lost_part _ _ _ c.if-find-eq0.false _ (sym c.slot_part.ensures ∙ c.in-Missing.is)
