-- By the limit, and then by the kind. Assumes nothing.
use Rattle.marks.proofs.Fields.{open_marked, items_marked, entries_marked}
use Rattle.marks.proofs.Source.mark_elements.Goals as goal

pub returns-then-limit-eq0 : goal.returns-then-limit-eq0
returns-then-limit-eq0 c = open_marked _ _ _ _ _ _ _ c.requires.0 c.requires.1 _ _ c.limit_behind-limit.ensures c.if-limit-eq0.true

pub returns-then-kind-eq8 : goal.returns-then-kind-eq8
returns-then-kind-eq8 c = entries_marked _ _ _ _ _ _ _ c.requires.0 c.requires.1 _ _ c.limit_behind-limit.ensures c.if-limit-eq0.false _ _ c.mark_type-second.ensures c.if-kind-eq8.true _ _ c.mark_type.ensures

pub returns-else-kind-eq8 : goal.returns-else-kind-eq8
returns-else-kind-eq8 c = items_marked _ _ _ _ _ _ _ c.requires.0 c.requires.1 _ _ c.limit_behind-limit.ensures c.if-limit-eq0.false _ _ c.mark_type-second.ensures c.if-kind-eq8.false
