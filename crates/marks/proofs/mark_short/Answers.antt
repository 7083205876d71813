-- A name in Default, another leaf in Default, or another encoding. Assumes nothing.
use Rattle.marks.proofs.Fields.{short_name, short_leaf_lem, short_coded}
use Rattle.marks.proofs.mark_short.Goals as goal
use Rattle.marks.proofs.mark_short.Goals.{else-encoding-eq0-via-then-encoding-eq0+else-kind-eq3, else-encoding-eq0-via-else-encoding-eq0}

pub returns-then-kind-eq3 : goal.returns-then-kind-eq3
returns-then-kind-eq3 c = λ names at s q. short_name _ _ _ _ c.if-encoding-eq0.true c.if-kind-eq3.true _ c.mark.ensures

pub returns-else-encoding-eq0 : goal.returns-else-encoding-eq0
returns-else-encoding-eq0 c =
    λ names at s q.
    elim c.else-encoding-eq0.branch [
      | else-encoding-eq0-via-then-encoding-eq0+else-kind-eq3 w ↦ short_leaf_lem _ _ _ _ w.if-encoding-eq0.true w.if-kind-eq3.false
      | else-encoding-eq0-via-else-encoding-eq0 w ↦ short_coded _ _ _ _ w.if-encoding-eq0.false names at s q
    ]
