use Rattle.matching.proofs.Leaves.{bits_same, bits_differ}
use Rattle.matching.proofs.same_leaf.Goals as goal

pub returns-then-not-same_names : goal.returns-then-not-same_names
returns-then-not-same_names c = bits_differ _ _ _ _ _ _ c.if-a-b.false c.if-a-b-3.false c.if-a-eq16.true _ _ c.names_start-x.ensures c.names_start-y.ensures _ c.same_names.ensures c.if-not-same_names.true

pub returns-else-not-same_names : goal.returns-else-not-same_names
returns-else-not-same_names c = bits_same _ _ _ _ _ _ c.if-a-b.false c.if-a-b-3.false c.if-a-eq16.true _ _ c.names_start-x.ensures c.names_start-y.ensures _ c.same_names.ensures c.if-not-same_names.false
