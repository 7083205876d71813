-- Edition one has no limits. Assumes nothing.
use Rattle.marks.proofs.Fields.{one_marked}
use Rattle.marks.proofs.Source.mark_plain.Goals as goal

pub returns-in-One : goal.returns-in-One
returns-in-One c = rw c.in-One.is (one_marked _ _ _ _ _ _ _ (rw c.in-One.is at c.mark_whole.ensures))
