-- Only expressions ask what names find.
use Rattle.marks.proofs.Fields.{type_marked}
use Rattle.marks.proofs.Source.mark_type.Goals as goal

pub returns : goal.returns
returns c = type_marked _ _ _ _ _ _ _ _ c.mark_tree.ensures
