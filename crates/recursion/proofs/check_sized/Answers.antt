use Rattle.recursion.proofs.Checking.{tables}
use Rattle.recursion.proofs.check_sized.Goals as goal

pub check_declared-requires : goal.check_declared-requires
check_declared-requires g c = (tables g.row.N c.requires.0 c.requires.1 c.requires.2 _ _ _ c.list_slots.ensures, c.requires.0.blank)
