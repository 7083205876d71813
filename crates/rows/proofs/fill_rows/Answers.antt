use Rattle.rows.proofs.Marking.{known}
use borrow.Author.Rules.{rules}
use Rattle.rows.proofs.fill_rows.Goals as goal

pub put_rows-requires : goal.put_rows-requires
put_rows-requires c = known _ _ _ _ c.requires _ (search rules) c.mark_declared.ensures
