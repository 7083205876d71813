-- A type and its limit end where the cursor stands. Assumes nothing.
use Rattle.marks.proofs.Fields.{passed}
use Rattle.marks.proofs.Source.pass_field.Goals as goal

pub returns : goal.returns
returns c = passed c.args.self.now.edition _ _ _ c.read_tree-behind.ensures c.skip_limit.ensures c.place_of.ensures
