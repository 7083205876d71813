-- The type, and then its limit. Assumes nothing.
use Rattle.marks.proofs.Fields.{limit_end, whole_marked}
use Rattle.marks.proofs.Source.mark_whole.Goals as goal

pub returns : goal.returns
returns c = whole_marked _ _ _ _ _ c.args.self.now.edition _ _ _ c.mark_type-behind.ensures (limit_end c.args.self.now.edition _ c.mark_type-behind.result c.place_of.ensures c.skip_limit.ensures)
