use Rattle.std.proofs.Common.{rules}
use Rattle.graph.proofs.Rows.{row_told}
use Rattle.graph.proofs.row_is_empty.Goals as goal

pub returns : goal.returns
returns c = row_told _ _ c.requires (λ i. (c.type_inv.rows i).fits) _ (search rules)
