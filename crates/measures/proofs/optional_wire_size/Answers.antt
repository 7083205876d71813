use mathlib.Core.Path.{ap, ◌∙◌}
use mathlib.Core.Option.{some}
use Rattle.sizes.specs.Sizes.{both, largest}
use Rattle.measures.specs.Cut.{cut_sum, high_of}
use Rattle.measures.proofs.Cutting.{one_more}
use Rattle.measures.proofs.optional_wire_size.Goals as goal

pub returns : goal.returns
returns c = one_more _ (largest c.args.size) (high_of c.sum_bounds.result) c.within_limit.ensures c.vary-optional.ensures (c.sum_bounds.ensures ∙ ap (both cut_sum (some 1)) c.wire_size_max_bits.ensures)
