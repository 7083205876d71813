use mathlib.Core.Path.{ap₂, ◌∙◌}
use Rattle.sizes.specs.Sizes.{both, largest}
use Rattle.measures.specs.Cut.{cut_sum, high_of}
use Rattle.measures.proofs.Cutting.{summed}
use Rattle.measures.proofs.add_varying.Goals as goal

pub returns : goal.returns
returns c =
    let args = c.args in
    summed _ _ (largest args.a) (largest args.b) _ (high_of c.sum_bounds.result) c.within_limit.ensures c.vary-varying.ensures
    (c.sum.ensures ∙ ap₂ cut_sum c.wire_size_min_bits.ensures c.wire_size_min_bits-2.ensures)
    (c.sum_bounds.ensures ∙ ap₂ (both cut_sum) c.wire_size_max_bits.ensures c.wire_size_max_bits-2.ensures)
