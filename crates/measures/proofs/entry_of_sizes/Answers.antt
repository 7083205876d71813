use mathlib.Core.Path.{ap₂, ◌∙◌}
use native.Mathlib.Omega.{arith}
use Rattle.sizes.specs.Sizes.{both, largest}
use Rattle.measures.specs.Cut.{cut_sum, high_of}
use Rattle.measures.proofs.Cutting.{summed}
use Rattle.measures.proofs.entry_of_sizes.Goals as goal

pub returns : goal.returns
returns c =
    let args = c.args in
    summed _ 0 (largest args.key) (largest args.value) _ (high_of c.sum_bounds.result) c.within_limit.ensures c.vary-entry.ensures (omega arith)
    (c.sum_bounds.ensures ∙ ap₂ (both cut_sum) c.wire_size_max_bits.ensures c.wire_size_max_bits-2.ensures)
