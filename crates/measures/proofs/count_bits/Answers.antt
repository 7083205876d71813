use mathlib.Core.Path.{ap, ap₂, ◌∙◌}
use native.Mathlib.Omega.{arith}
use Prim.Native.Nat.{ℕ, ◌*◌}
use Rattle.number.proofs.Shortest.{ten_groups}
use Rattle.sizes.specs.declared.Size.TheVariants.{Bounded}
use Rattle.sizes.specs.declared.Operation.TheVariants.{Sum}
use Rattle.sizes.specs.Sizes.{limited}
use Rattle.measures.specs.Cut.{cut_sum}
use Rattle.measures.proofs.Cutting.{cut_bounded}
use Rattle.measures.proofs.count_bits.Goals as goal

pub overflow_mul-groups_of : goal.overflow_mul-groups_of
overflow_mul-groups_of c = omega (arith, ten_groups c.args.most, c.groups_of.ensures)

pub returns : goal.returns
returns c =
    c.within_limit.ensures
    ∙ ap (λ (h : ℕ). limited Sum (Bounded 8 h))
    (c.sum-high.ensures ∙ ap₂ cut_sum (ap (λ (g : ℕ). 8 * g) c.groups_of.ensures) c.wire_size_min_bits.ensures)
    ∙ cut_bounded Sum 8 _
