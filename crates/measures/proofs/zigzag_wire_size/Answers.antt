use mathlib.Core.List.{[], ◌∷◌}
use mathlib.Core.Path.{sym, ap}
use Rattle.sizes.specs.declared.Size.TheVariants.{Bounded}
use Rattle.sizes.specs.Sizes.{zig_zag_end}
use Rattle.measures.specs.Heads.{leaf_of}
use Rattle.measures.proofs.ByKind.{span_other, zigzag_rest}
use Rattle.measures.proofs.zigzag_wire_size.Goals as goal

pub returns-in-6 : goal.returns-in-6
unfolding zig_zag_end leaf_of
returns-in-6 c = rw (c.in-0.is, c.in-6.is)

pub returns-in-7 : goal.returns-in-7
unfolding zig_zag_end leaf_of
returns-in-7 c = rw (c.in-0.is, c.in-7.is)

pub returns-in_default-number : goal.returns-in_default-number
unfolding leaf_of
returns-in_default-number c = rw c.in-0.is (ap (Bounded 8) (sym (zigzag_rest _ c.in_default-number.in_default-number-own.rest.0.1 c.in_default-number.in_default-number-own.rest.1)))

pub returns-in_default : goal.returns-in_default
unfolding zig_zag_end
returns-in_default c = ap (Bounded 8) (sym (span_other (80 ∷ 80 ∷ 80 ∷ 80 ∷ 80 ∷ 80 ∷ 24 ∷ 40 ∷ 80 ∷ []) _ _ c.in_default.in_default-own.rest.1))
