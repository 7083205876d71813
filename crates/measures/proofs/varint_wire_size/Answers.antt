use mathlib.Core.List.{[], ◌∷◌}
use mathlib.Core.Path.{sym, ap}
use Rattle.sizes.specs.declared.Size.TheVariants.{Bounded}
use Rattle.sizes.specs.Sizes.{varint_end}
use Rattle.measures.specs.Heads.{leaf_of}
use Rattle.measures.proofs.ByKind.{span_other, varint_rest}
use Rattle.measures.proofs.varint_wire_size.Goals as goal

pub returns-in-2 : goal.returns-in-2
unfolding varint_end leaf_of
returns-in-2 c = rw (c.in-0.is, c.in-2.is)

pub returns-in-3 : goal.returns-in-3
unfolding varint_end leaf_of
returns-in-3 c = rw (c.in-0.is, c.in-3.is)

pub returns-in_default-number : goal.returns-in_default-number
unfolding leaf_of
returns-in_default-number c = rw c.in-0.is (ap (Bounded 8) (sym (varint_rest _ c.in_default-number.in_default-number-own.rest.0.1 c.in_default-number.in_default-number-own.rest.1)))

pub returns-in_default : goal.returns-in_default
unfolding varint_end
returns-in_default c = ap (Bounded 8) (sym (span_other (80 ∷ 80 ∷ 24 ∷ 40 ∷ 80 ∷ []) _ _ c.in_default.in_default-own.rest.1))
