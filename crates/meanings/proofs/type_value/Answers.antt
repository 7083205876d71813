use mathlib.Core.Path.{sym, ◌∙◌}
use native.Mathlib.Omega.{arith}
use Rattle.meanings.proofs.Leaves.{shape_is, name_is_lem, leaf_is}
use Rattle.meanings.proofs.type_value.Goals as goal

pub returns-in-3 : goal.returns-in-3
returns-in-3 c = name_is_lem _ _ _ _ _ _ _ (sym c.read_head.ensures ∙ c.in-Leaf.is) c.in-3.is

pub returns-in_default : goal.returns-in_default
returns-in_default c = leaf_is _ _ _ _ _ _ _ (sym c.read_head.ensures ∙ c.in-Leaf.is) (λ z. omega arith)

pub returns-in-One : goal.returns-in-One
returns-in-One c = shape_is _ _ _ _ (sym c.read_head.ensures ∙ c.in-One.is)

pub returns-in-Two : goal.returns-in-Two
returns-in-Two c = shape_is _ _ _ _ (sym c.read_head.ensures ∙ c.in-Two.is)

pub returns-in-Sized : goal.returns-in-Sized
returns-in-Sized c = shape_is _ _ _ _ (sym c.read_head.ensures ∙ c.in-Sized.is)

pub returns-in-Generic : goal.returns-in-Generic
returns-in-Generic c = shape_is _ _ _ _ (sym c.read_head.ensures ∙ c.in-Generic.is)

pub returns-in-Refused : goal.returns-in-Refused
returns-in-Refused c = shape_is _ _ _ _ (sym c.read_head.ensures ∙ c.in-Refused.is)
