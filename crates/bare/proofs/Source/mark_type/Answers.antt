use mathlib.Core.Path.{sym, ◌∙◌}
use Rattle.bare.proofs.Naming.{type_leaf, type_other}
use Rattle.bare.proofs.Source.mark_type.Goals as goal

pub returns-in-Leaf : goal.returns-in-Leaf
returns-in-Leaf c = type_leaf _ _ _ _ _ _ _ _ _ _ (sym c.read_head.ensures ∙ c.in-Leaf.is) c.mark_leaf.ensures

pub returns : goal.returns
returns c = type_other _ _ _ _ _ _ c.in_default.not-Leaf (sym c.read_head.ensures) _ _ c.read_tree.ensures c.place_of.ensures
