use mathlib.Core.Path.{sym, ◌∙◌}
use Rattle.order.proofs.Leading.{pass_leaf, no_leaf, pass_other}
use Rattle.order.proofs.Origin.pass_type.Goals as goal
use Rattle.order.proofs.Origin.pass_type.Goals.{then-is_name+in_default, else-is_name}

pub returns-in-Leaf : goal.returns-in-Leaf
returns-in-Leaf c = pass_leaf _ _ _ _ _ _ _ _ _ (sym c.read_head.ensures ∙ c.in-Leaf.is) c.leaf_leads_on.ensures _ c.then_some.ensures

pub returns : goal.returns
returns c =
    pass_other _ _ _ _
    (elim c.if-is_name.branch [
      | then-is_name+in_default w ↦ no_leaf _ _ _ _ _ w.in_default.not-Leaf (sym w.read_head.ensures)
      | else-is_name w ↦ c.is_name.ensures w.if-is_name.false _ _
    ])
    _ _ c.read_tree.ensures c.place_of.ensures
