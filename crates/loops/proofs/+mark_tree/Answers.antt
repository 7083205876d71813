use mathlib.Core.Path.{sym, ap, ◌∙◌}
use Rattle.view.specs.Take.{place_of}
use Rattle.loops.proofs.Marking.{walk_deep, walk_leaf_lem, walk_one, walk_past_one, walk_two, walk_past_two, walk_sized, walk_generic, walk_refused}
use Rattle.loops.proofs.+mark_tree.Goals as goal

pub returns-then-levels-eq0 : goal.returns-then-levels-eq0
returns-then-levels-eq0 t c = walk_deep _ _ _ _ _ _ _ _ c.if-levels-eq0.true _ _

pub returns-in-Leaf : goal.returns-in-Leaf
returns-in-Leaf t c = walk_leaf_lem _ _ _ _ _ _ _ _ c.if-levels-eq0.false _ _ _ _ _ (sym c.read_head.ensures ∙ c.in-Leaf.is) c.mark_leaf.ensures

pub returns-then-goes_in : goal.returns-then-goes_in
returns-then-goes_in t c = walk_one _ _ _ _ _ _ _ _ c.if-levels-eq0.false _ _ _ _ (sym c.read_head.ensures ∙ c.in-One.is) (sym c.if-goes_in.true ∙ c.goes_in.ensures) c.mark_tree.ensures

pub returns-else-goes_in : goal.returns-else-goes_in
returns-else-goes_in t c = walk_past_one _ _ _ _ _ _ _ _ c.if-levels-eq0.false _ _ _ (sym c.read_head.ensures ∙ c.in-One.is) (sym c.if-goes_in.false ∙ c.goes_in.ensures) (c.place_of.ensures ∙ ap place_of c.read_tree.ensures)

pub returns-then-goes_in-2 : goal.returns-then-goes_in-2
returns-then-goes_in-2 t c = walk_two _ _ _ _ _ _ _ _ c.if-levels-eq0.false _ _ _ _ _ _ (sym c.read_head.ensures ∙ c.in-Two.is) (sym c.if-goes_in-2.true ∙ c.goes_in-in-Two.ensures) c.mark_tree-second.ensures c.mark_tree-then-goes_in-2.ensures

pub returns-else-goes_in-2 : goal.returns-else-goes_in-2
returns-else-goes_in-2 t c = walk_past_two _ _ _ _ _ _ _ _ c.if-levels-eq0.false _ _ _ _ (sym c.read_head.ensures ∙ c.in-Two.is) (sym c.if-goes_in-2.false ∙ c.goes_in-in-Two.ensures) (c.place_of-second.ensures ∙ ap place_of c.read_tree-else-goes_in-2.ensures) (c.place_of-else-goes_in-2.ensures ∙ ap place_of c.read_tree-else-goes_in-2-2.ensures)

pub returns-in-Sized : goal.returns-in-Sized
returns-in-Sized t c = walk_sized _ _ _ _ _ _ _ _ c.if-levels-eq0.false _ _ _ _ (sym c.read_head.ensures ∙ c.in-Sized.is) c.mark_tree-size.ensures (c.place_of-in-Sized.ensures ∙ ap place_of c.skip_whole.ensures)

pub returns-in-Generic : goal.returns-in-Generic
returns-in-Generic t c = walk_generic _ _ _ _ _ _ _ _ c.if-levels-eq0.false _ _ _ _ _ (sym c.read_head.ensures ∙ c.in-Generic.is) c.mark_generic.ensures c.mark_tree-in-Generic.ensures

pub returns-in-Refused : goal.returns-in-Refused
returns-in-Refused t c = walk_refused _ _ _ _ _ _ _ _ c.if-levels-eq0.false _ _ _ _ (sym c.read_head.ensures ∙ c.in-Refused.is)
