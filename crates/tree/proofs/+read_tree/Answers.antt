use Rattle.tree.proofs.Levels.{deep_told}
use mathlib.Core.Path.{sym, ◌∙◌}
use Rattle.number.proofs.Reading.{follow_on, follow_stop}
use Rattle.tree.proofs.Shapes.{walk, tree_deep, tree_ends}
use Rattle.tree.proofs.TwoBytes.{short_within, short_ends}
use native.Mathlib.Omega.{arith}
use Rattle.tree.proofs.+read_tree.Goals as goal

pub returns-then-levels-eq0 : goal.returns-then-levels-eq0
returns-then-levels-eq0 t c = deep_told _ _ c.kinds_of.ensures c.too_deep.ensures ∙ sym (tree_deep _ _ _ _ _ c.if-levels-eq0.true)

pub overflow_add-result : goal.overflow_add-result
overflow_add-result t c = omega (arith, short_within _ _ _ (sym c.is_short.ensures ∙ c.if-is_short.true))

pub returns-then-is_short : goal.returns-then-is_short
returns-then-is_short t c = short_ends _ _ _ _ _ c.ids_of.ensures (sym c.is_short.ensures ∙ c.if-is_short.true) _ c.if-levels-eq0.false

pub returns-in-Leaf : goal.returns-in-Leaf
unfolding walk
returns-in-Leaf t c = sym (tree_ends _ _ _ _ _ c.if-levels-eq0.false _ (sym c.read_head.ensures ∙ c.in-Leaf.is))

pub returns-in-One : goal.returns-in-One
unfolding walk
returns-in-One t c = c.read_tree.ensures ∙ sym (tree_ends _ _ _ _ _ c.if-levels-eq0.false _ (sym c.read_head.ensures ∙ c.in-One.is))

pub returns-in-At : goal.returns-in-At
unfolding walk
returns-in-At t c =
    c.read_tree-in-At.ensures
    ∙ sym (follow_on _ _ _ (sym c.read_tree-in-Two.ensures ∙ c.in-At.is))
    ∙ sym (tree_ends _ _ _ _ _ c.if-levels-eq0.false _ (sym c.read_head.ensures ∙ c.in-Two.is))

pub returns-in-Refused-read_tree : goal.returns-in-Refused-read_tree
unfolding walk
returns-in-Refused-read_tree t c =
    sym (follow_stop _ _ _ _ (sym c.read_tree-in-Two.ensures ∙ c.in-Refused-read_tree.is))
    ∙ sym (tree_ends _ _ _ _ _ c.if-levels-eq0.false _ (sym c.read_head.ensures ∙ c.in-Two.is))

pub returns-in-At-read_tree : goal.returns-in-At-read_tree
unfolding walk
returns-in-At-read_tree t c =
    c.skip_whole.ensures
    ∙ sym (follow_on _ _ _ (sym c.read_tree-in-Sized.ensures ∙ c.in-At-read_tree.is))
    ∙ sym (tree_ends _ _ _ _ _ c.if-levels-eq0.false _ (sym c.read_head.ensures ∙ c.in-Sized.is))

pub returns-in-Refused-read_tree-2 : goal.returns-in-Refused-read_tree-2
unfolding walk
returns-in-Refused-read_tree-2 t c =
    sym (follow_stop _ _ _ _ (sym c.read_tree-in-Sized.ensures ∙ c.in-Refused-read_tree-2.is))
    ∙ sym (tree_ends _ _ _ _ _ c.if-levels-eq0.false _ (sym c.read_head.ensures ∙ c.in-Sized.is))

pub returns-in-Generic : goal.returns-in-Generic
unfolding walk
returns-in-Generic t c = c.read_tree-in-Generic.ensures ∙ sym (tree_ends _ _ _ _ _ c.if-levels-eq0.false _ (sym c.read_head.ensures ∙ c.in-Generic.is))

pub returns-in-Refused : goal.returns-in-Refused
unfolding walk
returns-in-Refused t c = sym (tree_ends _ _ _ _ _ c.if-levels-eq0.false _ (sym c.read_head.ensures ∙ c.in-Refused.is))
