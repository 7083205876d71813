use Rattle.loops.proofs.+mark_tree.Given as goal

abbrev pub decreases-mark_tree : goal.decreases-mark_tree
decreases-mark_tree l = l.levels
