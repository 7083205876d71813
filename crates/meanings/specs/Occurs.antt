-- How often plain names stand in an expression: kind 3, each place of its own, in the arguments of generics too. What an alias's target
-- holds is not in the expression.
use Rattle.std.specs.Prelude.{ℕ, ◌+◌, cond, eqb}
use Rattle.tree.specs.Tree.{Tree, leaf, wrap, fixed_array, pair, generic, leaf_kind}

unfoldable pub occurs : Tree → ℕ
occurs (leaf l) = cond (eqb (leaf_kind l) 3) 1 0
occurs (wrap w e) = occurs e
occurs (fixed_array e n) = occurs e
occurs (pair p e f) = occurs e + occurs f
occurs (generic n e) = occurs e
