-- Types that are equal, as an answer (`types_compatible`): kinds, numbers and names are the same, and so are the children.
use Rattle.std.specs.Prelude.{ℕ, List, [], ◌∷◌, Bool, true, false, cond, eqb}
use Rattle.tree.specs.Tree.{Tree, Leaf, leaf, primitive, sub_byte, semantic, named, bits_inline, qualified, wrap, fixed_array, pair, generic, leaf_kind, leaf_flag, leaf_number, wrap_kind, pair_kind}

unfoldable pub same_names : List ℕ → List ℕ → Bool
same_names [] [] = true
same_names [] (y ∷ ys) = false
same_names (x ∷ xs) [] = false
same_names (x ∷ xs) (y ∷ ys) = cond (eqb x y) (same_names xs ys) false

-- the names of an inline bit field
abbrev pub leaf_names : Leaf → List ℕ
leaf_names (primitive p) = []
leaf_names (sub_byte g b) = []
leaf_names (semantic m) = []
leaf_names (named i) = []
leaf_names (bits_inline ns) = ns
leaf_names (qualified n) = []

unfoldable pub same_leaf : Leaf → Leaf → Bool
same_leaf l l' =
    cond (eqb (leaf_kind l) (leaf_kind l'))
    (cond (eqb (leaf_flag l) (leaf_flag l')) (cond (eqb (leaf_number l) (leaf_number l')) (same_names (leaf_names l) (leaf_names l')) false) false)
    false

unfoldable pub same_tree : Tree → Tree → Bool
same_tree (leaf l) (leaf l') = same_leaf l l'
same_tree (leaf l) (wrap w' t') = false
same_tree (leaf l) (fixed_array t' n') = false
same_tree (leaf l) (pair p' t' u') = false
same_tree (leaf l) (generic n' t') = false
same_tree (wrap w t) (leaf l') = false
same_tree (wrap w t) (wrap w' t') = cond (eqb (wrap_kind w) (wrap_kind w')) (same_tree t t') false
same_tree (wrap w t) (fixed_array t' n') = false
same_tree (wrap w t) (pair p' t' u') = false
same_tree (wrap w t) (generic n' t') = false
same_tree (fixed_array t n) (leaf l') = false
same_tree (fixed_array t n) (wrap w' t') = false
same_tree (fixed_array t n) (fixed_array t' n') = cond (same_tree t t') (eqb n n') false
same_tree (fixed_array t n) (pair p' t' u') = false
same_tree (fixed_array t n) (generic n' t') = false
same_tree (pair p t u) (leaf l') = false
same_tree (pair p t u) (wrap w' t') = false
same_tree (pair p t u) (fixed_array t' n') = false
same_tree (pair p t u) (pair p' t' u') = cond (eqb (pair_kind p) (pair_kind p')) (cond (same_tree t t') (same_tree u u') false) false
same_tree (pair p t u) (generic n' t') = false
same_tree (generic n t) (leaf l') = false
same_tree (generic n t) (wrap w' t') = false
same_tree (generic n t) (fixed_array t' n') = false
same_tree (generic n t) (pair p' t' u') = false
same_tree (generic n t) (generic n' t') = cond (eqb n n') (same_tree t t') false
