-- The answer on two types is their equality. Assumes nothing.
use Prim.Native.Nat.{ℕ}
use mathlib.Core.Path.{◌≡◌, refl, sym, ap, ap₂, ◌∙◌}
use mathlib.Core.Bool.{Bool, true, false, cond}
use mathlib.Core.Logic.{◌⊎◌, inl, inr, ⊎_elim}
use native.Mathlib.Omega.{arith}
use lib.Dec.{eqb}
use borrow.Author.Tests.{eq-eqb, eqb-true, eqb-false}
use Rattle.tree.specs.Tree.{Tree, Leaf, Pair, leaf, bits_inline, wrap, fixed_array, pair, generic, leaf_kind, leaf_flag, leaf_number, wrap_kind, pair_kind}
use Rattle.findings.specs.Compatible.{leaf_names, same_leaf, same_tree}
use Rattle.matching.specs.Steps.{Says, agree, differ}
use Rattle.matching.specs.declared.Matched.{Matched}
use Rattle.matching.proofs.Trees.{wrap_same, pair_same}
use Rattle.matching.proofs.Leaves.{no_bool, names_true, names_refl, leaf_bits, leaf_by_numbers}

pub equal_or_not : (a b : ℕ) → (a ≡ b) ⊎ (a ≡ b → ⊥)
equal_or_not a b = go (eqb a b) refl
  where
    go : (x : Bool) → eqb a b ≡ x → (a ≡ b) ⊎ (a ≡ b → ⊥)
    go true e = inl (eqb-true a b e)
    go false e = inr (eqb-false a b e)

passes : (a b : Bool) → cond a b false ≡ true → (a ≡ true) × (b ≡ true)
passes true b e = (refl, e)
passes false b e = no_bool e

pairs : {p q : Pair} {t u v w : Tree} → p ≡ q → t ≡ u → v ≡ w → pair p t v ≡ pair q u w
pairs e f g = cc

leaves_same : (l l' : Leaf) → same_leaf l l' ≡ true → l ≡ l'
unfolding same_leaf
leaves_same l l' e =
    let a = passes _ _ e in
    let b = passes _ _ a.1 in
    let c = passes _ _ b.1 in
    ⊎_elim
    (λ s.
    let x = leaf_bits l s in
    let y = leaf_bits l' (sym (eqb-true _ _ a.0) ∙ s) in
    x.1 ∙ ap bits_inline (sym (ap leaf_names x.1) ∙ names_true _ _ c.1 ∙ ap leaf_names y.1) ∙ sym y.1)
    (λ s. leaf_by_numbers l l' s (eqb-true _ _ a.0) (eqb-true _ _ b.0) (eqb-true _ _ c.0))
    (equal_or_not (leaf_kind l) 16)

same_true : (t u : Tree) → same_tree t u ≡ true → t ≡ u
unfolding same_tree
same_true (leaf l) (leaf l') e = ap leaf (leaves_same l l' e)
same_true (leaf l) (wrap w' t') e = no_bool e
same_true (leaf l) (fixed_array t' n') e = no_bool e
same_true (leaf l) (pair p' t' u') e = no_bool e
same_true (leaf l) (generic n' t') e = no_bool e
same_true (wrap w t) (leaf l') e = no_bool e
same_true (wrap w t) (wrap w' t') e = let a = passes _ _ e in ap₂ wrap (wrap_same w w' (eqb-true _ _ a.0)) (same_true t t' a.1)
same_true (wrap w t) (fixed_array t' n') e = no_bool e
same_true (wrap w t) (pair p' t' u') e = no_bool e
same_true (wrap w t) (generic n' t') e = no_bool e
same_true (fixed_array t n) (leaf l') e = no_bool e
same_true (fixed_array t n) (wrap w' t') e = no_bool e
same_true (fixed_array t n) (fixed_array t' n') e = let a = passes _ _ e in ap₂ fixed_array (same_true t t' a.0) (eqb-true n n' a.1)
same_true (fixed_array t n) (pair p' t' u') e = no_bool e
same_true (fixed_array t n) (generic n' t') e = no_bool e
same_true (pair p t u) (leaf l') e = no_bool e
same_true (pair p t u) (wrap w' t') e = no_bool e
same_true (pair p t u) (fixed_array t' n') e = no_bool e
same_true (pair p t u) (pair p' t' u') e =
    let a = passes _ _ e in
    let b = passes _ _ a.1 in
    pairs (pair_same p p' (eqb-true _ _ a.0)) (same_true t t' b.0) (same_true u u' b.1)
same_true (pair p t u) (generic n' t') e = no_bool e
same_true (generic n t) (leaf l') e = no_bool e
same_true (generic n t) (wrap w' t') e = no_bool e
same_true (generic n t) (fixed_array t' n') e = no_bool e
same_true (generic n t) (pair p' t' u') e = no_bool e
same_true (generic n t) (generic n' t') e = let a = passes _ _ e in ap₂ generic (eqb-true n n' a.0) (same_true t t' a.1)

leaf_refl : (l : Leaf) → same_leaf l l ≡ true
unfolding same_leaf
leaf_refl l = simp (eq-eqb (leaf_kind l) (leaf_kind l) refl, eq-eqb (leaf_flag l) (leaf_flag l) refl, eq-eqb (leaf_number l) (leaf_number l) refl) (names_refl (leaf_names l))

same_refl : (t : Tree) → same_tree t t ≡ true
unfolding same_tree
same_refl (leaf l) = leaf_refl l
same_refl (wrap w t) = simp (eq-eqb (wrap_kind w) (wrap_kind w) refl) (same_refl t)
same_refl (fixed_array t n) = simp (same_refl t) (eq-eqb n n refl)
same_refl (pair p t u) = simp (eq-eqb (pair_kind p) (pair_kind p) refl, same_refl t) (same_refl u)
same_refl (generic n t) = simp (eq-eqb n n refl) (same_refl t)

same_false : (t u : Tree) → (t ≡ u → ⊥) → same_tree t u ≡ false
same_false t u h = go (same_tree t u) refl
  where
    go : (b : Bool) → same_tree t u ≡ b → same_tree t u ≡ false
    go true e = absurd (h (same_true t u e))
    go false e = e

pub says_true : {r : Matched} {t u : Tree} {m n a b : ℕ} → Says r t u m n → r ≡ Matched.Same a b → same_tree t u ≡ true
says_true {t = t} {u = u} (agree e f) g = ap (same_tree t) (sym e) ∙ same_refl t
says_true (differ e f) g = let q : Matched.Same _ _ ≡ Matched.Differs = sym g ∙ f in let z : ◌≡◌ {A = ℕ} 0 1 = cc in absurd (omega arith)

pub says_false : {r : Matched} {t u : Tree} {m n : ℕ} → Says r t u m n → r ≡ Matched.Differs → same_tree t u ≡ false
says_false (agree e f) g = let q : Matched.Differs ≡ Matched.Same _ _ = sym g ∙ f in let z : ◌≡◌ {A = ℕ} 0 1 = cc in absurd (omega arith)
says_false {t = t} {u = u} (differ e f) g = same_false t u e
