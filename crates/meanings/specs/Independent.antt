-- A generic's id depends on its argument only through which name that is, if any: so the code carries no type from alias to
-- alias. Assumes nothing.
use Prim.Native.Nat.{ℕ, zero, suc}
use Rattle.std.specs.Prelude.{◌≡◌, Bool, cond, eqb, get_or}
use Rattle.std.proofs.Math.Path.{refl, ap}
use mathlib.Core.List.{List, [], ◌∷◌}
use Rattle.std.proofs.Math.Bool.{true, false}
use Rattle.tree.specs.Tree.{Tree, Leaf, leaf, primitive, sub_byte, semantic, named, bits_inline, qualified, wrap, fixed_array, pair, generic}
use Rattle.slot.specs.Slot.{Slot, empty, message, enum, flags, union, newtype, config, alias, trait, impl}
use Rattle.image.specs.Schema.{Schema}
use Rattle.findings.specs.Meaning.{resolved, argument_of, leaf_value, value_of, id_or, leaf_meant, substitute, slot_found, through_alias, applied}
use Rattle.findings.specs.declared.Value.{Value}

-- two arguments that are the same name, or both none
module _ (S : Schema) where
  argument_same : (ps : List ℕ) (t u : Tree) → value_of t ≡ value_of u → (n : ℕ) (d : Tree) → value_of (argument_of ps (t ∷ []) n d) ≡ value_of (argument_of ps (u ∷ []) n d)
  unfolding argument_of
  argument_same [] t u e n d = refl
  argument_same (p ∷ ps) t u e n d = go (eqb p n)
    where
      go : (b : Bool) → value_of (cond b t (argument_of ps [] n d)) ≡ value_of (cond b u (argument_of ps [] n d))
      go true = e
      go false = refl

  leaf_same : (ps : List ℕ) (t u : Tree) → value_of t ≡ value_of u → (l : Leaf) → value_of (leaf_meant S ps (t ∷ []) l) ≡ value_of (leaf_meant S ps (u ∷ []) l)
  unfolding leaf_meant
  leaf_same ps t u e (primitive p) = refl
  leaf_same ps t u e (sub_byte g b) = refl
  leaf_same ps t u e (semantic m) = refl
  leaf_same ps t u e (named n) = argument_same ps t u e n (leaf (named (resolved S n)))
  leaf_same ps t u e (bits_inline ns) = refl
  leaf_same ps t u e (qualified n) = refl

  abbrev ByValue : (apply : ℕ → Tree → ℕ) → Type 0
  ByValue apply = (n : ℕ) (t u : Tree) → value_of t ≡ value_of u → apply n t ≡ apply n u

  substitute_same : (apply : ℕ → Tree → ℕ) → ByValue apply → (ps : List ℕ) (t u : Tree) → value_of t ≡ value_of u → (e : Tree)
      → value_of (substitute S apply ps (t ∷ []) e) ≡ value_of (substitute S apply ps (u ∷ []) e)
  unfolding substitute value_of leaf_value
  substitute_same apply h ps t u q (leaf l) = leaf_same ps t u q l
  substitute_same apply h ps t u q (wrap w e) = refl
  substitute_same apply h ps t u q (fixed_array e n) = refl
  substitute_same apply h ps t u q (pair p e f) = refl
  substitute_same apply h ps t u q (generic n e) = ap Value.Id (h n _ _ (substitute_same apply h ps t u q e))

  pub by_value : (chain : ℕ) → ByValue (applied S chain)
  unfolding applied
  by_value zero n t u e = refl
  by_value (suc chain) n t u e = go (slot_found S (get_or S.finds n 0)) (by_value chain)
    where
      go : (x : Slot) → ByValue (applied S chain)
          → through_alias x (λ a. id_or (value_of (substitute S (applied S chain) a.parameters (t ∷ []) a.target)))
          ≡ through_alias x (λ a. id_or (value_of (substitute S (applied S chain) a.parameters (u ∷ []) a.target)))
      go (alias a) h = ap id_or (substitute_same (applied S chain) h a.parameters t u e a.target)
      go empty h = refl
      go (message m) h = refl
      go (enum x) h = refl
      go (flags f) h = refl
      go (union x) h = refl
      go (newtype x) h = refl
      go config h = refl
      go (trait x) h = refl
      go (impl x) h = refl
