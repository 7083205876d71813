-- A meaning does not depend on the chain of aliases allowed, where that is enough: so 512 is no part of it. Assumes nothing.
use Prim.Native.Nat.{ℕ, zero, suc, ◌≤◌, ◌<◌}
use mathlib.Core.Path.{◌≡◌, refl, sym, ap, ap₂, ◌∙◌}
use mathlib.Core.List.{List, [], ◌∷◌}
use native.Mathlib.Omega.{arith}
use lib.ListN.{get_or}
use Rattle.tree.specs.Tree.{Tree, leaf, named, wrap, fixed_array, pair, generic}
use Rattle.slot.specs.Slot.{Slot, empty, message, enum, flags, union, newtype, config, Alias, alias, trait, impl}
use Rattle.image.specs.Schema.{Schema, slot_of}
use Rattle.image.specs.declared.Frame.{Frame}
use Rattle.reader.specs.Reading.{schema_of}
use Rattle.reader.specs.Promise.{Promise}
use Rattle.findings.specs.Meaning.{unfound, id_or, value_of, substitute, slot_found, through_alias, applied, meaning_of}
use Rattle.meanings.specs.Rank.{rank, Ranked, rank_of}
use Rattle.meanings.proofs.Heights.{target_below, within}
use Rattle.meanings.proofs.Ended.{alias_ranked}
use Rattle.meanings.proofs.Naming.{applied_none, applied_some}

module _ (S : Schema) (ranked : Ranked S) where
  abbrev Same : (c d : ℕ) → Type 0
  Same c d = (ps : List ℕ) (ts : List Tree) (e : Tree) → rank_of S e ≤ c → rank_of S e ≤ d
      → substitute S (applied S c) ps ts e ≡ substitute S (applied S d) ps ts e

  abbrev Shorter : (c d : ℕ) → Type 0
  Shorter c d = (c' d' : ℕ) → c ≡ suc c' → d ≡ suc d' → Same c' d'

  -- a generic, from shorter chains
  applied_same : (c d : ℕ) → Shorter c d → (n : ℕ) (t u : Tree) → rank_of S (generic n u) ≤ c → rank_of S (generic n u) ≤ d → applied S c n t ≡ applied S d n t
  applied_same c d h n t u k l = found (get_or S.finds n 0) refl
    where
      through : (i : ℕ) → get_or S.finds n 0 ≡ suc i → (a : Alias) → slot_of S i ≡ alias a → (c d : ℕ) → Shorter c d
          → rank_of S a.target < c → rank_of S a.target < d → applied S c n t ≡ applied S d n t
      through i f a q zero d h k l = absurd (omega arith)
      through i f a q (suc c) zero h k l = absurd (omega arith)
      through i f a q (suc c) (suc d) h k l =
          applied_some S n t c i a f q
          ∙ ap (λ (x : Tree). id_or (value_of x)) (h c d refl refl a.parameters (t ∷ []) a.target (omega arith) (omega arith))
          ∙ sym (applied_some S n t d i a f q)

      neither : ((g : Alias → ℕ) → through_alias (slot_found S (get_or S.finds n 0)) g ≡ unfound) → applied S c n t ≡ applied S d n t
      neither e = applied_none S n t c e ∙ sym (applied_none S n t d e)

      at_slot : (i : ℕ) → get_or S.finds n 0 ≡ suc i → (x : Slot) → slot_of S i ≡ x → applied S c n t ≡ applied S d n t
      at_slot i f (alias a) q = let b = target_below S ranked n i a u f q in through i f a q c d h (omega arith) (omega arith)
      at_slot i f empty q = neither (λ g. rw (f, q))
      at_slot i f (message m) q = neither (λ g. rw (f, q))
      at_slot i f (enum e) q = neither (λ g. rw (f, q))
      at_slot i f (flags e) q = neither (λ g. rw (f, q))
      at_slot i f (union e) q = neither (λ g. rw (f, q))
      at_slot i f (newtype e) q = neither (λ g. rw (f, q))
      at_slot i f config q = neither (λ g. rw (f, q))
      at_slot i f (trait e) q = neither (λ g. rw (f, q))
      at_slot i f (impl e) q = neither (λ g. rw (f, q))

      found : (f : ℕ) → get_or S.finds n 0 ≡ f → applied S c n t ≡ applied S d n t
      found zero f = neither (λ g. rw f)
      found (suc i) f = at_slot i f (slot_of S i) refl

  tree_same : (c d : ℕ) → Shorter c d → Same c d
  unfolding substitute rank
  tree_same c d h ps ts (leaf l) k m = refl
  tree_same c d h ps ts (wrap w e) k m = ap (wrap w) (tree_same c d h ps ts e k m)
  tree_same c d h ps ts (fixed_array e n) k m = ap (λ (x : Tree). fixed_array x n) (tree_same c d h ps ts e k m)
  tree_same c d h ps ts (pair p e f) k m = ap₂ (pair p) (tree_same c d h ps ts e (omega arith) (omega arith)) (tree_same c d h ps ts f (omega arith) (omega arith))
  tree_same c d h ps ts (generic n e) k m =
      ap (λ (x : ℕ). leaf (named x))
      (applied_same c d h n _ e k m ∙ ap (applied S d n) (tree_same c d h ps ts e (omega arith) (omega arith)))

  renamed : (c c' d : ℕ) → c ≡ c' → Same c d → Same c' d
  renamed c c' d e h = rw (← e) h

  same : (c d : ℕ) → Same c d
  same zero d = tree_same zero d (λ c' d' x y. absurd (omega arith))
  same (suc c) d = tree_same (suc c) d (λ c' d' x y. renamed c c' d' (omega arith) (same c d'))

-- in an accepted image the limit of a meaning is enough
pub enough : (s starts : List ℕ) (f : Frame) → Promise s starts f → (ps : List ℕ) (ts : List Tree) (e : Tree) (chain : ℕ) → rank_of (schema_of f.edition s) e ≤ chain
    → substitute (schema_of f.edition s) (applied (schema_of f.edition s) chain) ps ts e ≡ meaning_of (schema_of f.edition s) ps ts e
unfolding meaning_of
enough s starts f promise ps ts e chain l =
    let r = alias_ranked s starts f promise in same (schema_of f.edition s) r chain 512 ps ts e l (within (schema_of f.edition s) r e)
