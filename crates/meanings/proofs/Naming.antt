-- Which name an expression means, by the shape of its head. Assumes nothing.
use Prim.Native.Nat.{ℕ, zero, suc, ◌-◌, ◌≤◌, ◌<◌}
use mathlib.Core.Path.{◌≡◌, refl, sym, ap, subst, ◌∙◌}
use mathlib.Core.List.{List, [], ◌∷◌}
use native.Mathlib.Omega.{arith}
use lib.ListN.{get_or}
use Rattle.number.specs.Grammar.{name, number, counted, Outcome, done, refused, read}
use Rattle.number.proofs.Reading.{given}
use Rattle.tree.specs.Tree.{Tree, leaf, primitive, named, generic}
use Rattle.tree.specs.TreeAt.{head_at, tree_at, shape}
use Rattle.tree.specs.declared.Sort.TheVariants.{Expression}
use Rattle.tree.specs.declared.Head.{Head}
use Rattle.tree.proofs.Shapes.{parts, no_tree}
use Rattle.slot.specs.Slot.{Alias, alias}
use Rattle.image.specs.Schema.{Schema, slot_of}
use Rattle.image.specs.declared.Frame.{Frame}
use Rattle.reader.specs.Reading.{schema_of}
use Rattle.findings.specs.Meaning.{unfound, id_or, leaf_value, value_of, substitute, slot_found, through_alias, applied}
use Rattle.findings.specs.declared.Value.{Value}
use Rattle.meanings.specs.Rank.{rank_of}
use Rattle.meanings.specs.Places.{AtNames}
use Rattle.meanings.specs.Scopes.{Stands, KnownIn, RightAlias, RightLeaf, RightName, Asked}
use Rattle.meanings.specs.declared.Scope.{Scope}
use Rattle.std.specs.Prelude.{Some, None}
use Rattle.meanings.proofs.Heights.{target_below, argument_below}
use Rattle.meanings.proofs.Ended.{alias_ranked}

-- the rank of what was read
abbrev pub outcome_rank : Schema → Outcome Tree → ℕ
outcome_rank S (done e n) = rank_of S e
outcome_rank S (refused r p) = 0

unfoldable pub rank_at : Frame → (levels : ℕ) → (s : List ℕ) → (at : ℕ) → ℕ
rank_at f levels s at = outcome_rank (schema_of f.edition s) (read (tree_at Expression f.names levels) s at)

rank_read : (f : Frame) (levels : ℕ) (s : List ℕ) (at : ℕ) (e : Tree) (n : ℕ) → read (tree_at Expression f.names levels) s at ≡ done e n → rank_at f levels s at ≡ rank_of (schema_of f.edition s) e
unfolding rank_at
rank_read f levels s at e n q = ap (outcome_rank (schema_of f.edition s)) q

module _ (S : Schema) (n : ℕ) (t : Tree) where
  pub applied_none : (chain : ℕ) → ((f : Alias → ℕ) → through_alias (slot_found S (get_or S.finds n 0)) f ≡ unfound) → applied S chain n t ≡ unfound
  unfolding applied
  applied_none zero e = refl
  applied_none (suc chain) e = e _

  pub applied_some : (chain i : ℕ) (a : Alias) → get_or S.finds n 0 ≡ suc i → slot_of S i ≡ alias a
      → applied S (suc chain) n t ≡ id_or (value_of (substitute S (applied S chain) a.parameters (t ∷ []) a.target))
  unfolding applied
  applied_some chain i a f q = rw (f, q)

-- the names of a generic's argument were looked up with its own
pub known_argument : (scope : Scope) (places : List ℕ) (n : ℕ) (u : Tree) → KnownIn scope places (generic n u) → KnownIn scope places u
unfolding KnownIn AtNames
known_argument Scope.Types places n u k = k
known_argument (Scope.One p v) places n u k = tt

pub known_one : (scope : Scope) (p : ℕ) (v : Value) (places : List ℕ) (u : Tree) → scope ≡ Scope.One p v → KnownIn scope places u
unfolding KnownIn
known_one scope p v places u e = rw e tt

-- a type of which only is known which name it is
abbrev pub tree_of : Value → Tree
tree_of (Value.Id i) = leaf (named i)
tree_of Value.NotName = leaf (primitive 0)

stands_one : (names : ℕ) (s places : List ℕ) (scope : Scope) (p : ℕ) (v : Value) (ps : List ℕ) (m : ℕ) → scope ≡ Scope.One p v
    → read (counted (number name names)) s p ≡ done ps m → Stands names s places scope ps (tree_of v ∷ [])
unfolding Stands value_of leaf_value
stands_one names s places scope p v ps m e r = rw e (m, tree_of v, r, refl, value_is_lem v)
  where
    value_is_lem : (v : Value) → value_of (tree_of v) ≡ v
    value_is_lem (Value.Id i) = refl
    value_is_lem Value.NotName = refl

module _ (s starts : List ℕ) (f : Frame) (finds places : List ℕ) (at levels : ℕ) (scope : Scope) (a : Asked s starts f finds places at levels scope) where
  abbrev Shape : Head → Type 0
  Shape x = shape (read (head_at Expression f.names) s at) ≡ x

  abbrev Right : Value → Type 0
  Right r = RightName f.names levels (schema_of f.edition s) s places at scope r

  pub some_level : levels ≡ 0 → ⊥
  some_level z = no_tree Expression f.names s at levels z a.tree a.end a.reads

  pub name_leaf : (k g v n : ℕ) (r : Value) → Shape (Head.Leaf k g v n) → ((S : Schema) → RightLeaf f.names S s finds places scope k v r) → Right r
  unfolding substitute
  name_leaf k g v n r x w ps ts st e end q chain l =
      let p = parts Expression f.names s at levels some_level _ x e end q in
      let same : a.tree ≡ leaf p.0 = (given (sym a.reads ∙ q)).0 ∙ p.1 in
      rw p.1 (w (schema_of f.edition s) a.ready.holds ps ts st p.0 p.2 p.4 (subst (λ (u : Tree). KnownIn scope places u) same a.known))

  pub name_one : (k n : ℕ) → Shape (Head.One k n) → Right Value.NotName
  unfolding substitute value_of
  name_one k n x ps ts st e end q chain l = let p = parts Expression f.names s at levels some_level _ x e end q in rw p.2

  pub name_two : (k n : ℕ) → Shape (Head.Two k n) → Right Value.NotName
  unfolding substitute value_of
  name_two k n x ps ts st e end q chain l = let p = parts Expression f.names s at levels some_level _ x e end q in rw p.4

  pub name_sized : (n : ℕ) → Shape (Head.Sized n) → Right Value.NotName
  unfolding substitute value_of
  name_sized n x ps ts st e end q chain l = let p = parts Expression f.names s at levels some_level _ x e end q in rw p.3

  pub name_refused : (r n : ℕ) (o : Value) → Shape (Head.Refused r n) → Right o
  name_refused r n o x = absurd (parts Expression f.names s at levels some_level _ x a.tree a.end a.reads)

  module _ (v n : ℕ) (x : Shape (Head.Generic v n)) where
    pub name_none : RightAlias f.names (schema_of f.edition s) s v None → Right (Value.Id 4294967295)
    unfolding substitute value_of leaf_value RightAlias
    name_none w ps ts st e end q chain l =
        let p = parts Expression f.names s at levels some_level _ x e end q in
        rw p.1 (ap Value.Id (sym (applied_none (schema_of f.edition s) v _ chain w)))

    -- the argument, and the target
    pub body_asked : Asked s starts f finds places n (levels - 1) scope
    body_asked =
        let p = parts Expression f.names s at levels some_level _ x a.tree a.end a.reads in
        record {
          ready = a.ready;
          few = omega (arith, a.few);
          tree = p.0;
          end = a.end;
          reads = p.2;
          known = known_argument scope places v p.0 (subst (λ (u : Tree). KnownIn scope places u) p.1 a.known);
          parameters = a.parameters;
          arguments = a.arguments;
          stands = a.stands;
        }

    pub body_less : rank_at f (levels - 1) s n ≤ rank_at f levels s at
    body_less =
        let p = parts Expression f.names s at levels some_level _ x a.tree a.end a.reads in
        let y = rank_read f (levels - 1) s n p.0 a.end p.2 in
        let z = rank_read f levels s at a.tree a.end a.reads ∙ ap (rank_of (schema_of f.edition s)) p.1 in
        omega (arith, argument_below (schema_of f.edition s) v p.0)

    module _ (list target : ℕ) (w : RightAlias f.names (schema_of f.edition s) s v (Some (list, target))) where
      pub target_asked : (inner : Value) (inside : Scope) → inside ≡ Scope.One list inner → Asked s starts f finds places target 32 inside
      unfolding RightAlias
      target_asked inner inside q =
          record {
            ready = a.ready;
            few = omega arith;
            tree = w.1.target;
            end = w.3;
            reads = w.7;
            known = known_one inside list inner places w.1.target q;
            parameters = w.1.parameters;
            arguments = tree_of inner ∷ [];
            stands = stands_one f.names s places inside list inner w.1.parameters w.2 q w.6;
          }

      pub target_less : rank_at f 32 s target < rank_at f levels s at
      unfolding RightAlias
      target_less =
          let p = parts Expression f.names s at levels some_level _ x a.tree a.end a.reads in
          let y = rank_read f 32 s target w.1.target w.3 w.7 in
          let z = rank_read f levels s at a.tree a.end a.reads ∙ ap (rank_of (schema_of f.edition s)) p.1 in
          omega (arith, target_below (schema_of f.edition s) (alias_ranked s starts f a.ready.promise) v w.0 w.1 p.0 w.4 w.5)

      pub name_alias : (inner meant r : Value) → RightName f.names (levels - 1) (schema_of f.edition s) s places n scope inner
          → RightName f.names 32 (schema_of f.edition s) s places target (Scope.One list inner) meant → r ≡ Value.Id (id_or meant) → Right r
      unfolding substitute value_of leaf_value RightAlias Stands
      name_alias inner meant r i j d ps ts st e end q chain l =
          let p = parts Expression f.names s at levels some_level _ x e end q in
          let k : rank_of (schema_of f.edition s) (generic v p.0) ≤ chain = rw (← p.1) l in
          let y = target_below (schema_of f.edition s) (alias_ranked s starts f a.ready.promise) v w.0 w.1 p.0 w.4 w.5 in
          let z = argument_below (schema_of f.edition s) v p.0 in
          rw p.1 (d ∙ ap Value.Id (go p.0 chain (omega arith) (i ps ts st p.0 end p.2 chain (omega arith))))
        where
          go : (u : Tree) (chain : ℕ) → rank_of (schema_of f.edition s) w.1.target < chain
              → inner ≡ value_of (substitute (schema_of f.edition s) (applied (schema_of f.edition s) chain) ps ts u)
              → id_or meant ≡ applied (schema_of f.edition s) chain v (substitute (schema_of f.edition s) (applied (schema_of f.edition s) chain) ps ts u)
          go u zero k g = absurd (omega arith)
          go u (suc c) k g =
              ap id_or (j w.1.parameters (substitute (schema_of f.edition s) (applied (schema_of f.edition s) (suc c)) ps ts u ∷ []) (w.2, _, w.6, refl, sym g) w.1.target w.3 w.7 c (omega arith))
              ∙ sym (applied_some (schema_of f.edition s) v _ c w.0 w.1 w.4 w.5)
