-- Trees by their kinds, and a tree that was read by the numbers of its head. Assumes nothing.
use Prim.Native.Nat.{ℕ, zero, suc, ◌-◌, ◌^◌}
use mathlib.Core.Path.{◌≡◌, refl, sym, ap, subst, ◌∙◌}
use mathlib.Core.List.{List, [], ◌∷◌}
use native.Mathlib.Omega.{arith}
use lib.ListN.{get_or}
use Rattle.number.specs.Grammar.{value, Grammar, number, Outcome, done, below, read}
use Rattle.number.proofs.Reading.{read_done, then_done, given, read_number}
use Rattle.tree.specs.Tree.{Tree, Leaf, Wrap, Pair, leaf, primitive, sub_byte, semantic, named, bits_inline, qualified, wrap, fixed_array, pair, generic, optional, array, set_of, map_of, result_of, vec2, vec3, vec4, quat, mat3, mat4, leaf_kind, wrap_kind, pair_kind}
use Rattle.tree.specs.TreeAt as ta
use Rattle.tree.specs.TreeAt.{none, one, two, sized, applied, head_at, fill, tree_at, shape}
use Rattle.tree.specs.declared.Sort.{Sort}
use Rattle.tree.specs.declared.Sort.TheVariants.{Resolved}
use Rattle.tree.proofs.Levels.{nested_on}
use Rattle.tree.proofs.Shapes.{no_tree}
use Rattle.tree.proofs.Nodes.{head_parts}
use Rattle.matching.specs.Steps.{node_of, leaf_node}
use Rattle.matching.specs.declared.Node.{Node}

unfoldable pub tree_kind : Tree → ℕ
tree_kind (leaf l) = leaf_kind l
tree_kind (wrap w t) = wrap_kind w
tree_kind (fixed_array t n) = 6
tree_kind (pair p t u) = pair_kind p
tree_kind (generic n t) = 18

-- which constructor a kind belongs to
unfoldable sort_of : ℕ → ℕ
sort_of k = get_or (0 ∷ 0 ∷ 0 ∷ 0 ∷ 1 ∷ 1 ∷ 3 ∷ 1 ∷ 2 ∷ 2 ∷ 1 ∷ 1 ∷ 1 ∷ 1 ∷ 1 ∷ 1 ∷ 0 ∷ 0 ∷ 4 ∷ []) k 5

leaf_sort : (l : Leaf) → sort_of (leaf_kind l) ≡ 0
unfolding sort_of
leaf_sort (primitive p) = refl
leaf_sort (sub_byte g b) = refl
leaf_sort (semantic m) = refl
leaf_sort (named i) = refl
leaf_sort (bits_inline ns) = refl
leaf_sort (qualified n) = refl

wrap_sort : (w : Wrap) → sort_of (wrap_kind w) ≡ 1
unfolding sort_of
wrap_sort optional = refl
wrap_sort array = refl
wrap_sort set_of = refl
wrap_sort vec2 = refl
wrap_sort vec3 = refl
wrap_sort vec4 = refl
wrap_sort quat = refl
wrap_sort mat3 = refl
wrap_sort mat4 = refl

pair_sort : (p : Pair) → sort_of (pair_kind p) ≡ 2
unfolding sort_of
pair_sort map_of = refl
pair_sort result_of = refl

abbrev tree_sort : Tree → ℕ
tree_sort (leaf l) = 0
tree_sort (wrap w t) = 1
tree_sort (fixed_array t n) = 3
tree_sort (pair p t u) = 2
tree_sort (generic n t) = 4

tree_sort_lem : (t : Tree) → tree_sort t ≡ sort_of (tree_kind t)
unfolding tree_kind sort_of
tree_sort_lem (leaf l) = sym (leaf_sort l)
tree_sort_lem (wrap w t) = sym (wrap_sort w)
tree_sort_lem (fixed_array t n) = refl
tree_sort_lem (pair p t u) = sym (pair_sort p)
tree_sort_lem (generic n t) = refl

-- a kind's wrapper
unfoldable wrap_of : ℕ → Wrap
wrap_of k = get_or (optional ∷ optional ∷ optional ∷ optional ∷ optional ∷ array ∷ optional ∷ set_of ∷ optional ∷ optional ∷ vec2 ∷ vec3 ∷ vec4 ∷ quat ∷ mat3 ∷ mat4 ∷ []) k optional

wrap_back : (w : Wrap) → wrap_of (wrap_kind w) ≡ w
unfolding wrap_of
wrap_back optional = refl
wrap_back array = refl
wrap_back set_of = refl
wrap_back vec2 = refl
wrap_back vec3 = refl
wrap_back vec4 = refl
wrap_back quat = refl
wrap_back mat3 = refl
wrap_back mat4 = refl

pub wrap_same : (w v : Wrap) → wrap_kind w ≡ wrap_kind v → w ≡ v
wrap_same w v e = sym (wrap_back w) ∙ ap wrap_of e ∙ wrap_back v

unfoldable pair_of : ℕ → Pair
pair_of k = get_or (result_of ∷ map_of ∷ []) (9 - k) map_of

pair_back : (p : Pair) → pair_of (pair_kind p) ≡ p
unfolding pair_of
pair_back map_of = refl
pair_back result_of = refl

pub pair_same : (p q : Pair) → pair_kind p ≡ pair_kind q → p ≡ q
pair_same p q e = sym (pair_back p) ∙ ap pair_of e ∙ pair_back q

-- a tree of a kind
as_leaf : (t : Tree) (l : Leaf) → tree_kind t ≡ leaf_kind l → (k : Leaf) × (t ≡ leaf k)
as_leaf t l e = go t (tree_sort_lem t ∙ ap sort_of e ∙ leaf_sort l)
  where
    go : (t : Tree) → tree_sort t ≡ 0 → (k : Leaf) × (t ≡ leaf k)
    go (leaf k) s = (k, refl)
    go (wrap w t) s = absurd (omega arith)
    go (fixed_array t n) s = absurd (omega arith)
    go (pair p t u) s = absurd (omega arith)
    go (generic n t) s = absurd (omega arith)

as_wrap : (t : Tree) (w : Wrap) → tree_kind t ≡ wrap_kind w → (u : Tree) × (t ≡ wrap w u)
unfolding tree_kind
as_wrap t w e = go t (tree_sort_lem t ∙ ap sort_of e ∙ wrap_sort w) e
  where
    go : (t : Tree) → tree_sort t ≡ 1 → tree_kind t ≡ wrap_kind w → (u : Tree) × (t ≡ wrap w u)
    go (leaf k) s f = absurd (omega arith)
    go (wrap v t) s f = (t, ap (λ (x : Wrap). wrap x t) (wrap_same v w f))
    go (fixed_array t n) s f = absurd (omega arith)
    go (pair p t u) s f = absurd (omega arith)
    go (generic n t) s f = absurd (omega arith)

as_pair : (t : Tree) (q : Pair) → tree_kind t ≡ pair_kind q → (u : Tree) × (v : Tree) × (t ≡ pair q u v)
unfolding tree_kind
as_pair t q e = go t (tree_sort_lem t ∙ ap sort_of e ∙ pair_sort q) e
  where
    go : (t : Tree) → tree_sort t ≡ 2 → tree_kind t ≡ pair_kind q → (u : Tree) × (v : Tree) × (t ≡ pair q u v)
    go (leaf k) s f = absurd (omega arith)
    go (wrap w t) s f = absurd (omega arith)
    go (fixed_array t n) s f = absurd (omega arith)
    go (pair p t u) s f = (t, u, ap (λ (x : Pair). pair x t u) (pair_same p q f))
    go (generic n t) s f = absurd (omega arith)

as_array : (t : Tree) → tree_kind t ≡ 6 → (u : Tree) × (z : ℕ) × (t ≡ fixed_array u z)
unfolding sort_of
as_array t e = go t (tree_sort_lem t ∙ ap sort_of e)
  where
    go : (t : Tree) → tree_sort t ≡ 3 → (u : Tree) × (z : ℕ) × (t ≡ fixed_array u z)
    go (leaf k) s = absurd (omega arith)
    go (wrap w t) s = absurd (omega arith)
    go (fixed_array t n) s = (t, n, refl)
    go (pair p t u) s = absurd (omega arith)
    go (generic n t) s = absurd (omega arith)

-- what was read of a tree, by its constructor
unfoldable Opened : Grammar Tree → List ℕ → Outcome ta.Node → Tree → ℕ → Type 0
Opened child s o (leaf l) m = o ≡ done (none l) m
Opened child s o (wrap w u) m = (n : ℕ) × (o ≡ done (one w) n) × (read child s n ≡ done u m)
Opened child s o (fixed_array u z) m = (n : ℕ) × (k : ℕ) × (o ≡ done sized n) × (read child s n ≡ done u k) × (below (2 ^ 64) s k ≡ done z m)
Opened child s o (pair p u v) m = (n : ℕ) × (k : ℕ) × (o ≡ done (two p) n) × (read child s n ≡ done u k) × (read child s k ≡ done v m)
Opened child s o (generic v u) m = (n : ℕ) × (o ≡ done (applied v) n) × (read child s n ≡ done u m)

node_opened : (child : Grammar Tree) (s : List ℕ) (o : Outcome ta.Node) (node : ta.Node) (n : ℕ) (t : Tree) (m : ℕ) → o ≡ done node n
    → read (fill child node) s n ≡ done t m → Opened child s o t m
unfolding fill read Opened
node_opened child s o (none l) n t m h e =
    let g = given e in
    subst (λ (x : Tree). Opened child s o x m) g.0 (h ∙ ap (done (none l)) g.1)
node_opened child s o (one w) n t m h e =
    let a = read_done child _ s n t m e in
    let g = given a.rest in
    subst (λ (x : Tree). Opened child s o x m) g.0 (n, h, a.here ∙ ap (done a.first) g.1)
node_opened child s o (two p) n t m h e =
    let a = read_done child _ s n t m e in
    let b = read_done child _ s a.middle t m a.rest in
    let g = given b.rest in
    subst (λ (x : Tree). Opened child s o x m) g.0 (n, a.middle, h, a.here, b.here ∙ ap (done b.first) g.1)
node_opened child s o sized n t m h e =
    let a = read_done child _ s n t m e in
    let b = read_done (number value (2 ^ 64)) _ s a.middle t m a.rest in
    let g = given b.rest in
    subst (λ (x : Tree). Opened child s o x m) g.0
    (n, a.middle, h, a.here, sym (read_number value (2 ^ 64) s a.middle) ∙ b.here ∙ ap (done b.first) g.1)
node_opened child s o (applied v) n t m h e =
    let a = read_done child _ s n t m e in
    let g = given a.rest in
    subst (λ (x : Tree). Opened child s o x m) g.0 (n, h, a.here ∙ ap (done a.first) g.1)

opened : (sort : Sort) (names d : ℕ) (s : List ℕ) (at : ℕ) (t : Tree) (m : ℕ) → read (tree_at sort names d) s at ≡ done t m
    → Opened (tree_at sort names (d - 1)) s (read (head_at sort names) s at) t m
unfolding tree_at
opened sort names zero s at t m e = absurd (no_tree sort names s at 0 refl t m e)
opened sort names (suc d) s at t m e =
    let b = then_done (read (head_at sort names) s at) _ (sym (nested_on _ (head_at sort names) fill s at (suc d) (omega arith)) ∙ e) in
    node_opened _ s _ b.0 b.1 t m b.2 b.3

-- the head of a leaf
pub leaf_head : (sort : Sort) (names d : ℕ) (s : List ℕ) (at : ℕ) (t : Tree) (l : Leaf) (m : ℕ) → read (tree_at sort names d) s at ≡ done t m → t ≡ leaf l
    → read (head_at sort names) s at ≡ done (none l) m
unfolding Opened
leaf_head sort names d s at t l m e f = opened sort names d s at (leaf l) m (e ∙ ap (λ (x : Tree). done x m) f)

pub no_generic : (names d : ℕ) (s : List ℕ) (at v : ℕ) (u t : Tree) (m : ℕ) → read (tree_at Resolved names d) s at ≡ done t m → t ≡ generic v u → ⊥
unfolding Opened
no_generic names d s at v u t m e f =
    let o = opened Resolved names d s at (generic v u) m (e ∙ ap (λ (x : Tree). done x m) f) in
    omega (arith, (head_parts s Resolved names at (applied v) o.0 o.1).kind_below)

-- a type by the numbers of its head
module _ (names : ℕ) (s : List ℕ) (p : ℕ) (a : Node) (x : a ≡ node_of (shape (read (head_at Resolved names) s p)))
    (d : ℕ) (t : Tree) (m : ℕ) (r : read (tree_at Resolved names d) s p ≡ done t m) where
  head_is : (node : ta.Node) (n : ℕ) → read (head_at Resolved names) s p ≡ done node n → a ≡ node_of (shape (done node n))
  head_is node n h = x ∙ ap (λ (z : Outcome ta.Node). node_of (shape z)) h

  inside : (node : ta.Node) (n : ℕ) → read (head_at Resolved names) s p ≡ done node n → {o : Outcome Tree}
      → read (tree_at Resolved names (d - 1)) s (node_of (shape (done node n))).next ≡ o → read (tree_at Resolved names (d - 1)) s a.next ≡ o
  inside node n h e = ap (λ (z : Node). read (tree_at Resolved names (d - 1)) s z.next) (head_is node n h) ∙ e

  open_as : (u : Tree) → t ≡ u → Opened (tree_at Resolved names (d - 1)) s (read (head_at Resolved names) s p) u m
  open_as u e = opened Resolved names d s p u m (r ∙ ap (λ (y : Tree). done y m) e)

  pub kind_of_lem : a.kind ≡ tree_kind t
  unfolding Opened tree_kind
  kind_of_lem = go t (open_as t refl)
    where
      told : (node : ta.Node) (n : ℕ) → read (head_at Resolved names) s p ≡ done node n → a.kind ≡ (node_of (shape (done node n))).kind
      told node n h = ap (λ (y : Node). y.kind) (head_is node n h)

      go : (t : Tree) → Opened (tree_at Resolved names (d - 1)) s (read (head_at Resolved names) s p) t m → a.kind ≡ tree_kind t
      go (leaf l) h = told (none l) m h
      go (wrap w u) h = told (one w) h.0 h.1
      go (fixed_array u z) h = told sized h.0 h.2
      go (pair q u v) h = told (two q) h.0 h.2
      go (generic v u) h = told (applied v) h.0 h.1

  pub in_wrap : (w : Wrap) → a.kind ≡ wrap_kind w → (u : Tree) × (t ≡ wrap w u) × (read (tree_at Resolved names (d - 1)) s a.next ≡ done u m)
  unfolding Opened
  in_wrap w e =
      let y = as_wrap t w (sym kind_of_lem ∙ e) in
      let g = open_as _ y.1 in
      (y.0, y.1, inside (one w) g.0 g.1 g.2)

  pub in_pair : (q : Pair) → a.kind ≡ pair_kind q
      → (u : Tree) × (v : Tree) × (k : ℕ) × (t ≡ pair q u v) × (read (tree_at Resolved names (d - 1)) s a.next ≡ done u k) × (read (tree_at Resolved names (d - 1)) s k ≡ done v m)
  unfolding Opened
  in_pair q e =
      let y = as_pair t q (sym kind_of_lem ∙ e) in
      let g = open_as _ y.2 in
      (y.0, y.1, g.1, y.2, inside (two q) g.0 g.2 g.3, g.4)

  pub in_array : a.kind ≡ 6
      → (u : Tree) × (z : ℕ) × (k : ℕ) × (t ≡ fixed_array u z) × (read (tree_at Resolved names (d - 1)) s a.next ≡ done u k) × (below (2 ^ 64) s k ≡ done z m)
  unfolding Opened
  in_array e =
      let y = as_array t (sym kind_of_lem ∙ e) in
      let g = open_as _ y.2 in
      (y.0, y.1, g.1, y.2, inside sized g.0 g.2 g.3, g.4)

  pub in_leaf : (l : Leaf) → a.kind ≡ leaf_kind l → (k : Leaf) × (t ≡ leaf k) × (read (head_at Resolved names) s p ≡ done (none k) m) × (a ≡ leaf_node k m)
  unfolding Opened
  in_leaf l e =
      let y = as_leaf t l (sym kind_of_lem ∙ e) in
      let g = open_as _ y.1 in
      (y.0, y.1, g, head_is (none y.0) m g)
