-- What the code's steps through a head say of its shape; where a tree ends, and what its parts are, by its head's shape.
-- Assumes nothing.
use Prim.Native.Nat.{ℕ, ◌-◌, ◌^◌, ◌≤◌, ◌<◌}
use mathlib.Core.Path.{◌≡◌, refl, sym, ap, subst, ◌∙◌}
use mathlib.Core.List.{List}
use native.Mathlib.Omega.{arith}
use lib.ListN.{get_or-eq_default}
use Rattle.number.specs.Grammar.{Role, kind, name, value, Grammar, ◌>>=◌, number, many, counted, too_deep, Outcome, done, refused, and_then, below, read}
use Rattle.number.specs.Answers.{next, follow}
use Rattle.number.specs.declared.Next.{Next}
use Rattle.number.proofs.Reading.{read_bind, read_number, next_read, next_make, read_done, then_done, given, many_length, number_on, number_refused, counted_on, counted_refused}
use Rattle.tree.specs.Tree.{Tree, Leaf, Wrap, Pair, leaf, sub_byte, bits_inline, wrap, pair, fixed_array, leaf_kind, leaf_flag, leaf_number, generic, wrap_kind, pair_kind}
use Rattle.tree.specs.TreeAt.{Node, none, one, two, sized, applied, kind_table, body_at, sub_byte_at, bits_at, plain_at, kinds_of, head_at, fill, tree_at, shape, plain_head}
use Rattle.tree.specs.declared.Sort.{Sort}
use Rattle.tree.specs.declared.Head.{Head}
use Rattle.tree.proofs.Ranges.{each}
use Rattle.tree.proofs.Levels.{deep_at, deep_refused, nested_deep, nested_on}

-- a kind that holds one number
pub shape_plain : (k flag : ℕ) (role : Role) (limit : ℕ) (f : ℕ → Leaf) (s : List ℕ) (at : ℕ)
    → ((v : ℕ) → leaf_kind (f v) ≡ k) → ((v : ℕ) → leaf_flag (f v) ≡ flag) → ((v : ℕ) → leaf_number (f v) ≡ v)
    → shape (read (plain_at role limit f) s at) ≡ plain_head k flag (below limit s at)
unfolding read ◌>>=◌ and_then
shape_plain k flag role limit f s at h g i = go (below limit s at)
  where
    go : (m : Outcome ℕ) → shape (and_then m (λ v n. done (none (f v)) n)) ≡ plain_head k flag m
    go (done v n) = rw (h v, g v, i v)
    go (refused r p) = refl

module _ (sort : Sort) (names : ℕ) (s : List ℕ) (at : ℕ) where
  pub body_one_low : (k : ℕ) → 4 ≤ k → k < 6 → shape (read (body_at sort names k) s at) ≡ Head.One k at
  unfolding body_at read
  body_one_low = each (λ k. shape (read (body_at sort names k) s at) ≡ Head.One k at) 4 2 (refl, (refl, tt))

  pub body_two : (k : ℕ) → 8 ≤ k → k < 10 → shape (read (body_at sort names k) s at) ≡ Head.Two k at
  unfolding body_at read
  body_two = each (λ k. shape (read (body_at sort names k) s at) ≡ Head.Two k at) 8 2 (refl, (refl, tt))

  pub body_one_high : (k : ℕ) → 10 ≤ k → k < 16 → shape (read (body_at sort names k) s at) ≡ Head.One k at
  unfolding body_at read
  body_one_high = each (λ k. shape (read (body_at sort names k) s at) ≡ Head.One k at) 10 6 (refl, (refl, (refl, (refl, (refl, (refl, tt))))))

  pub body_none : (k : ℕ) → 19 ≤ k → shape (read (body_at sort names k) s at) ≡ Head.Refused 4 at
  unfolding body_at read ◌>>=◌
  body_none k h = ap (λ (g : Grammar Node). shape (read g s at)) (get_or-eq_default (kind_table sort names) _ h)

-- the head of an inline bit field, from where its names end
unfoldable pub counted_head : ℕ → Next → Head
counted_head c (Next.At n) = Head.Leaf 16 0 c n
counted_head c (Next.Refused r p) = Head.Refused r p

module _ (s : List ℕ) (at : ℕ) where
  pub sub_byte_on : (v n : ℕ) → below 2 s at ≡ done v n → shape (read sub_byte_at s at) ≡ plain_head 1 v (below 256 s n)
  unfolding sub_byte_at read ◌>>=◌ and_then
  sub_byte_on v n e = rw e (shape_plain 1 v value 256 (λ b. sub_byte v b) s n (λ b. refl) (λ b. refl) (λ b. refl))

  pub bits_on : (names v n : ℕ) → below 65537 s at ≡ done v n → shape (read (bits_at names) s at) ≡ counted_head v (next (read (many v (number name names)) s n))
  unfolding bits_at read and_then counted_head
  bits_on names v n e =
      ap shape (read_bind (counted (number name names)) _ s at) ∙ rw (counted_on (number name names) s at v n e) (go (read (many v (number name names)) s n) refl)
    where
      go : (x : Outcome (List ℕ)) → read (many v (number name names)) s n ≡ x → shape (and_then x (λ ns m. done (none (bits_inline ns)) m)) ≡ counted_head v (next x)
      go (done ns m) q = rw (many_length (number name names) s v n ns m q)
      go (refused r p) q = refl

  pub bits_refused : (names r p : ℕ) → below 65537 s at ≡ refused r p → shape (read (bits_at names) s at) ≡ Head.Refused r p
  unfolding bits_at and_then
  bits_refused names r p e = ap shape (read_bind (counted (number name names)) _ s at) ∙ rw (counted_refused (number name names) s at r p e)

-- where a tree ends, by the shape of its head
unfoldable pub walk : Grammar Tree → List ℕ → Head → Next
walk child s (Head.Leaf k g v n) = Next.At n
walk child s (Head.One k n) = next (read child s n)
walk child s (Head.Generic v n) = next (read child s n)
walk child s (Head.Two k n) = follow (next (read child s n)) (λ m. next (read child s m))
walk child s (Head.Sized n) = follow (next (read child s n)) (λ m. next (below (2 ^ 64) s m))
walk child s (Head.Refused r p) = Next.Refused r p

walked : (child : Grammar Tree) (s : List ℕ) (h : Outcome Node) → next (and_then h (λ node n. read (fill child node) s n)) ≡ walk child s (shape h)
unfolding walk fill and_then read
walked child s (done (none l) n) = refl
walked child s (done (one w) n) = next_make child (wrap w) s n
walked child s (done (two p) n) = next_read child _ s n (λ m. next (read child s m)) (λ t m. next_make child (pair p t) s m)
walked child s (done sized n) =
    next_read child _ s n (λ m. next (below (2 ^ 64) s m))
    (λ t m. next_make (number value (2 ^ 64)) (fixed_array t) s m ∙ ap next (read_number value (2 ^ 64) s m))
walked child s (done (applied v) n) = next_make child (generic v) s n
walked child s (refused r p) = refl

-- what is known of a tree whose head has a shape
abbrev pub Parts : Grammar Tree → List ℕ → Head → Tree → ℕ → Type 0
Parts child s (Head.Leaf k g v n) t end = (l : Leaf) × (t ≡ leaf l) × (leaf_kind l ≡ k) × (leaf_flag l ≡ g) × (leaf_number l ≡ v) × (n ≡ end)
Parts child s (Head.One k n) t end = (w : Wrap) × (u : Tree) × (t ≡ wrap w u) × (wrap_kind w ≡ k) × (read child s n ≡ done u end)
Parts child s (Head.Generic v n) t end = (u : Tree) × (t ≡ generic v u) × (read child s n ≡ done u end)
Parts child s (Head.Two k n) t end = (p : Pair) × (u : Tree) × (v : Tree) × (m : ℕ) × (t ≡ pair p u v) × (pair_kind p ≡ k) × (read child s n ≡ done u m) × (read child s m ≡ done v end)
Parts child s (Head.Sized n) t end = (u : Tree) × (m : ℕ) × (size : ℕ) × (t ≡ fixed_array u size) × (read child s n ≡ done u m) × (below (2 ^ 64) s m ≡ done size end)
Parts child s (Head.Refused r p) t end = ⊥

node_parts : (child : Grammar Tree) (s : List ℕ) (node : Node) (n : ℕ) (t : Tree) (end : ℕ) → read (fill child node) s n ≡ done t end
    → Parts child s (shape (done node n)) t end
unfolding fill read
node_parts child s (none l) n t end e = let g = given e in (l, sym g.0, refl, refl, refl, g.1)
node_parts child s (one w) n t end e =
    let a = read_done child _ s n t end e in
    let g = given a.rest in
    (w, a.first, sym g.0, refl, a.here ∙ ap (done a.first) g.1)
node_parts child s (applied v) n t end e =
    let a = read_done child _ s n t end e in
    let g = given a.rest in
    (a.first, sym g.0, a.here ∙ ap (done a.first) g.1)
node_parts child s (two p) n t end e =
    let a = read_done child _ s n t end e in
    let b = read_done child _ s a.middle t end a.rest in
    let g = given b.rest in
    (p, a.first, b.first, a.middle, sym g.0, refl, a.here, b.here ∙ ap (done b.first) g.1)
node_parts child s sized n t end e =
    let a = read_done child _ s n t end e in
    let b = read_done (number value (2 ^ 64)) _ s a.middle t end a.rest in
    let g = given b.rest in
    (a.first, a.middle, b.first, sym g.0, a.here, sym (read_number value (2 ^ 64) s a.middle) ∙ b.here ∙ ap (done b.first) g.1)

module _ (sort : Sort) (names : ℕ) (s : List ℕ) (at levels : ℕ) where
  pub tree_deep : levels ≡ 0 → next (read (tree_at sort names levels) s at) ≡ next (read (too_deep {A = Tree} (kinds_of sort)) s at)
  unfolding tree_at
  tree_deep e = ap next (nested_deep _ (head_at sort names) fill s at levels (omega arith))

  tree_on : (levels ≡ 0 → ⊥) → read (tree_at sort names levels) s at
      ≡ and_then (read (head_at sort names) s at) (λ node n. read (fill (tree_at sort names (levels - 1)) node) s n)
  unfolding tree_at
  tree_on h = nested_on _ (head_at sort names) fill s at levels (omega arith)

  -- where a tree ends, from the shape that was read
  pub tree_ends : (levels ≡ 0 → ⊥) → (x : Head) → shape (read (head_at sort names) s at) ≡ x
      → next (read (tree_at sort names levels) s at) ≡ walk (tree_at sort names (levels - 1)) s x
  tree_ends h x e = ap next (tree_on h) ∙ walked _ s (read (head_at sort names) s at) ∙ ap (walk _ s) e

  -- a tree that was read whole, by the shape of its head: its parts, each read whole at one level less
  pub parts : (levels ≡ 0 → ⊥) → (x : Head) → shape (read (head_at sort names) s at) ≡ x → (t : Tree) (end : ℕ)
      → read (tree_at sort names levels) s at ≡ done t end → Parts (tree_at sort names (levels - 1)) s x t end
  parts h x e t end q =
      let b = then_done (read (head_at sort names) s at) _ (sym (tree_on h) ∙ q) in
      subst (λ (y : Head). Parts (tree_at sort names (levels - 1)) s y t end) (ap shape (sym b.2) ∙ e)
      (node_parts (tree_at sort names (levels - 1)) s b.0 b.1 t end b.3)

  -- the head of a tree: what its kind is, and what the kind holds
  pub head_on : (k n : ℕ) → below (kinds_of sort) s at ≡ done k n → shape (read (head_at sort names) s at) ≡ shape (read (body_at sort names k) s n)
  unfolding head_at
  head_on k n e = ap shape (number_on kind (kinds_of sort) (body_at sort names) s at k n e)

  pub head_refused : (r p : ℕ) → below (kinds_of sort) s at ≡ refused r p → shape (read (head_at sort names) s at) ≡ Head.Refused r p
  unfolding head_at
  head_refused r p e = ap shape (number_refused kind (kinds_of sort) (body_at sort names) s at r p e)

  -- no tree has no levels
  pub no_tree : levels ≡ 0 → (t : Tree) (end : ℕ) → read (tree_at sort names levels) s at ≡ done t end → ⊥
  no_tree z t end e = go (below (kinds_of sort) s at) refl
    where
      go : (o : Outcome ℕ) → below (kinds_of sort) s at ≡ o → ⊥
      go (done k p) f =
          let d = deep_at s at (kinds_of sort) Tree k p f ∙ sym (tree_deep z) ∙ ap next e in
          let y : ◌≡◌ {A = ℕ} 0 1 = cc in omega arith
      go (refused r p) f =
          let d = deep_refused s at (kinds_of sort) Tree r p f ∙ sym (tree_deep z) ∙ ap next e in
          let y : ◌≡◌ {A = ℕ} 0 1 = cc in omega arith
