-- Marks of a row by the shape of a tree's head: what the walk has at each of its ends. Assumes nothing.
use Prim.Native.Nat.{ℕ, suc, ◌-◌, ◌^◌, ◌≤◌, ◌<◌}
use mathlib.Core.Path.{◌≡◌, refl, sym, ap, subst, ◌∙◌}
use mathlib.Core.List.{List, [], ◌∷◌, ◌++◌}
use mathlib.Core.Bool.{Bool, true, false, cond, ◌&&◌, and-false, or-false, or_assoc, and-or_distrib_left}
use native.Mathlib.Omega.{arith}
use borrow.Author.Tests.{ne_eqb}
use lib.Dec.{eqb}
use lib.ListN.{length, get_or, get_or-eq_default}
use Rattle.number.specs.Grammar.{Outcome, done, below, read}
use Rattle.number.specs.Answers.{next}
use Rattle.tree.specs.Tree.{Tree, Leaf, Wrap, Pair, leaf, wrap, fixed_array, pair, generic, primitive, sub_byte, semantic, named, bits_inline, qualified, optional, array, set_of, vec2, vec3, vec4, quat, mat3, mat4, map_of, result_of, leaf_kind, leaf_number, wrap_kind, pair_kind}
use Rattle.tree.specs.TreeAt.{tree_at, head_at, shape}
use Rattle.tree.specs.declared.Sort.{Sort}
use Rattle.tree.specs.declared.Sort.TheVariants.{Resolved, Expression}
use Rattle.tree.specs.declared.Head.{Head}
use Rattle.tree.proofs.Ranges.{each}
use Rattle.tree.proofs.Shapes.{no_tree, parts}
use Rattle.graph.specs.Ways.{has}
use Rattle.graph.specs.Table.{grid, Marked}
use Rattle.graph.proofs.Rows.{grown_none, grown_as}
use Rattle.loops.specs.Leads.{followed, followed_pair, terminal_slots, found, generic_slots, tree_slots}
use Rattle.loops.proofs.Chains.{has_append}
use Rattle.view.specs.Take.{place_of}
use Rattle.loops.specs.Marks.{enters, name_slots, Led, TreeMarked}

module _ {m : List ℕ} (row : ℕ) where
  pub led_none : {l : List ℕ} → [] ≡ l → Led m row l m
  unfolding has
  led_none e = grown_none (λ a b p q. rw (← e) (and-false (eqb a row)))

  pub led_one : {b : ℕ} {m' l : List ℕ} → Marked m row b m' → b ∷ [] ≡ l → Led m row l m'
  unfolding has
  led_one {b} g e = grown_as g (λ x y p q. rw (← e) (ap (λ (t : Bool). eqb x row && t) (sym (or-false (eqb y b)))))

  pub led_as : {k l : List ℕ} {m' : List ℕ} → k ≡ l → Led m row k m' → Led m row l m'
  led_as {m' = m'} e g = subst (λ (x : List ℕ). Led m row x m') e g

  pub led_more : (k l : List ℕ) {m₁ m₂ : List ℕ} → Led m row k m₁ → Led m₁ row l m₂ → Led m row (k ++ l) m₂
  led_more k l f g =
      record {
        long = g.long ∙ f.long;
        places = λ a b p q.
            g.places a b (omega (arith, f.long)) q
            ∙ rw (f.places a b p q, has_append b k l, and-or_distrib_left (eqb a row) (has b k) (has b l))
            (or_assoc (grid m a b) (eqb a row && has b k) (eqb a row && has b l));
      }

-- the kinds that are gone into
pub enters_rest : (k : ℕ) → (k ≡ 5 → ⊥) → (k ≡ 7 → ⊥) → (k ≡ 8 → ⊥) → true ≡ enters Resolved k
unfolding enters has
enters_rest k a b c = rw (ne_eqb k 5 a, ne_eqb k 7 b, ne_eqb k 8 c)

pub enters_not : (k : ℕ) → 7 ≤ k → k < 9 → false ≡ enters Resolved k
unfolding enters has
enters_not = each (λ k. false ≡ enters Resolved k) 7 2 (refl, (refl, tt))

wrap_entered : (w : Wrap) → followed w ≡ enters Resolved (wrap_kind w)
unfolding enters has
wrap_entered optional = refl
wrap_entered array = refl
wrap_entered set_of = refl
wrap_entered vec2 = refl
wrap_entered vec3 = refl
wrap_entered vec4 = refl
wrap_entered quat = refl
wrap_entered mat3 = refl
wrap_entered mat4 = refl

pair_entered : (p : Pair) → followed_pair p ≡ enters Resolved (pair_kind p)
unfolding enters has
pair_entered map_of = refl
pair_entered result_of = refl

-- what a tree leads to, from its parts
module _ (finds : List ℕ) where
  wrap_slots : (sort : Sort) {t u : Tree} {w : Wrap} {k : ℕ} {b : Bool} → t ≡ wrap w u → wrap_kind w ≡ k → b ≡ enters sort k
      → cond b (tree_slots sort finds u) [] ≡ tree_slots sort finds t
  unfolding tree_slots terminal_slots generic_slots enters
  wrap_slots Resolved {u = u} {w} e f g = rw (e, g, ← f) (ap (λ (b : Bool). cond b (terminal_slots u) []) (sym (wrap_entered w)))
  wrap_slots Expression e f g = rw (e, g)

  pair_slots : (sort : Sort) {t u v : Tree} {p : Pair} {k : ℕ} {b : Bool} → t ≡ pair p u v → pair_kind p ≡ k → b ≡ enters sort k
      → cond b (tree_slots sort finds u ++ tree_slots sort finds v) [] ≡ tree_slots sort finds t
  unfolding tree_slots terminal_slots generic_slots enters
  pair_slots Resolved {u = u} {v} {p} e f g =
      rw (e, g, ← f) (ap (λ (b : Bool). cond b (terminal_slots u ++ terminal_slots v) []) (sym (pair_entered p)))
  pair_slots Expression e f g = rw (e, g)

  sized_slots : (sort : Sort) {t u : Tree} {n : ℕ} → t ≡ fixed_array u n → tree_slots sort finds u ≡ tree_slots sort finds t
  unfolding tree_slots terminal_slots generic_slots
  sized_slots Resolved e = rw e
  sized_slots Expression e = rw e

  generic_slots_lem : (sort : Sort) {t u : Tree} {n : ℕ} → t ≡ generic n u → name_slots sort finds n ++ tree_slots sort finds u ≡ tree_slots sort finds t
  unfolding tree_slots terminal_slots generic_slots name_slots
  generic_slots_lem Resolved e = rw e
  generic_slots_lem Expression e = rw e

  pub name_none : (sort : Sort) (n : ℕ) → get_or finds n 0 ≤ 0 → [] ≡ name_slots sort finds n
  unfolding name_slots
  name_none Resolved n h = refl
  name_none Expression n h = let z : get_or finds n 0 ≡ 0 = omega arith in rw z

  pub name_out : (sort : Sort) (n : ℕ) → length finds ≤ n → [] ≡ name_slots sort finds n
  name_out sort n h = name_none sort n (omega (arith, get_or-eq_default finds 0 h))

  pub name_found : (n v : ℕ) → v ≡ get_or finds n 0 → 0 < v → (v - 1) ∷ [] ≡ name_slots Expression finds n
  unfolding name_slots
  name_found n v e h = let z : get_or finds n 0 ≡ suc (v - 1) = omega arith in sym (ap found z)

  pub leaf_none : (l : Leaf) → (leaf_kind l ≡ 3 → ⊥) → [] ≡ tree_slots Resolved finds (leaf l)
  unfolding tree_slots terminal_slots
  leaf_none (primitive p) h = refl
  leaf_none (sub_byte g b) h = refl
  leaf_none (semantic m) h = refl
  leaf_none (named i) h = absurd (h refl)
  leaf_none (bits_inline ns) h = refl
  leaf_none (qualified n) h = refl

  pub leaf_other : (sort : Sort) (l : Leaf) → (sort ≡ Resolved → leaf_kind l ≡ 3 → ⊥) → [] ≡ tree_slots sort finds (leaf l)
  unfolding tree_slots generic_slots
  leaf_other Resolved l h = leaf_none l (h refl)
  leaf_other Expression l h = refl

  pub leaf_named : (l : Leaf) (v : ℕ) → leaf_kind l ≡ 3 → leaf_number l ≡ v → v ∷ [] ≡ tree_slots Resolved finds (leaf l)
  unfolding tree_slots terminal_slots
  leaf_named (primitive p) v h e = absurd (omega arith)
  leaf_named (sub_byte g b) v h e = absurd (omega arith)
  leaf_named (semantic m) v h e = absurd (omega arith)
  leaf_named (named i) v h e = rw e
  leaf_named (bits_inline ns) v h e = absurd (omega arith)
  leaf_named (qualified n) v h e = absurd (omega arith)

-- where a reading ended
pub ends : {A : Type 0} {o : Outcome A} {a : A} {n r : ℕ} → r ≡ place_of (next o) → o ≡ done a n → r ≡ n
ends e f = e ∙ ap (λ o. place_of (next o)) f

module _ (sort : Sort) (names : ℕ) (finds : List ℕ) (row : ℕ) (s : List ℕ) (at levels : ℕ) (m : List ℕ) where
  abbrev Walked : (before after : List ℕ) → (levels at next : ℕ) → Type 0
  Walked x y l p n = TreeMarked sort names l finds row s p x y n

  abbrev Shape : Head → Type 0
  Shape h = shape (read (head_at sort names) s at) ≡ h

  abbrev Slots : Tree → List ℕ
  Slots t = tree_slots sort finds t

  abbrev Child : ℕ → Tree → ℕ → Type 0
  Child n t end = read (tree_at sort names (levels - 1)) s n ≡ done t end

  abbrev After : (at next : ℕ) → Type 0
  After p n = n ≡ place_of (next (read (tree_at sort names (levels - 1)) s p))

  pub walk_deep : levels ≡ 0 → (m' : List ℕ) (n : ℕ) → Walked m m' levels at n
  walk_deep z m' n t end e = absurd (no_tree sort names s at levels z t end e)

  module _ (h : levels ≡ 0 → ⊥) where
    pub walk_leaf_lem : (k g v n : ℕ) (m' : List ℕ) → Shape (Head.Leaf k g v n)
        → ((fs : List ℕ) (l : Leaf) → leaf_kind l ≡ k → leaf_number l ≡ v → Led m row (tree_slots sort fs (leaf l)) m') → Walked m m' levels at n
    walk_leaf_lem k g v n m' x f t end e =
        let p = parts sort names s at levels h _ x t end e in
        (led_as row (ap (tree_slots sort finds) (sym p.1)) (f finds p.0 p.2 p.4), p.5)

    one : (k n : ℕ) → Shape (Head.One k n) → (b : Bool) → b ≡ enters sort k → (r : ℕ) (m' : List ℕ)
        → ((u : Tree) (end : ℕ) → Child n u end → Led m row (cond b (Slots u) []) m' × (r ≡ end)) → Walked m m' levels at r
    one k n x b g r m' f t end e =
        let p = parts sort names s at levels h _ x t end e in
        let q = f p.1 end p.4 in
        (led_as row (wrap_slots finds sort p.2 p.3 g) q.0, q.1)

    pub walk_one : (k n r : ℕ) (m' : List ℕ) → Shape (Head.One k n) → true ≡ enters sort k → Walked m m' (levels - 1) n r → Walked m m' levels at r
    walk_one k n r m' x g i = one k n x true g r m' i

    pub walk_past_one : (k n r : ℕ) → Shape (Head.One k n) → false ≡ enters sort k → After n r → Walked m m levels at r
    walk_past_one k n r x g a = one k n x false g r m (λ u end e. (led_none row refl, ends a e))

    two : (k n : ℕ) → Shape (Head.Two k n) → (b : Bool) → b ≡ enters sort k → (r : ℕ) (m' : List ℕ)
        → ((u v : Tree) (a end : ℕ) → Child n u a → Child a v end → Led m row (cond b (Slots u ++ Slots v) []) m' × (r ≡ end)) → Walked m m' levels at r
    two k n x b g r m' f t end e =
        let p = parts sort names s at levels h _ x t end e in
        let q = f p.1 p.2 p.3 end p.6 p.7 in
        (led_as row (pair_slots finds sort p.4 p.5 g) q.0, q.1)

    pub walk_two : (k n a r : ℕ) (m₁ m₂ : List ℕ) → Shape (Head.Two k n) → true ≡ enters sort k
        → Walked m m₁ (levels - 1) n a → Walked m₁ m₂ (levels - 1) a r → Walked m m₂ levels at r
    walk_two k n a r m₁ m₂ x g i j =
        two k n x true g r m₂
        (λ u v p end d e.
        let q = i u p d in
        let w = j v end (ap (read (tree_at sort names (levels - 1)) s) q.1 ∙ e) in
        (led_more row (Slots u) (Slots v) q.0 w.0, w.1))

    pub walk_past_two : (k n a r : ℕ) → Shape (Head.Two k n) → false ≡ enters sort k → After n a → After a r → Walked m m levels at r
    walk_past_two k n a r x g f f' =
        two k n x false g r m
        (λ u v p end d e. (led_none row refl, ends f' (ap (read (tree_at sort names (levels - 1)) s) (ends f d) ∙ e)))

    pub walk_sized : (n a r : ℕ) (m' : List ℕ) → Shape (Head.Sized n) → Walked m m' (levels - 1) n a → r ≡ place_of (next (below (2 ^ 64) s a)) → Walked m m' levels at r
    walk_sized n a r m' x i f t end e =
        let p = parts sort names s at levels h _ x t end e in
        let q = i p.0 p.1 p.4 in
        (led_as row (sized_slots finds sort p.3) q.0, ends f (ap (below (2 ^ 64) s) q.1 ∙ p.5))

    pub walk_generic : (v n r : ℕ) (m₁ m₂ : List ℕ) → Shape (Head.Generic v n) → Led m row (name_slots sort finds v) m₁ → Walked m₁ m₂ (levels - 1) n r → Walked m m₂ levels at r
    walk_generic v n r m₁ m₂ x w i t end e =
        let p = parts sort names s at levels h _ x t end e in
        let q = i p.0 end p.2 in
        (led_as row (generic_slots_lem finds sort p.1) (led_more row (name_slots sort finds v) (Slots p.0) w q.0), q.1)

    pub walk_refused : (r q n : ℕ) (m' : List ℕ) → Shape (Head.Refused r q) → Walked m m' levels at n
    walk_refused r q n m' x t end e = absurd (parts sort names s at levels h _ x t end e)
