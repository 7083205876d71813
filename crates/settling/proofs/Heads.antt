-- A type by its head: its kind and number, and its children, each a type again. Assumes nothing.
use Prim.Native.Nat.{ℕ, zero, suc}
use mathlib.Core.Path.{◌≡◌, refl, sym, ap, ◌∙◌}
use mathlib.Core.List.{List}
use native.Mathlib.Omega.{arith}
use Rattle.number.specs.Grammar.{Grammar, ◌>>=◌, nested, too_deep, Outcome, done, refused, and_then, below, read}
use Rattle.number.proofs.Reading.{read_done, read_bind, then_on, then_done}
use Rattle.tree.specs.Tree.{Tree, Wrap, wrap_kind, optional, array, set_of, vec2, vec3, vec4, quat, mat3, mat4}
use Rattle.tree.specs.TreeAt.{Node, none, one, two, sized, applied, head_at, fill, tree_at, shape}
use Rattle.tree.specs.declared.Sort.TheVariants.{Resolved}
use Rattle.tree.specs.declared.Head.{Head}
use Rattle.tree.proofs.Shapes.{Parts, parts}
use Rattle.slot.specs.Field.{type_at}
use Rattle.sizes.specs.declared.Operation.{Operation}
use Rattle.sizes.specs.declared.Worked.TheVariants.{Over}
use Rattle.sizes.specs.Elements.{count_of}
use Rattle.sizes.specs.Sizes.{then, wrap_size}
use Rattle.measures.proofs.ByKind.{kind_of, number_of}
use Rattle.settling.specs.Steps.{kind_in, number_in}

pub wrap_over : (w : Wrap) → (wrap_kind w ≡ 5 → ⊥) → (wrap_kind w ≡ 7 → ⊥) → (o : Operation) → Over o ≡ wrap_size (count_of w) (Over o)
unfolding wrap_size then
wrap_over optional a b o = refl
wrap_over array a b o = absurd (a refl)
wrap_over set_of a b o = absurd (b refl)
wrap_over vec2 a b o = refl
wrap_over vec3 a b o = refl
wrap_over vec4 a b o = refl
wrap_over quat a b o = refl
wrap_over mat3 a b o = refl
wrap_over mat4 a b o = refl

-- ## A tree that was read whole is read the same where more levels are left

abbrev Same : (child child' : Grammar Tree) → List ℕ → Type 0
Same child child' s = (n : ℕ) (t : Tree) (e : ℕ) → read child s n ≡ done t e → read child' s n ≡ done t e

bound : {A B : Type 0} (g : Grammar A) (f : A → Grammar B) (s : List ℕ) (at : ℕ) {a : A} {n : ℕ} {o : Outcome B}
    → read g s at ≡ done a n → read (f a) s n ≡ o → read (◌>>=◌ g f) s at ≡ o
bound g f s at e h = read_bind g f s at ∙ then_on (read g s at) _ e ∙ h

fill_deeper : (child child' : Grammar Tree) (s : List ℕ) → Same child child' s → (node : Node) (n : ℕ) (t : Tree) (e : ℕ)
    → read (fill child node) s n ≡ done t e → read (fill child' node) s n ≡ done t e
unfolding fill
fill_deeper child child' s same (none l) n t e q = q
fill_deeper child child' s same (one w) n t e q =
    let a = read_done child _ s n t e q in bound child' _ s n (same _ _ _ a.here) a.rest
fill_deeper child child' s same (two p) n t e q =
    let a = read_done child _ s n t e q in
    let b = read_done child _ s a.middle t e a.rest in
    bound child' _ s n (same _ _ _ a.here) (bound child' _ s a.middle (same _ _ _ b.here) b.rest)
fill_deeper child child' s same sized n t e q =
    let a = read_done child _ s n t e q in bound child' _ s n (same _ _ _ a.here) a.rest
fill_deeper child child' s same (applied v) n t e q =
    let a = read_done child _ s n t e q in bound child' _ s n (same _ _ _ a.here) a.rest

no_level : (kinds : ℕ) (s : List ℕ) (at : ℕ) (t : Tree) (e : ℕ) → read (too_deep {A = Tree} kinds) s at ≡ done t e → ⊥
unfolding too_deep read ◌>>=◌ and_then
no_level kinds s at t e q = go (below kinds s at) q
  where
    go : (m : Outcome ℕ) → and_then {B = Tree} m (λ v n. refused 5 at) ≡ done t e → ⊥
    go (done v n) f = let z : ◌≡◌ {A = ℕ} 0 1 = cc in omega arith
    go (refused r p) f = let z : ◌≡◌ {A = ℕ} 0 1 = cc in omega arith

pub level : (names : ℕ) (s : List ℕ) (l n : ℕ)
    → read (tree_at Resolved names (suc l)) s n ≡ and_then (read (head_at Resolved names) s n) (λ node m. read (fill (tree_at Resolved names l) node) s m)
unfolding tree_at nested
level names s l n = read_bind (head_at Resolved names) _ s n

pub deeper : (names : ℕ) (s : List ℕ) (levels : ℕ) → Same (tree_at Resolved names levels) (tree_at Resolved names (suc levels)) s
unfolding tree_at nested
deeper names s zero n t e q = absurd (no_level _ s n t e q)
deeper names s (suc l) n t e q =
    let a = then_done (read (head_at Resolved names) s n) _ (sym (level names s l n) ∙ q) in
    level names s (suc l) n
    ∙ then_on (read (head_at Resolved names) s n) _ a.2
    ∙ fill_deeper (tree_at Resolved names l) (tree_at Resolved names (suc l)) s (deeper names s l) a.0 a.1 t e a.3

-- the children of a type are types
types : (names : ℕ) (s : List ℕ) (x : Head) (t : Tree) (end : ℕ) → Parts (tree_at Resolved names 31) s x t end → Parts (type_at names) s x t end
types names s (Head.Leaf k g v n) t end p = p
types names s (Head.One k n) t end (w, u, e, f, r) = (w, u, e, f, deeper names s 31 _ _ _ r)
types names s (Head.Generic v n) t end (u, e, r) = (u, e, deeper names s 31 _ _ _ r)
types names s (Head.Two k n) t end (p, u, v, m, e, f, r, q) = (p, u, v, m, e, f, deeper names s 31 _ _ _ r, deeper names s 31 _ _ _ q)
types names s (Head.Sized n) t end (u, m, size, e, r, q) = (u, m, size, e, deeper names s 31 _ _ _ r, q)
types names s (Head.Refused r p) t end x = x

module _ (names : ℕ) (s : List ℕ) (at : ℕ) where
  pub type_parts_lem : (x : Head) → shape (read (head_at Resolved names) s at) ≡ x → (t : Tree) (end : ℕ) → read (type_at names) s at ≡ done t end
      → Parts (type_at names) s x t end
  type_parts_lem x e t end q = types names s x t end (parts Resolved names s at 32 (λ z. omega arith) x e t end q)

  pub type_kind : (x : Head) → x ≡ shape (read (head_at Resolved names) s at) → (t : Tree) (end : ℕ) → read (type_at names) s at ≡ done t end
      → (kind_of t ≡ kind_in x) × (number_of t ≡ number_in x)
  type_kind x e t end q = go x (type_parts_lem x (sym e) t end q)
    where
      go : (y : Head) → Parts (type_at names) s y t end → (kind_of t ≡ kind_in y) × (number_of t ≡ number_in y)
      go (Head.Leaf k g v n) (l, f, a, b, c, d) = (ap kind_of f ∙ a, ap number_of f ∙ c)
      go (Head.One k n) (w, u, f, a, r) = (ap kind_of f ∙ a, ap number_of f)
      go (Head.Generic v n) (u, f, r) = (ap kind_of f, ap number_of f)
      go (Head.Two k n) (p, u, v, m, f, a, r, r') = (ap kind_of f ∙ a, ap number_of f)
      go (Head.Sized n) (u, m, size, f, r, r') = (ap kind_of f, ap number_of f)
      go (Head.Refused r p) z = absurd z
