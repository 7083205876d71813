-- Sizes, runs of names and leaves, compared by their numbers. Assumes nothing.
use Prim.Native.Nat.{ℕ, suc, ◌+◌, ◌-◌, ◌≤◌, ◌<◌}
use mathlib.Core.Path.{◌≡◌, refl, sym, ap, ap₂, ◌∙◌}
use mathlib.Core.List.{List, [], ◌∷◌}
use mathlib.Core.Bool.{Bool, true, false, cond}
use native.Mathlib.Omega.{arith}
use lib.ListN.{length, get_or}
use lib.Dec.{eqb}
use borrow.Author.Tests.{eq-eqb, ne_eqb, eqb-true}
use Rattle.number.specs.Grammar.{name, number, many, Outcome, done, refused, below, read}
use Rattle.number.proofs.Reading.{given, not_done, read_number, front}
use Rattle.tree.specs.Tree.{Leaf, primitive, sub_byte, semantic, named, bits_inline, qualified, leaf_kind, leaf_flag, leaf_number}
use Rattle.tree.specs.TreeAt.{none, head_at}
use Rattle.tree.specs.declared.Sort.{Sort}
use Rattle.tree.specs.declared.Sort.TheVariants.{Resolved}
use Rattle.findings.specs.Compatible.{same_names}
use Rattle.matching.specs.Steps.{agree, differ, leaf_node, NamesStart, SameNames, SameLeaf}
use Rattle.matching.specs.declared.Matched.{Matched}
use Rattle.matching.specs.declared.Node.{Node}

-- two readings of one place
same_value : {A : Type 0} {o : Outcome A} {a b : A} {m n : ℕ} → o ≡ done a m → o ≡ done b n → a ≡ b
same_value e f = (given (sym e ∙ f)).0

same_end : {A : Type 0} {o : Outcome A} {a b : A} {m n : ℕ} → o ≡ done a m → o ≡ done b n → m ≡ n
same_end e f = (given (sym e ∙ f)).1

-- two runs of names
same_front : {xs ys : List ℕ} {x y : ℕ} {us vs : List ℕ} → xs ≡ x ∷ us → ys ≡ y ∷ vs → same_names xs ys ≡ cond (eqb x y) (same_names us vs) false
unfolding same_names
same_front e f = rw (e, f)

module _ (names : ℕ) (s : List ℕ) (a b count : ℕ) where
  -- behind `i` of both runs, what is left was read, and is the same exactly if all is
  abbrev pub Left : (i p q : ℕ) → Type 0
  Left i p q =
      (xs : List ℕ) (m : ℕ) → read (many count (number name names)) s a ≡ done xs m
      → (ys : List ℕ) (n : ℕ) → read (many count (number name names)) s b ≡ done ys n
      → (us : List ℕ) × (vs : List ℕ) × (read (many (count - i) (number name names)) s p ≡ done us m)
      × (read (many (count - i) (number name names)) s q ≡ done vs n) × (same_names xs ys ≡ same_names us vs)

  pub names_start : Left 0 a b
  names_start xs m e ys n f = let d : count - 0 ≡ count = omega arith in (xs, ys, rw d e, rw d f, refl)

  pub names_end : (i p q : ℕ) → count ≤ i → Left i p q → SameNames names s a b count true
  unfolding many read same_names
  names_end i p q h l xs m e ys n f =
      let d : count - i ≡ 0 = omega arith in
      let j = l xs m e ys n f in
      sym (j.4 ∙ ap₂ same_names (sym (given (rw d at j.2)).0) (sym (given (rw d at j.3)).0))

  -- a name in front of both
  record Fronts (i p q : ℕ) (xs : List ℕ) (m : ℕ) (ys : List ℕ) (n : ℕ) : Type 0 where
    x : ℕ
    y : ℕ
    us : List ℕ
    vs : List ℕ
    x_end : ℕ
    y_end : ℕ
    x_read : below names s p ≡ done x x_end
    y_read : below names s q ≡ done y y_end
    us_read : read (many (count - (i + 1)) (number name names)) s x_end ≡ done us m
    vs_read : read (many (count - (i + 1)) (number name names)) s y_end ≡ done vs n
    same : same_names xs ys ≡ cond (eqb x y) (same_names us vs) false

  module _ (i p q : ℕ) (h : i < count) (l : Left i p q) where
    fronts : (xs : List ℕ) (m : ℕ) → read (many count (number name names)) s a ≡ done xs m → (ys : List ℕ) (n : ℕ) → read (many count (number name names)) s b ≡ done ys n
        → Fronts i p q xs m ys n
    fronts xs m e ys n f =
        let d : count - i ≡ suc (count - (i + 1)) = omega arith in
        let j = l xs m e ys n f in
        let c = front (number name names) s (count - (i + 1)) p j.0 m (rw d at j.2) in
        let o = front (number name names) s (count - (i + 1)) q j.1 n (rw d at j.3) in
        record {
          x = c.first;
          y = o.first;
          us = c.others;
          vs = o.others;
          x_end = c.middle;
          y_end = o.middle;
          x_read = sym (read_number name names s p) ∙ c.here;
          y_read = sym (read_number name names s q) ∙ o.here;
          us_read = c.rest;
          vs_read = o.rest;
          same = j.4 ∙ same_front c.whole o.whole;
        }

    module _ (x m y n : ℕ) (g : below names s p ≡ done x m) (k : below names s q ≡ done y n) where
      pub names_on : x ≡ y → Left (i + 1) m n
      names_on z xs m₁ e ys n₁ f =
          let w = fronts xs m₁ e ys n₁ f in (
            w.us,
            w.vs,
            ap (read (many (count - (i + 1)) (number name names)) s) (same_end g w.x_read) ∙ w.us_read,
            ap (read (many (count - (i + 1)) (number name names)) s) (same_end k w.y_read) ∙ w.vs_read,
            w.same ∙ simp (eq-eqb w.x w.y (same_value w.x_read g ∙ z ∙ same_value k w.y_read)),
          )

      pub names_differ : (x ≡ y → ⊥) → SameNames names s a b count false
      names_differ z xs m₁ e ys n₁ f =
          let w = fronts xs m₁ e ys n₁ f in
          sym (w.same ∙ simp (ne_eqb w.x w.y (λ t. z (same_value g w.x_read ∙ t ∙ same_value w.y_read k))))

    pub names_first : (r z : ℕ) (o : Bool) → below names s p ≡ refused r z → SameNames names s a b count o
    names_first r z o g xs m e ys n f = absurd (not_done g (fronts xs m e ys n f).x_read)

    pub names_second : (r z : ℕ) (o : Bool) → below names s q ≡ refused r z → SameNames names s a b count o
    names_second r z o g xs m e ys n f = absurd (not_done g (fronts xs m e ys n f).y_read)

pub no_bool : {B : Type 0} → false ≡ true → B
no_bool e = let z : ◌≡◌ {A = ℕ} 0 1 = cc in absurd (omega arith)

pub names_true : (xs ys : List ℕ) → same_names xs ys ≡ true → xs ≡ ys
unfolding same_names
names_true [] [] e = refl
names_true [] (y ∷ ys) e = no_bool e
names_true (x ∷ xs) [] e = no_bool e
names_true (x ∷ xs) (y ∷ ys) e = go (λ g. names_true xs ys g) (eqb x y) refl e
  where
    go : (same_names xs ys ≡ true → xs ≡ ys) → (b : Bool) → eqb x y ≡ b → cond b (same_names xs ys) false ≡ true → x ∷ xs ≡ y ∷ ys
    go i true f g = ap₂ (λ (v : ℕ) (l : List ℕ). v ∷ l) (eqb-true x y f) (i g)
    go i false f g = no_bool g

pub names_refl : (xs : List ℕ) → same_names xs xs ≡ true
unfolding same_names
names_refl [] = refl
names_refl (x ∷ xs) = simp (eq-eqb x x refl) (names_refl xs)

-- leaves by their numbers
pub leaf_bits : (l : Leaf) → leaf_kind l ≡ 16 → (ns : List ℕ) × (l ≡ bits_inline ns)
leaf_bits (primitive p) e = absurd (omega arith)
leaf_bits (sub_byte g b) e = absurd (omega arith)
leaf_bits (semantic m) e = absurd (omega arith)
leaf_bits (named j) e = absurd (omega arith)
leaf_bits (bits_inline ns) e = (ns, refl)
leaf_bits (qualified n) e = absurd (omega arith)

unfoldable leaf_of : (kind flag number : ℕ) → Leaf
leaf_of k g v = get_or (primitive v ∷ sub_byte g v ∷ semantic v ∷ named v ∷ []) k (qualified v)

leaf_back : (l : Leaf) → (leaf_kind l ≡ 16 → ⊥) → leaf_of (leaf_kind l) (leaf_flag l) (leaf_number l) ≡ l
unfolding leaf_of
leaf_back (primitive p) h = refl
leaf_back (sub_byte g b) h = refl
leaf_back (semantic m) h = refl
leaf_back (named j) h = refl
leaf_back (bits_inline ns) h = absurd (h refl)
leaf_back (qualified n) h = refl

pub leaf_by_numbers : (l k : Leaf) → (leaf_kind l ≡ 16 → ⊥) → leaf_kind l ≡ leaf_kind k → leaf_flag l ≡ leaf_flag k → leaf_number l ≡ leaf_number k → l ≡ k
leaf_by_numbers l k h e f g = sym (leaf_back l h) ∙ numbers ∙ leaf_back k (λ x. h (e ∙ x))
  where
    numbers : leaf_of (leaf_kind l) (leaf_flag l) (leaf_number l) ≡ leaf_of (leaf_kind k) (leaf_flag k) (leaf_number k)
    numbers = rw (e, f, g)

kind_is_lem : {a b : Node} → a ≡ b → a.kind ≡ b.kind
kind_is_lem e = ap (λ (x : Node). x.kind) e

number_is : {a b : Node} → a ≡ b → a.number ≡ b.number
number_is e = ap (λ (x : Node). x.number) e

next_is : {a b : Node} → a ≡ b → a.next ≡ b.next
next_is e = ap (λ (x : Node). x.next) e

module _ (names : ℕ) (s : List ℕ) (p q : ℕ) (a b : Node) (same : a.kind ≡ b.kind) (numbers : a.number ≡ b.number) (sixteen : a.kind ≡ 16) where
  module _ (u v : ℕ) (hu : NamesStart s p u) (hv : NamesStart s q v) (r : Bool) (hr : SameNames names s u v a.number r) where
    bits_are : (l : Leaf) (m : ℕ) → read (head_at Resolved names) s p ≡ done (none l) m → a ≡ leaf_node l m
        → (sort : Sort) (k : Leaf) (n : ℕ) → read (head_at sort names) s q ≡ done (none k) n → b ≡ leaf_node k n
        → (xs : List ℕ) × (ys : List ℕ) × (l ≡ bits_inline xs) × (k ≡ bits_inline ys) × (r ≡ same_names xs ys)
    bits_are l m e x sort k n f y =
        let c = leaf_bits l (sym (kind_is_lem x) ∙ sixteen) in
        let d = leaf_bits k (sym (kind_is_lem y) ∙ sym same ∙ sixteen) in
        let i = hu Resolved names c.0 m (e ∙ ap (λ (z : Leaf). done (none z) m) c.1) in
        let j = hv sort names d.0 n (f ∙ ap (λ (z : Leaf). done (none z) n) d.1) in
        let g : a.number ≡ length c.0 = number_is x ∙ ap leaf_number c.1 in
        let t : a.number ≡ length d.0 = numbers ∙ number_is y ∙ ap leaf_number d.1 in (
          c.0,
          d.0,
          c.1,
          d.1,
          hr c.0 m (ap (λ (z : ℕ). read (many z (number name names)) s u) g ∙ i) d.0 n (ap (λ (z : ℕ). read (many z (number name names)) s v) t ∙ j),
        )

    pub bits_same : r ≡ true → SameLeaf names s p q a b (Matched.Same a.next b.next)
    bits_same w =
        record {
          kinds = λ d. absurd (d same);
          leaves = λ l m e x sort k n f y.
              let c = bits_are l m e x sort k n f y in
              agree (c.2 ∙ ap bits_inline (names_true c.0 c.1 (sym c.4 ∙ w)) ∙ sym c.3) (ap₂ Matched.Same (next_is x) (next_is y));
        }

    pub bits_differ : r ≡ false → SameLeaf names s p q a b Matched.Differs
    bits_differ w =
        record {
          kinds = λ d. refl;
          leaves = λ l m e x sort k n f y.
              let c = bits_are l m e x sort k n f y in
              differ (λ t. no_bool (sym w ∙ c.4 ∙ names_equal (inside (sym c.2 ∙ t ∙ c.3)))) refl;
        }
      where
        inside : {x y : List ℕ} → bits_inline x ≡ bits_inline y → x ≡ y
        inside e = cc

        names_equal : {x y : List ℕ} → x ≡ y → same_names x y ≡ true
        names_equal {x} {y} e = rw e (names_refl y)
