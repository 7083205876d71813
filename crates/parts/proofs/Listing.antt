-- Names listed by the shape of a head, and one thing after another. Assumes nothing.
use Prim.Native.Nat.{ℕ, suc, ◌+◌, ◌*◌, ◌-◌, ◌^◌, ◌<◌, ◌≤◌}
use mathlib.Core.Path.{◌≡◌, refl, sym, ap, ap₂, ◌∙◌}
use mathlib.Core.List.{List, [], ◌∷◌, ◌++◌}
use native.Mathlib.Omega.{arith}
use mathlib.Core.Bool.{Bool}
use mathlib.Core.Logic.{by_cases}
use native.Mathlib.Decide.{ℕ_discrete}
use lib.Dec.{eqb}
use lib.ListN.{set, length}
use borrow.Author.Tests.{eq-eqb, ne_eqb, lt-ltb, le-ltb}
use Rattle.number.specs.Grammar.{Grammar, ◌>>=◌, many, counted, too_deep, done, refused, below, read}
use Rattle.number.specs.Answers.{next, follow}
use Rattle.number.specs.declared.Next.{Next}
use Rattle.number.proofs.Reading.{then_done, given, not_done, next_at, front, counted_on, counted_refused}
use Rattle.tree.specs.Tree.{Tree}
use Rattle.tree.specs.TreeAt.{kinds_of, head_at, shape}
use Rattle.tree.specs.Encoding.{encoding_at}
use Rattle.tree.specs.declared.Sort.TheVariants.{Resolved}
use Rattle.tree.specs.declared.Head.{Head}
use Rattle.tree.proofs.Shapes.{tree_deep, parts}
use Rattle.slot.specs.Field.{type_at, limit_at, Field, field_at, fields_at}
use Rattle.slot.specs.Slot.{Slot, empty, message, enum, flags, union, newtype, config, alias, trait, impl, slot_kind, Message, message_at, Union, union_at, newtype_at, slot_body_at}
use Rattle.slot.proofs.Whole.{made_of}
use Rattle.slot.specs.declared.Edition.{Edition}
use Rattle.view.specs.Take.{place_of}
use Rattle.view.proofs.Places.{inner_stands, type_stands}
use Rattle.view.proofs.Taking.{placed}
use Rattle.view.proofs.Fetching.{Behind, body_at}
use Rattle.parts.specs.Names.{all_of, leaf_names, type_names, field_names, variant_names, slot_names, is_message}
use Rattle.parts.specs.Lists.{Filled, filled, push, push_all, levels_at, Lists, ListsSlot}

-- ## The table

pub push_in : (v : ℕ) (l : List ℕ) (u : ℕ) → u < length l → filled (set l u v) (u + 1) ≡ push v (filled l u)
unfolding push
push_in v l u h = simp (lt-ltb u (length l) h)

pub push_out : (v : ℕ) (l : List ℕ) (u : ℕ) → length l ≤ u → filled l u ≡ push v (filled l u)
unfolding push
push_out v l u h = simp (le-ltb u (length l) h)

push_append : (k l : List ℕ) (t : Filled) → push_all l (push_all k t) ≡ push_all (k ++ l) t
unfolding push_all
push_append [] l t = refl
push_append (x ∷ k) l t = push_append k l (push x t)

module _ (kind number top : ℕ) (t : Filled) where
  pub leaf_in : kind ≡ 3 → number < 512 → push (number * 2 + top) t ≡ push_all (leaf_names kind number top) t
  unfolding leaf_names push_all
  leaf_in a b = simp (eq-eqb kind 3 a, lt-ltb number 512 b)

  pub leaf_out : (kind ≡ 3 → 512 ≤ number) → t ≡ push_all (leaf_names kind number top) t
  unfolding leaf_names push_all
  leaf_out a = by_cases (ℕ_discrete kind 3) (λ e. simp (eq-eqb kind 3 e, le-ltb number 512 (a e))) (λ e. simp (ne_eqb kind 3 e))

-- ## A type

module _ (names : ℕ) (s : List ℕ) (at levels top : ℕ) (x : Filled) where
  abbrev Listed : Filled → ℕ → Type 0
  Listed y n = Lists (levels_at names levels) (type_names top) s at x y n

  -- a child, one level down
  abbrev Below : (at : ℕ) → (before after : Filled) → (next : ℕ) → Type 0
  Below n y z r = Lists (levels_at names (levels - 1)) (type_names 0) s n y z r

  pub list_deep : levels ≡ 0 → (y : Filled) (n : ℕ) → Listed y n
  unfolding too_deep read ◌>>=◌
  list_deep z y n =
      record {
        listed = λ t end e.
            let w : next (read (too_deep {A = Tree} (kinds_of Resolved)) s at) ≡ Next.At end = sym (tree_deep Resolved names s at levels z) ∙ ap next e in
            let a = next_at (read (too_deep {A = Tree} (kinds_of Resolved)) s at) w in
            absurd (none (then_done (below 17 s at) _ a.1).3);
      }
    where
      none : {r p : ℕ} {t : Tree} {n : ℕ} → refused r p ≡ done t n → ⊥
      none e = let z : ◌≡◌ {A = ℕ} 0 1 = cc in omega arith

  module _ (h : levels ≡ 0 → ⊥) where
    abbrev Shape : Head → Type 0
    Shape y = shape (read (head_at Resolved names) s at) ≡ y

    pub list_leaf : (k g v n : ℕ) (y : Filled) → Shape (Head.Leaf k g v n) → y ≡ push_all (leaf_names k v top) x → Listed y n
    unfolding type_names
    list_leaf k g v n y q w =
        record {
          listed = λ t end e.
              let p = parts Resolved names s at levels h _ q t end e in
              (w ∙ sym (ap (λ (z : Tree). push_all (type_names top z) x) p.1 ∙ ap₂ (λ (a b : ℕ). push_all (leaf_names a b top) x) p.2 p.4), p.5);
        }

    pub list_one : (k n r : ℕ) (y : Filled) → Shape (Head.One k n) → Below n x y r → Listed y r
    unfolding type_names
    list_one k n r y q i =
        record {
          listed = λ t end e.
              let p = parts Resolved names s at levels h _ q t end e in
              let w = i.listed p.1 end p.4 in
              (w.0 ∙ sym (ap (λ (z : Tree). push_all (type_names top z) x) p.2), w.1);
        }

    pub list_generic : (v n r : ℕ) (y : Filled) → Shape (Head.Generic v n) → Below n x y r → Listed y r
    unfolding type_names
    list_generic v n r y q i =
        record {
          listed = λ t end e.
              let p = parts Resolved names s at levels h _ q t end e in
              let w = i.listed p.0 end p.2 in
              (w.0 ∙ sym (ap (λ (z : Tree). push_all (type_names top z) x) p.1), w.1);
        }

    pub list_two : (k n a r : ℕ) (y z : Filled) → Shape (Head.Two k n) → Below n x y a → Below a y z r → Listed z r
    unfolding type_names
    list_two k n a r y z q i j =
        record {
          listed = λ t end e.
              let p = parts Resolved names s at levels h _ q t end e in
              let v = i.listed p.1 p.3 p.6 in
              let w = j.listed p.2 end (ap (read (levels_at names (levels - 1)) s) v.1 ∙ p.7) in (
                w.0
                    ∙ ap (push_all (type_names 0 p.2)) v.0
                    ∙ push_append (type_names 0 p.1) (type_names 0 p.2) x
                    ∙ sym (ap (λ (u : Tree). push_all (type_names top u) x) p.4),
                w.1,
              );
        }

    sized_listed : (n a : ℕ) (y : Filled) → Shape (Head.Sized n) → Below n x y a → (t : Tree) (end : ℕ) → read (levels_at names levels) s at ≡ done t end
        → (y ≡ push_all (type_names top t) x) × (size : ℕ) × (below (2 ^ 64) s a ≡ done size end)
    unfolding type_names
    sized_listed n a y q i t end e =
        let p = parts Resolved names s at levels h _ q t end e in
        let w = i.listed p.0 p.1 p.4 in
        (w.0 ∙ sym (ap (λ (u : Tree). push_all (type_names top u) x) p.3), p.2, ap (below (2 ^ 64) s) w.1 ∙ p.5)

    pub list_sized : (n a r : ℕ) (l : Next) (y : Filled) → Shape (Head.Sized n) → Below n x y a → l ≡ next (below (2 ^ 64) s a) → r ≡ place_of l → Listed y r
    list_sized n a r l y q i f g =
        record { listed = λ t end e. let w = sized_listed n a y q i t end e in (w.0, placed g (f ∙ ap next w.2)) }

    pub list_refused : (r q n : ℕ) (y : Filled) → Shape (Head.Refused r q) → Listed y n
    list_refused r q n y w = record { listed = λ t end e. absurd (parts Resolved names s at levels h _ w t end e) }

-- ## A field

module _ (names : ℕ) (s : List ℕ) (at : ℕ) where
  -- a field's type stands at p, and the limit behind it
  abbrev pub TypeAt : (p : ℕ) → Type 0
  TypeAt p = (ed : Edition) (x : Field) (end : ℕ) → read (field_at ed names) s at ≡ done x end
      → (n : ℕ) × (read (type_at names) s p ≡ done x.type n) × (read (limit_at ed) s n ≡ done x.limit end)

  module _ (a b : Next) (p : a ≡ next (below names s at)) (q : b ≡ follow a (λ n. next (read (encoding_at 32) s n))) where
    pub type_at_lem : (k : ℕ) → k ≡ place_of b → TypeAt k
    type_at_lem k e ed x end r =
        let w = type_stands s ed names at x end r a b p q in
        (w.2, ap (read (type_at names) s) (placed e w.1) ∙ w.3, w.4)

  -- a field, from where its type stands, and the limit behind it
  pub list_field : (ed : Edition) (top p n : ℕ) (x y : Filled) → TypeAt p → Lists (levels_at names 32) (type_names top) s p x y n
      → (l : Next) (m : ℕ) → l ≡ follow (Next.At n) (λ k. next (read (limit_at ed) s k)) → m ≡ place_of l → Lists (field_at ed names) (field_names top) s at x y m
  unfolding follow
  list_field ed top p n x y w i l m f g =
      record {
        listed = λ z end e.
            let t = w ed z end e in
            let u = i.listed z.type t.0 t.1 in
            (u.0, placed g (f ∙ ap (λ (k : ℕ). next (read (limit_at ed) s k)) u.1 ∙ ap next t.2));
      }

-- ## One thing after another

-- so many of `count` things are listed, and the others still to come at p: together they are the whole run
pub record Run {A : Type 0} (g : Grammar A) (f : A → List ℕ) (s : List ℕ) (count at : ℕ) (x : Filled) (passed p : ℕ) (y : Filled) : Type 0 where
  pub whole : (xs : List A) (end : ℕ) → read (many count g) s at ≡ done xs end
      → (ys : List A) × (read (many (count - passed) g) s p ≡ done ys end) × (push_all (all_of f ys) y ≡ push_all (all_of f xs) x)

module _ {A : Type 0} (g : Grammar A) (f : A → List ℕ) (s : List ℕ) where
  module _ (count at : ℕ) (x : Filled) where
    pub run_start : Run g f s count at x 0 at x
    run_start = let d : count - 0 ≡ count = omega arith in record { whole = λ xs end e. (xs, rw d e, refl) }

    pub run_on : (passed p n : ℕ) (y z : Filled) → passed < count → Lists g f s p y z n → Run g f s count at x passed p y → Run g f s count at x (passed + 1) n z
    unfolding all_of
    run_on passed p n y z h i l =
        record {
          whole = λ xs end e.
              let d : count - passed ≡ suc (count - (passed + 1)) = omega arith in
              let a = l.whole xs end e in
              let w = front g s (count - (passed + 1)) p a.0 end (rw d at a.1) in
              let q = i.listed w.first w.middle w.here in (
                w.others,
                ap (read (many (count - (passed + 1)) g) s) q.1 ∙ w.rest,
                ap (push_all (all_of f w.others)) q.0
                    ∙ push_append (f w.first) (all_of f w.others) y
                    ∙ sym (ap (λ (u : List A). push_all (all_of f u) y) w.whole)
                    ∙ a.2,
              );
        }

    pub run_end : (passed p : ℕ) (y : Filled) → count ≤ passed → Run g f s count at x passed p y → Lists (many count g) (all_of f) s at x y p
    unfolding many read all_of push_all
    run_end passed p y h l =
        record {
          listed = λ xs end e.
              let d : count - passed ≡ 0 = omega arith in
              let a = l.whole xs end e in
              let k = given (rw d at a.1) in
              (ap (λ (u : List A). push_all (all_of f u) y) k.0 ∙ a.2, k.1);
        }

  -- behind their count
  module _ (at : ℕ) (x y : Filled) (r : ℕ) where
    pub counted_list : (c n : ℕ) → below 65537 s at ≡ done c n → Lists (many c g) (all_of f) s n x y r → Lists (counted g) (all_of f) s at x y r
    counted_list c n e i = record { listed = λ xs end q. i.listed xs end (sym (counted_on g s at c n e) ∙ q) }

    pub counted_not : (q p : ℕ) → below 65537 s at ≡ refused q p → Lists (counted g) (all_of f) s at x y r
    counted_not q p e = record { listed = λ xs end k. absurd (not_done (counted_refused g s at q p e) k) }

-- ## A slot

module _ (ed : Edition) (names : ℕ) (s : List ℕ) (x : Slot) (kind body : ℕ) (b : Behind ed names s x kind body) (t : Filled) where
  pub list_message : kind ≡ 1 → (p n : ℕ) (y : Filled)
      → ((ed : Edition) (names : ℕ) (m : Message) (end : ℕ) → read (message_at ed names) s body ≡ done m end → read (fields_at ed names) s p ≡ done m.fields end)
      → Lists (fields_at ed names) (all_of (field_names 1)) s p t y n → ListsSlot x t y Bool.true
  unfolding slot_body_at slot_names
  list_message e p n y w i =
      let m = made_of s message (message_at ed names) body x b.end (body_at b 1 e) in
      record {
        listed = (i.listed m.held.fields b.end (w ed names m.held b.end m.reads)).0 ∙ sym (ap (λ (z : Slot). push_all (slot_names z) t) m.slot_is);
        marked = sym (ap is_message m.slot_is);
      }

  pub list_union : kind ≡ 4 → (p n : ℕ) (y : Filled)
      → ((ed : Edition) (names : ℕ) (u : Union) (end : ℕ) → read (union_at ed names) s body ≡ done u end → read (counted (fields_at ed names)) s p ≡ done u.variants end)
      → Lists (counted (fields_at ed names)) (all_of variant_names) s p t y n → ListsSlot x t y Bool.false
  unfolding slot_body_at slot_names
  list_union e p n y w i =
      let m = made_of s union (union_at ed names) body x b.end (body_at b 4 e) in
      record {
        listed = (i.listed m.held.variants b.end (w ed names m.held b.end m.reads)).0 ∙ sym (ap (λ (z : Slot). push_all (slot_names z) t) m.slot_is);
        marked = sym (ap is_message m.slot_is);
      }

  pub list_newtype : kind ≡ 5 → (n : ℕ) (y : Filled) → Lists (levels_at names 32) (type_names 1) s body t y n → ListsSlot x t y Bool.false
  unfolding slot_body_at slot_names
  list_newtype e n y i =
      let m = made_of s newtype (newtype_at names) body x b.end (body_at b 5 e) in
      let k = inner_stands s names body m.held b.end m.reads in
      record {
        listed = (i.listed m.held.inner k.0 k.1).0 ∙ sym (ap (λ (z : Slot). push_all (slot_names z) t) m.slot_is);
        marked = sym (ap is_message m.slot_is);
      }

  no_names : (z : Slot) → slot_kind z ≡ kind → (kind ≡ 1 → ⊥) → (kind ≡ 4 → ⊥) → (kind ≡ 5 → ⊥) → ListsSlot z t t Bool.false
  unfolding slot_names push_all
  no_names empty e h i j = record { listed = refl; marked = refl }
  no_names (message m) e h i j = absurd (h (sym e))
  no_names (enum m) e h i j = record { listed = refl; marked = refl }
  no_names (flags m) e h i j = record { listed = refl; marked = refl }
  no_names (union m) e h i j = absurd (i (sym e))
  no_names (newtype m) e h i j = absurd (j (sym e))
  no_names config e h i j = record { listed = refl; marked = refl }
  no_names (alias m) e h i j = record { listed = refl; marked = refl }
  no_names (trait m) e h i j = record { listed = refl; marked = refl }
  no_names (impl m) e h i j = record { listed = refl; marked = refl }

  pub list_other : (kind ≡ 1 → ⊥) → (kind ≡ 4 → ⊥) → (kind ≡ 5 → ⊥) → ListsSlot x t t (eqb kind 1)
  list_other h i j = rw (ne_eqb kind 1 h) (no_names x b.kind_is h i j)
