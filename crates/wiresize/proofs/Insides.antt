-- The parts of a type that are worked out, by what its head decides. Assumes nothing.
use Prim.Native.Nat.{ℕ, ◌^◌, ◌≤◌, ◌<◌}
use mathlib.Core.Path.{◌≡◌, sym, ap, ◌∙◌}
use mathlib.Core.List.{List}
use mathlib.Core.Bool.{Bool}
use native.Mathlib.Omega.{arith}
use lib.ListN.{length}
use Rattle.number.specs.Grammar.{done, below, read}
use Rattle.tree.specs.Tree.{Tree, Wrap, Pair, leaf, wrap, fixed_array, pair, named, result_of, wrap_kind, optional, array, set_of, vec2, vec3, vec4, quat, mat3, mat4}
use Rattle.tree.specs.TreeAt.{head_at, shape}
use Rattle.tree.specs.declared.Sort.TheVariants.{Resolved}
use Rattle.tree.specs.declared.Head.{Head}
use Rattle.slot.specs.Field.{type_at}
use Rattle.image.specs.declared.Frame.{Frame}
use Rattle.sizes.specs.declared.Size.{Size}
use Rattle.sizes.specs.declared.Worked.TheVariants.{Sized}
use Rattle.sizes.specs.Sizes.{Resolver, type_size}
use Rattle.view.proofs.Places.{at_place}
use Rattle.settling.specs.declared.Walked.{Walked}
use Rattle.settling.specs.Steps.{NameIn, OneIn, SidesIn, Closes}
use Rattle.wiresize.specs.Asked.{Asked, Ready}
use Rattle.settling.proofs.Heads.{type_parts_lem}
use Rattle.wiresize.proofs.Onward.{behind_head}
use Rattle.wiresize.proofs.Measure.{type_left, child_in_wrap, element_in_array}
use Rattle.settling.proofs.Typing.{below_at, leaf_named, pair_result, wrap_sized, array_sized}

pub data OneChild (names : ℕ) (s : List ℕ) (t : Tree) (end kind body : ℕ) : Type 0 where
  wrapped : (w : Wrap) (u : Tree) → t ≡ wrap w u → wrap_kind w ≡ kind → (kind ≡ 5 → ⊥) → (kind ≡ 7 → ⊥)
      → read (type_at names) s body ≡ done u end → OneChild names s t end kind body
  repeated : (u : Tree) (middle size : ℕ) → kind ≡ 6 → t ≡ fixed_array u size → read (type_at names) s body ≡ done u middle
      → below (2 ^ 64) s middle ≡ done size end → OneChild names s t end kind body

pub record Sides (names : ℕ) (s : List ℕ) (t : Tree) (end body : ℕ) : Type 0 where
  pub ok : Tree
  pub err : Tree
  pub middle : ℕ
  pub whole : t ≡ pair result_of ok err
  pub ok_read : read (type_at names) s body ≡ done ok middle
  pub err_read : read (type_at names) s middle ≡ done err end

module _ (names : ℕ) (s : List ℕ) (at : ℕ) (x : Head) (seen : x ≡ shape (read (head_at Resolved names) s at)) (t : Tree) (end : ℕ) (q : read (type_at names) s at ≡ done t end) where
  pub name_part : (i n : ℕ) → NameIn x i n → (t ≡ leaf (named i)) × (n ≡ end)
  name_part i n h = go x (sym seen) h
    where
      go : (y : Head) → shape (read (head_at Resolved names) s at) ≡ y → NameIn y i n → (t ≡ leaf (named i)) × (n ≡ end)
      go (Head.Leaf k g v m) e f =
          let p = type_parts_lem names s at (Head.Leaf k g v m) e t end q in
          (p.1 ∙ ap leaf (leaf_named p.0 p.2 f.0 (p.4 ∙ f.1)), sym f.2 ∙ p.5)
      go (Head.One k m) e f = absurd f
      go (Head.Two k m) e f = absurd f
      go (Head.Sized m) e f = absurd f
      go (Head.Generic v m) e f = absurd f
      go (Head.Refused r m) e f = absurd f

  pub one_part : (k n : ℕ) → OneIn x k n → OneChild names s t end k n × (at < n) × (n ≤ length s)
  one_part k n h = go x (sym seen) h
    where
      go : (y : Head) → shape (read (head_at Resolved names) s at) ≡ y → OneIn y k n → OneChild names s t end k n × (at < n) × (n ≤ length s)
      go (Head.Leaf j g v m) e f = absurd f
      go (Head.One j m) e f =
          let p = type_parts_lem names s at (Head.One j m) e t end q in
          let b = behind_head names s at (Head.One j m) e t end q in
          let d = f.1 in
          (wrapped p.0 p.1 p.2 (p.3 ∙ f.0) (λ z. f.2 (f.0 ∙ z)) (λ z. f.3 (f.0 ∙ z)) (at_place (type_at names) s p.4 (sym d)), omega arith, omega arith)
      go (Head.Two j m) e f = absurd f
      go (Head.Sized m) e f =
          let p = type_parts_lem names s at (Head.Sized m) e t end q in
          let b = behind_head names s at (Head.Sized m) e t end q in
          let d = f.1 in
          (repeated p.0 p.1 p.2 (sym f.0) p.3 (at_place (type_at names) s p.4 (sym d)) p.5, omega arith, omega arith)
      go (Head.Generic v m) e f = absurd f
      go (Head.Refused r m) e f = absurd f

  pub sides_part : (n : ℕ) → SidesIn x n → Sides names s t end n × (at < n) × (n ≤ length s)
  sides_part n h = go x (sym seen) h
    where
      go : (y : Head) → shape (read (head_at Resolved names) s at) ≡ y → SidesIn y n → Sides names s t end n × (at < n) × (n ≤ length s)
      go (Head.Leaf j g v m) e f = absurd f
      go (Head.One j m) e f = absurd f
      go (Head.Two j m) e f =
          let p = type_parts_lem names s at (Head.Two j m) e t end q in
          let b = behind_head names s at (Head.Two j m) e t end q in
          let d = f.0 in (
            record {
              ok = p.1;
              err = p.2;
              middle = p.3;
              whole = p.4 ∙ ap (λ (z : Pair). pair z p.1 p.2) (pair_result p.0 p.5 f.1);
              ok_read = at_place (type_at names) s p.6 (sym d);
              err_read = p.7;
            },
            omega arith,
            omega arith,
          )
      go (Head.Sized m) e f = absurd f
      go (Head.Generic v m) e f = absurd f
      go (Head.Refused r m) e f = absurd f

pub not_six : (w : Wrap) → wrap_kind w ≡ 6 → ⊥
not_six optional e = omega arith
not_six array e = omega arith
not_six set_of e = omega arith
not_six vec2 e = omega arith
not_six vec3 e = omega arith
not_six vec4 e = omega arith
not_six quat e = omega arith
not_six mat3 e = omega arith
not_six mat4 e = omega arith

module _ (s starts : List ℕ) (f : Frame) (rows : List ℕ) (w : List Bool) (ready : Ready s starts f rows w) (at : ℕ) (t : Tree) (end : ℕ)
    (q : read (type_at f.names) s at ≡ done t end) where
  -- a child may be worked out, and less is left to do there
  pub child_asked : (k n : ℕ) → OneChild f.names s t end k n × (at < n) × (n ≤ length s)
      → (type_left s f n w < type_left s f at w) × Asked (type_at f.names) s starts f rows w n
  child_asked k n (wrapped x u e a b c r, h, l) = (
    child_in_wrap s starts f rows w ready at n t u end end q r h l x e (λ z. b (sym a ∙ z)) (λ z. c (sym a ∙ z)),
    record { ready = ready; thing = u; end = end; reads = r },
  )
  child_asked k n (repeated u m size a e r z, h, l) = (
    element_in_array s starts f rows w ready at n t u end m q r h l size e,
    record { ready = ready; thing = u; end = m; reads = r },
  )

module _ (names : ℕ) (s : List ℕ) (t : Tree) (end k n : ℕ) (child r : Walked) (c : Closes s k child r)
    (next : (u : Tree) (e : ℕ) → read (type_at names) s n ≡ done u e → (z : Size) → child.worked ≡ Sized z → child.next ≡ e) where
  pub one_next : OneChild names s t end k n → (z : Size) → r.worked ≡ Sized z → r.next ≡ end
  one_next (wrapped x u e a b d q) z h =
      let m = c.wrap (λ y. not_six x (a ∙ y)) x a b d in m.next ∙ next u end q _ (m.sized z h).1
  one_next (repeated u m size a e q l) z h =
      let y = (c.array a).sized z h in (c.array a).next size end (below_at (2 ^ 64) s (next u m q _ y.1) l) z h

  pub one_worked : OneChild names s t end k n → (R : Resolver) → ((u : Tree) (e : ℕ) → read (type_at names) s n ≡ done u e → child.worked ≡ type_size R u)
      → r.worked ≡ type_size R t
  one_worked (wrapped x u e a b d q) R h = let m = c.wrap (λ y. not_six x (a ∙ y)) x a b d in wrap_sized R e m.worked (h u end q)
  one_worked (repeated u m size a e q l) R h =
      array_sized R e ((c.array a).worked size end (λ y g. below_at (2 ^ 64) s (next u m q y g) l)) (h u m q)
