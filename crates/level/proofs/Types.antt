-- How many nodes a type is by its head, and that each has a byte of its own. Assumes nothing.
use Prim.Native.Nat.{ℕ, suc, ◌+◌, ◌^◌, ◌≤◌, ◌<◌}
use mathlib.Core.Path.{◌≡◌, refl, sym, ap, ◌∙◌}
use mathlib.Core.List.{List}
use native.Mathlib.Omega.{arith}
use lib.ListN.{length}
use Rattle.number.specs.Grammar.{done, read}
use Rattle.number.proofs.Reading.{then_done}
use Rattle.number.proofs.InRange.{below_is}
use Rattle.tree.specs.Tree.{Tree, Leaf, Wrap, leaf, wrap, fixed_array, pair, named, map_of, result_of, wrap_kind, optional, array, set_of, vec2, vec3, vec4, quat, mat3, mat4}
use Rattle.tree.specs.TreeAt.{head_at, shape}
use Rattle.tree.specs.declared.Sort.TheVariants.{Resolved}
use Rattle.tree.specs.declared.Head.{Head}
use Rattle.slot.specs.Field.{type_at}
use Rattle.sizes.specs.declared.Size.{Size}
use Rattle.sizes.specs.declared.Operation.{Operation}
use Rattle.sizes.specs.declared.Operation.TheVariants.{Sum}
use Rattle.sizes.specs.declared.Worked.TheVariants.{Sized, Over}
use Rattle.sizes.specs.Elements.{Count, at_most_one, any_number, exactly, count_of}
use Rattle.sizes.specs.Sizes.{Resolver, then, leaf_size, wrap_size, type_size}
use Rattle.sizes.specs.Nodes.{wrap_nodes, type_nodes}
use Rattle.view.proofs.Onward.{goes_on}
use Rattle.view.proofs.Places.{at_place}
use Rattle.settling.specs.declared.Walked.{Walked}
use Rattle.settling.specs.Steps.{Headed, OneIn, SidesIn, AllSized, Closes, Results}
use Rattle.settling.proofs.Ended.{not_over}
use Rattle.settling.proofs.Heads.{level}
use Rattle.settling.proofs.Typing.{type_headed, result_sized, result_over}
use Rattle.wiresize.proofs.Onward.{head_forward}
use Rattle.wiresize.proofs.Insides.{OneChild, wrapped, repeated, not_six, one_part, sides_part, one_next, one_worked}
use Rattle.level.specs.declared.Leveled.{Leveled}
use Rattle.level.specs.Level.{Levels, Few}

-- a type is at least one byte
pub type_ends : (names : ℕ) (s : List ℕ) (at : ℕ) (t : Tree) (end : ℕ) → read (type_at names) s at ≡ done t end → (at < end) × (end ≤ length s)
type_ends names s at t end q =
    let a = then_done (read (head_at Resolved names) s at) _ (sym (level names s 31 at) ∙ q) in
    let p = head_forward names s at a.0 a.1 a.2 in
    let g = goes_on _ s a.1 a.3 in
    (omega (arith, p.0, g.forward), g.within p.1)

-- ## One node

-- names above the limit tell which types look at names
abbrev above : Resolver
above i = Over Sum

abbrev a_name : Tree
a_name = leaf (named 0)

wrap_sized_one : (c : Count) {z : Size} → Sized z ≡ wrap_size c (Over Sum) → (child : ℕ) → wrap_nodes c child ≡ 0
unfolding wrap_size then
wrap_sized_one at_most_one e child = absurd (not_over refl (sym e))
wrap_sized_one any_number e child = refl
wrap_sized_one (exactly k) e child = absurd (not_over refl (sym e))

-- a type whose head tells its size is one node
pub passed_one : (x : Head) (z : Size) → AllSized x z → (t : Tree) → Headed x t → type_nodes t ≡ 1
unfolding type_nodes type_size leaf_size then
passed_one (Head.Leaf k g v n) z h t (l, e, a, b) = ap type_nodes e
passed_one (Head.One k n) z h t (w, u, e, a) =
    ap type_nodes e ∙ ap suc (wrap_sized_one (count_of w) (h above (wrap w a_name) (w, a_name, refl, a)) (type_nodes u))
passed_one (Head.Two k n) z h t (map_of, u, v, e, a) = ap type_nodes e
passed_one (Head.Two k n) z h t (result_of, u, v, e, a) = absurd (not_over refl (sym (h above (pair result_of a_name a_name) (result_of, a_name, a_name, refl, a))))
passed_one (Head.Sized n) z h t (u, k, e) = absurd (not_over refl (sym (h above (fixed_array a_name k) (a_name, k, refl))))
passed_one (Head.Generic v n) z h t (u, e) = ap type_nodes e
passed_one (Head.Refused r p) z h t q = absurd q

pub named_one : {t : Tree} {l : Leaf} → t ≡ leaf l → type_nodes t ≡ 1
unfolding type_nodes
named_one e = ap type_nodes e

-- ## One child

wrap_suc : (x : Wrap) → (wrap_kind x ≡ 5 → ⊥) → (wrap_kind x ≡ 7 → ⊥) → (child : ℕ) → wrap_nodes (count_of x) child ≡ child
wrap_suc optional a b child = refl
wrap_suc array a b child = absurd (a refl)
wrap_suc set_of a b child = absurd (b refl)
wrap_suc vec2 a b child = refl
wrap_suc vec3 a b child = refl
wrap_suc vec4 a b child = refl
wrap_suc quat a b child = refl
wrap_suc mat3 a b child = refl
wrap_suc mat4 a b child = refl

module _ (names : ℕ) (s : List ℕ) (t : Tree) (end k n : ℕ) where
  pub one_sized : (child r : Walked) → Closes s k child r → OneChild names s t end k n → (z : Size) → r.worked ≡ Sized z → (y : Size) × (child.worked ≡ Sized y)
  one_sized child r c (wrapped x u e a b d q) z h = (c.wrap (λ y. not_six x (a ∙ y)) x a b d).sized z h
  one_sized child r c (repeated u m size a e q l) z h = (c.array a).sized z h

  pub one_nodes : OneChild names s t end k n → {v : ℕ} → ((u : Tree) (e : ℕ) → read (type_at names) s n ≡ done u e → v ≡ type_nodes u) → v + 1 ≡ type_nodes t
  unfolding type_nodes
  one_nodes (wrapped x u e a b d q) h =
      let f = h u end q in
      let w = wrap_suc x (λ z. b (sym a ∙ z)) (λ z. d (sym a ∙ z)) (type_nodes u) in
      let g : type_nodes t ≡ suc (wrap_nodes (count_of x) (type_nodes u)) = ap type_nodes e in
      omega arith
  one_nodes (repeated u m size a e q l) h =
      let f = h u m q in
      let g : type_nodes t ≡ suc (type_nodes u) = ap type_nodes e in
      omega arith

  pub one_few : (at : ℕ) → at < n → (v : ℕ) → Few (type_at names) s n v → OneChild names s t end k n → at + (v + 1) ≤ end
  one_few at h v few (wrapped x u e a b d q) = omega (arith, few u end q)
  one_few at h v few (repeated u m size a e q l) = omega (arith, few u m q, (below_is s m (2 ^ 64) size end l).after)

-- ## Both sides of a Result

pub sides_nodes : {t u v : Tree} → t ≡ pair result_of u v → {a b : ℕ} → a ≡ type_nodes u → b ≡ type_nodes v → a + b + 1 ≡ type_nodes t
unfolding type_nodes
sides_nodes {t} {u} {v} e f g = let h : type_nodes t ≡ suc (type_nodes u + type_nodes v) = ap type_nodes e in omega arith

-- ## What a head decides

module _ (names : ℕ) (s : List ℕ) (at : ℕ) (x : Head) (seen : x ≡ shape (read (head_at Resolved names) s at)) where
  -- one node, where the head tells the size
  pub head_few : Few (type_at names) s at 1
  head_few t end q = omega (arith, (type_ends names s at t end q).0)

  pub head_one : (z : Size) → AllSized x z → (t : Tree) (end : ℕ) → read (type_at names) s at ≡ done t end → 1 ≡ type_nodes t
  head_one z h t end q = sym (passed_one x z h t (type_headed names s at x seen t end q))

  module _ (k n : ℕ) (one : OneIn x k n) where
    -- where a child stands, and that it is one
    pub child_there : (t : Tree) (end : ℕ) → read (type_at names) s at ≡ done t end → (at < n) × (n ≤ length s) × (u : Tree) × (e : ℕ) × (read (type_at names) s n ≡ done u e)
    child_there t end q = let p = one_part names s at x seen t end q k n one in go p.0 p.1 p.2
      where
        go : OneChild names s t end k n → at < n → n ≤ length s → (at < n) × (n ≤ length s) × (u : Tree) × (e : ℕ) × (read (type_at names) s n ≡ done u e)
        go (wrapped w u e a b d r) h l = (h, l, u, end, r)
        go (repeated u m size a e r z) h l = (h, l, u, m, r)

    pub child_few : (v : ℕ) → Few (type_at names) s n v → Few (type_at names) s at (v + 1)
    child_few v few t end q = let p = one_part names s at x seen t end q k n one in one_few names s t end k n at p.1 v few p.0

    module _ (R : Resolver) (child : Leveled) (levels : Levels (type_at names) type_size type_nodes R s n child) (r : Walked)
        (closes : Closes s k (record { worked = child.worked; next = child.next }) r) where
      pub child_leveled : Levels (type_at names) type_size type_nodes R s at (record { worked = r.worked; next = r.next; visits = child.visits + 1 })
      child_leveled = record {
        worked = λ t end q.
            let p = one_part names s at x seen t end q k n one in
            one_worked names s t end k n _ r closes levels.next p.0 R levels.worked;
        next = λ t end q z e.
            let p = one_part names s at x seen t end q k n one in
            one_next names s t end k n _ r closes levels.next p.0 z e;
        visits = λ t end q z e.
            let p = one_part names s at x seen t end q k n one in
            let y = one_sized names s t end k n _ r closes p.0 z e in
            one_nodes names s t end k n p.0 (λ u d f. levels.visits u d f y.0 y.1);
      }

  module _ (n : ℕ) (sides : SidesIn x n) (ok : Leveled) (R : Resolver) (levels : Levels (type_at names) type_size type_nodes R s n ok) (few : Few (type_at names) s n ok.visits) where
    -- the first side is above the limit
    pub first_leveled : {o : Operation} → ok.worked ≡ Over o → Levels (type_at names) type_size type_nodes R s at ok
    first_leveled e = record {
      worked = λ t end q.
          let p = (sides_part names s at x seen t end q n sides).0 in
          result_over R p.whole e (levels.worked _ _ p.ok_read);
      next = λ t end q z d. absurd (not_over e d);
      visits = λ t end q z d. absurd (not_over e d);
    }

    pub first_few : Few (type_at names) s at ok.visits
    first_few t end q =
        let p = sides_part names s at x seen t end q n sides in
        omega (arith, p.1, few _ _ p.0.ok_read, (goes_on (type_at names) s p.0.middle p.0.err_read).forward)

    module _ (a : Size) (sized : ok.worked ≡ Sized a) where
      pub second_there : (t : Tree) (end : ℕ) → read (type_at names) s at ≡ done t end → (at < ok.next) × (ok.next ≤ length s) × (u : Tree) × (read (type_at names) s ok.next ≡ done u end)
      second_there t end q =
          let p = sides_part names s at x seen t end q n sides in
          let m = levels.next _ _ p.0.ok_read a sized in
          let g = goes_on (type_at names) s n p.0.ok_read in
          let w = g.within p.2 in
          (omega (arith, p.1, g.forward), omega arith, p.0.err, at_place (type_at names) s p.0.err_read m)

      module _ (err : Leveled) where
        pub both_few : Few (type_at names) s ok.next err.visits → Few (type_at names) s at (ok.visits + err.visits + 1)
        both_few few' t end q =
            let p = sides_part names s at x seen t end q n sides in
            let m = levels.next _ _ p.0.ok_read a sized in
            omega (arith, p.1, few _ _ p.0.ok_read, few' _ _ (at_place (type_at names) s p.0.err_read m), m)

        pub both_leveled : Levels (type_at names) type_size type_nodes R s ok.next err → (r : Walked) → Results a (record { worked = err.worked; next = err.next }) r
            → Levels (type_at names) type_size type_nodes R s at (record { worked = r.worked; next = r.next; visits = ok.visits + err.visits + 1 })
        both_leveled levels' r made = record {
          worked = λ t end q.
              let p = (sides_part names s at x seen t end q n sides).0 in
              let m = levels.next _ _ p.ok_read a sized in
              result_sized R p.whole sized (levels.worked _ _ p.ok_read) (levels'.worked _ _ (at_place (type_at names) s p.err_read m)) made.worked;
          next = λ t end q z e.
              let p = (sides_part names s at x seen t end q n sides).0 in
              let m = levels.next _ _ p.ok_read a sized in
              made.next ∙ levels'.next _ _ (at_place (type_at names) s p.err_read m) _ (made.sized z e).1;
          visits = λ t end q z e.
              let p = (sides_part names s at x seen t end q n sides).0 in
              let m = levels.next _ _ p.ok_read a sized in
              sides_nodes p.whole (levels.visits _ _ p.ok_read a sized) (levels'.visits _ _ (at_place (type_at names) s p.err_read m) _ (made.sized z e).1);
        }
