-- Fields whose limit may bear on elements, by the kind of their type. Assumes nothing.
use Prim.Native.Nat.{ℕ, ◌^◌, ◌<◌}
use mathlib.Core.Path.{◌≡◌, refl, sym, ap, subst, ◌∙◌}
use mathlib.Core.List.{List}
use mathlib.Core.Bool.{Bool, true, cond}
use mathlib.Core.Option.{none, some, none-ne-some}
use mathlib.Core.Logic.{◌⊎◌, inl, inr, ⊎_elim}
use native.Mathlib.Omega.{arith}
use lib.Dec.{eqb}
use borrow.Author.Tests.{eq-eqb, ne_eqb}
use Rattle.number.specs.Grammar.{value, Grammar, give, ◌>>=◌, number, counted, Outcome, done, refused, and_then, below, read}
use Rattle.number.specs.Answers.{next}
use Rattle.number.specs.declared.Next.{Next}
use Rattle.number.proofs.Reading.{read_bind, read_done, read_number, then_on, given}
use Rattle.number.proofs.InRange.{below_is}
use Rattle.tree.specs.Tree.{Tree, Leaf, Wrap, Pair, leaf, wrap, fixed_array, pair, generic, optional, array, set_of, vec2, vec3, vec4, quat, mat3, mat4, map_of, result_of, wrap_kind}
use Rattle.tree.specs.TreeAt.{Node, none as no-child, sub_byte_at, bits_at, body_at, shape}
use Rattle.tree.specs.declared.Sort.TheVariants.{Resolved}
use Rattle.tree.specs.declared.Head.{Head}
use Rattle.tree.proofs.Ranges.{each}
use Rattle.tree.proofs.Shapes.{Parts, head_on, head_refused}
use Rattle.tree.specs.Encoding.{default}
use Rattle.slot.specs.Field.{type_at, limit_at, Field}
use Rattle.slot.specs.declared.Edition.{Edition}
use Rattle.slot.specs.declared.Edition.TheVariants.{One, Two}
use Rattle.image.specs.declared.Frame.{Frame}
use Rattle.sizes.specs.declared.Size.{Size}
use Rattle.sizes.specs.declared.Size.TheVariants.{Open}
use Rattle.sizes.specs.declared.Operation.{Operation}
use Rattle.sizes.specs.declared.Worked.{Worked}
use Rattle.sizes.specs.declared.Worked.TheVariants.{Sized, Over}
use Rattle.sizes.specs.Elements.{Count, at_most_one, any_number, exactly, count_of, Element, item, entry, wrap_element, element_of, is_plain, with_limit, limited_element}
use Rattle.sizes.specs.Nodes.{type_nodes, field_nodes}
use Rattle.sizes.specs.Sizes.{Resolver, largest, then, limited_sum, wrap_size, type_size, encoded_size, entry_size, element_size, up_to, elements_size, field_alone}
use Rattle.sizes.proofs.Limits.{by_type, by_limit, by_all, alone_unlimited, alone_limited}
use Rattle.settling.specs.Steps.{LimitBehind, Holds, element_at, Bears, plain_at, Told, Plains}
use Rattle.settling.specs.declared.Plain.{Plain}
use Rattle.settling.specs.declared.Walked.{Walked}
use Rattle.settling.specs.declared.Limited.{Limited}
use Rattle.settling.proofs.Ended.{at_end, not_stopped, not_refused}
use Rattle.settling.proofs.Heads.{type_parts_lem}
use Rattle.settling.proofs.Typing.{pair_map, pair_result, plain_size}
use Rattle.settling.proofs.Counting.{nodes_plain, nodes_open}

-- ## Kinds that hold no elements

abbrev NoRun : Head → Type 0
NoRun (Head.Leaf k g v n) = Unit {0}
NoRun (Head.One k n) = (k ≡ 5 → ⊥) × (k ≡ 7 → ⊥)
NoRun (Head.Two k n) = k ≡ 8 → ⊥
NoRun (Head.Sized n) = Unit {0}
NoRun (Head.Generic v n) = Unit {0}
NoRun (Head.Refused r p) = Unit {0}

module _ (s : List ℕ) where
  after_any : {A : Type 0} (g : Grammar A) (h : A → Grammar Node) → ((a : A) (m : ℕ) → NoRun (shape (read (h a) s m))) → (at : ℕ) → NoRun (shape (read (◌>>=◌ g h) s at))
  unfolding and_then
  after_any g h k at = subst (λ (o : Outcome Node). NoRun (shape o)) (sym (read_bind g h s at)) (go (read g s at))
    where
      go : (o : Outcome _) → NoRun (shape (and_then o (λ a n. read (h a) s n)))
      go (done a n) = k a n
      go (refused r p) = tt

  leaf_only : {A : Type 0} (g : Grammar A) (f : A → Leaf) (at : ℕ) → NoRun (shape (read (◌>>=◌ g (λ a. give (no-child (f a)))) s at))
  unfolding read
  leaf_only g f at = after_any g (λ a. give (no-child (f a))) (λ a m. tt) at

  no_run : (names k n : ℕ) → k < 17 → (k ≡ 5 → ⊥) → (k ≡ 7 → ⊥) → (k ≡ 8 → ⊥) → NoRun (shape (read (body_at Resolved names k) s n))
  unfolding body_at sub_byte_at bits_at read
  no_run names k n h =
      each (λ j. (j ≡ 5 → ⊥) → (j ≡ 7 → ⊥) → (j ≡ 8 → ⊥) → NoRun (shape (read (body_at Resolved names j) s n))) 0 17 (
        (λ a b c. leaf_only (number value 14) _ n),
        (
          (λ a b c. after_any (number value 2) _ (λ g m. leaf_only (number value 256) _ m) n),
          (
            (λ a b c. leaf_only (number value 6) _ n),
            (
              (λ a b c. leaf_only (number _ _) _ n),
              (
                (λ a b c. (λ e. omega arith, λ e. omega arith)),
                (
                  (λ a b c. absurd (a refl)),
                  (
                    (λ a b c. tt),
                    (
                      (λ a b c. absurd (b refl)),
                      (
                        (λ a b c. absurd (c refl)),
                        (
                          (λ a b c e. omega arith),
                          (
                            (λ a b c. (λ e. omega arith, λ e. omega arith)),
                            (
                              (λ a b c. (λ e. omega arith, λ e. omega arith)),
                              (
                                (λ a b c. (λ e. omega arith, λ e. omega arith)),
                                (
                                  (λ a b c. (λ e. omega arith, λ e. omega arith)),
                                  (
                                    (λ a b c. (λ e. omega arith, λ e. omega arith)),
                                    (
                                      (λ a b c. (λ e. omega arith, λ e. omega arith)),
                                      ((λ a b c. leaf_only (counted (number _ names)) _ n), tt),
                                    ),
                                  ),
                                ),
                              ),
                            ),
                          ),
                        ),
                      ),
                    ),
                  ),
                ),
              ),
            ),
          ),
        ),
      ) k (omega arith) (omega arith)

wrap_none : (w : Wrap) (u : Tree) → (wrap_kind w ≡ 5 → ⊥) → (wrap_kind w ≡ 7 → ⊥) → wrap_element (count_of w) u ≡ none
wrap_none optional u a b = refl
wrap_none array u a b = absurd (a refl)
wrap_none set_of u a b = absurd (b refl)
wrap_none vec2 u a b = refl
wrap_none vec3 u a b = refl
wrap_none vec4 u a b = refl
wrap_none quat u a b = refl
wrap_none mat3 u a b = refl
wrap_none mat4 u a b = refl

wrap_some : (w : Wrap) (u : Tree) {k : ℕ} → wrap_kind w ≡ k → (k ≡ 5) ⊎ (k ≡ 7) → wrap_element (count_of w) u ≡ some (item u)
wrap_some optional u e h = absurd (⊎_elim (λ z. omega arith) (λ z. omega arith) h)
wrap_some array u e h = refl
wrap_some set_of u e h = refl
wrap_some vec2 u e h = absurd (⊎_elim (λ z. omega arith) (λ z. omega arith) h)
wrap_some vec3 u e h = absurd (⊎_elim (λ z. omega arith) (λ z. omega arith) h)
wrap_some vec4 u e h = absurd (⊎_elim (λ z. omega arith) (λ z. omega arith) h)
wrap_some quat u e h = absurd (⊎_elim (λ z. omega arith) (λ z. omega arith) h)
wrap_some mat3 u e h = absurd (⊎_elim (λ z. omega arith) (λ z. omega arith) h)
wrap_some mat4 u e h = absurd (⊎_elim (λ z. omega arith) (λ z. omega arith) h)

-- ## The element of a type

-- what a type holds any number of has no largest
wrap_open : (c : Count) (u : Tree) (child : Worked) (e : Element) → wrap_element c u ≡ some e → wrap_size c child ≡ Sized (Open 8)
unfolding wrap_size
wrap_open at_most_one u child e q = absurd (none-ne-some e q)
wrap_open any_number u child e q = refl
wrap_open (exactly k) u child e q = absurd (none-ne-some e q)

open_size : (t : Tree) (e : Element) → element_of t ≡ some e → (R : Resolver) → type_size R t ≡ Sized (Open 8)
unfolding type_size
open_size (leaf l) e q R = absurd (none-ne-some e q)
open_size (wrap w u) e q R = wrap_open (count_of w) u (type_size R u) e q
open_size (fixed_array u k) e q R = absurd (none-ne-some e q)
open_size (pair map_of u v) e q R = refl
open_size (pair result_of u v) e q R = absurd (none-ne-some e q)
open_size (generic n u) e q R = absurd (none-ne-some e q)

-- an element's first type, and what it makes of it
pub record First (names : ℕ) (s : List ℕ) (kind at : ℕ) (e : Element) (end : ℕ) : Type 0 where
  pub type : Tree
  pub middle : ℕ
  pub here : read (type_at names) s at ≡ done type middle
  pub alone : (kind ≡ 8 → ⊥) → e ≡ item type
  pub paired : kind ≡ 8 → (u : Tree) × (read (type_at names) s middle ≡ done u end) × (e ≡ entry type u)

module _ (names : ℕ) (s : List ℕ) (kind : ℕ) where
  abbrev rest_by : Bool → Tree → Grammar Element
  rest_by b t = cond b (◌>>=◌ (type_at names) (λ u. give (entry t u))) (give (item t))

  abbrev rest : Tree → Grammar Element
  rest t = rest_by (eqb kind 8) t

  abbrev Rest : Tree → ℕ → Element → ℕ → Bool → Type 0
  Rest t middle e end b = read (rest_by b t) s middle ≡ done e end

  pub first_of : (at : ℕ) (e : Element) (end : ℕ) → read (element_at names kind) s at ≡ done e end → First names s kind at e end
  unfolding element_at read
  first_of at e end q =
      let a = read_done (type_at names) rest s at e end q in
      record {
        type = a.first;
        middle = a.middle;
        here = a.here;
        alone = λ n. sym (given (subst (Rest a.first a.middle e end) (ne_eqb kind 8 n) a.rest)).0;
        paired = λ z.
            let d = read_done (type_at names) (λ u. give (entry a.first u)) s a.middle e end (subst (Rest a.first a.middle e end) (eq-eqb kind 8 z) a.rest) in
            let g = given d.rest in
            (d.first, d.here ∙ ap (done d.first) g.1, sym g.0);
      }

  item_reads : (body : ℕ) → (kind ≡ 8 → ⊥) → (t : Tree) (end : ℕ) → read (type_at names) s body ≡ done t end → read (element_at names kind) s body ≡ done (item t) end
  unfolding element_at read
  item_reads body n t end q = let b = ne_eqb kind 8 n in read_bind (type_at names) rest s body ∙ then_on _ _ q ∙ rw b

  entry_reads : (body : ℕ) → kind ≡ 8 → (t u : Tree) (middle end : ℕ) → read (type_at names) s body ≡ done t middle → read (type_at names) s middle ≡ done u end
      → read (element_at names kind) s body ≡ done (entry t u) end
  unfolding element_at read
  entry_reads body z t u middle end q r =
      let b = eq-eqb kind 8 z in
      read_bind (type_at names) rest s body ∙ then_on _ _ q ∙ rw b (read_bind (type_at names) (λ v. give (entry t v)) s middle ∙ then_on _ _ r)

pub record Run (names : ℕ) (s : List ℕ) (kind body : ℕ) (t : Tree) (behind : ℕ) : Type 0 where
  pub element : Element
  pub reads : read (element_at names kind) s body ≡ done element behind
  pub holds : element_of t ≡ some element

module _ (names : ℕ) (s : List ℕ) (at kind body : ℕ) (q : below 17 s at ≡ done kind body) (t : Tree) (behind : ℕ) (r : read (type_at names) s at ≡ done t behind) where
  parts_at : (x : Head) → shape (read (body_at Resolved names kind) s body) ≡ x → Parts (type_at names) s x t behind
  parts_at x e = type_parts_lem names s at x (head_on Resolved names s at 32 kind body q ∙ e) t behind r

  pub no_element_lem : (kind ≡ 5 → ⊥) → (kind ≡ 7 → ⊥) → (kind ≡ 8 → ⊥) → element_of t ≡ none
  no_element_lem a b c = go (shape (read (body_at Resolved names kind) s body)) refl (no_run s names kind body (below_is s at 17 kind body q).under a b c)
    where
      go : (x : Head) → shape (read (body_at Resolved names kind) s body) ≡ x → NoRun x → element_of t ≡ none
      go (Head.Leaf k g v n) e h = ap element_of (parts_at _ e).1
      go (Head.One k n) e h =
          let p = parts_at _ e in
          ap element_of p.2 ∙ wrap_none p.0 p.1 (λ z. h.0 (sym p.3 ∙ z)) (λ z. h.1 (sym p.3 ∙ z))
      go (Head.Two k n) e h =
          let p = parts_at _ e in
          ap element_of (p.4 ∙ ap (λ (y : Pair). pair y p.1 p.2) (pair_result p.0 p.5 h))
      go (Head.Sized n) e h = ap element_of (parts_at _ e).3
      go (Head.Generic v n) e h = ap element_of (parts_at _ e).1
      go (Head.Refused w p) e h = absurd (parts_at _ e)

  item_run : Head.One kind body ≡ shape (read (body_at Resolved names kind) s body) → (kind ≡ 5) ⊎ (kind ≡ 7) → Run names s kind body t behind
  item_run e h =
      let p = parts_at (Head.One kind body) (sym e) in
      record {
        element = item p.1;
        reads = item_reads names s kind body (λ z. ⊎_elim (λ y. omega arith) (λ y. omega arith) h) p.1 behind p.4;
        holds = ap element_of p.2 ∙ wrap_some p.0 p.1 p.3 h;
      }

  entry_run : Head.Two kind body ≡ shape (read (body_at Resolved names kind) s body) → kind ≡ 8 → Run names s kind body t behind
  entry_run e h =
      let p = parts_at (Head.Two kind body) (sym e) in
      record {
        element = entry p.1 p.2;
        reads = entry_reads names s kind body h p.1 p.2 p.3 behind p.6 p.7;
        holds = ap element_of (p.4 ∙ ap (λ (y : Pair). pair y p.1 p.2) (pair_map p.0 p.5 h));
      }

  pub run_of : Holds kind → Run names s kind body t behind
  unfolding body_at read
  run_of h =
      ⊎_elim (λ e. item_run (rw e) (inl e)) (⊎_elim (λ e. item_run (rw e) (inr e)) (λ e. entry_run (rw e) e)) h

-- ## Fields

-- a plain field from its type on
pub record PlainParts (ed : Edition) (names : ℕ) (s : List ℕ) (at : ℕ) (x : Field) (end : ℕ) : Type 0 where
  pub behind : ℕ
  pub typed : read (type_at names) s at ≡ done x.type behind
  pub limit : read (limit_at ed) s behind ≡ done x.limit end
  pub plain : x.encoding ≡ default

module _ (ed : Edition) (names : ℕ) (s : List ℕ) (at : ℕ) where
  abbrev made : Tree → ℕ → Field
  made t l = record { field_name = 0; encoding = default; type = t; limit = l }

  pub plain_parts : (x : Field) (end : ℕ) → read (plain_at ed names) s at ≡ done x end → PlainParts ed names s at x end
  unfolding plain_at read
  plain_parts x end q =
      let a = read_done (type_at names) (λ t. ◌>>=◌ (limit_at ed) (λ l. give (made t l))) s at x end q in
      let d = read_done (limit_at ed) (λ l. give (made a.first l)) s a.middle x end a.rest in
      let g = given d.rest in
      let e = g.0 in
      record {
        behind = a.middle;
        typed = a.here ∙ ap (λ (y : Field). done y.type a.middle) e;
        limit = d.here ∙ ap (done d.first) g.1 ∙ ap (λ (y : Field). done y.limit end) e;
        plain = sym (ap (λ (y : Field). y.encoding) e);
      }

  pub plain_reads : (x : Field) (behind end : ℕ) → read (type_at names) s at ≡ done x.type behind → read (limit_at ed) s behind ≡ done x.limit end
      → read (plain_at ed names) s at ≡ done (made x.type x.limit) end
  unfolding plain_at read
  plain_reads x behind end q r =
      read_bind (type_at names) (λ t. ◌>>=◌ (limit_at ed) (λ l. give (made t l))) s at ∙ then_on _ _ q
      ∙ read_bind (limit_at ed) (λ l. give (made x.type l)) s behind ∙ then_on _ _ r

-- what is plain is as in Default
pub plain_alone : (x : Field) → is_plain x.encoding ≡ true → (R : Resolver) → field_alone R (record { field_name = 0; encoding = default; type = x.type; limit = x.limit }) ≡ field_alone R x
unfolding limited_element encoded_size
plain_alone x p R =
    ap (λ (w : Worked). elements_size R x.limit (with_limit x.limit (element_of x.type)) w) (plain_size x.encoding p R x.type)
    ∙ ap (λ (b : Bool). elements_size R x.limit (cond b (with_limit x.limit (element_of x.type)) none) (encoded_size R x.encoding x.type)) (sym p)

module _ (f : Frame) (s : List ℕ) (at : ℕ) where
  abbrev Here : Field → ℕ → Type 0
  Here x end = PlainParts f.edition f.names s at x end

  here : (x : Field) (end : ℕ) → read (plain_at f.edition f.names) s at ≡ done x end → Here x end
  here x end q = plain_parts f.edition f.names s at x end q

  -- the size of a plain field's type, where no limit bears on elements
  by_itself : (x : Field) (end : ℕ) → Here x end → limited_element x ≡ none → (R : Resolver) → type_size R x.type ≡ field_alone R x
  by_itself x end k n R = plain_size x.encoding (ap is_plain k.plain) R x.type ∙ sym (alone_unlimited x R n)

  by_type_alone : (x : Field) (end : ℕ) → Here x end → limited_element x ≡ none → Told f s at x end Plain.Type
  unfolding Told
  by_type_alone x end k n = (k.behind, k.typed, k.limit, by_itself x end k n, nodes_plain x (ap is_plain k.plain) n)

  -- edition one
  pub plain_one : f.edition ≡ One → Plains f s at Plain.Type
  unfolding limit_at read
  plain_one e x end q = let k = here x end q in by_type_alone x end k (by_limit x (sym (given (rw e at k).limit).0))

  -- no head is read
  pub plain_none : {r p : ℕ} → below 17 s at ≡ refused r p → Plains f s at Plain.Type
  plain_none {r} {p} e x end q =
      let k = here x end q in
      absurd (type_parts_lem f.names s at (Head.Refused r p) (head_refused Resolved f.names s at 32 r p e) x.type k.behind k.typed)

  module _ (kind body : ℕ) (q : below 17 s at ≡ done kind body) where
    -- another kind
    pub plain_other : (kind ≡ 5 → ⊥) → (kind ≡ 7 → ⊥) → (kind ≡ 8 → ⊥) → Plains f s at Plain.Type
    plain_other a b c x end r =
        let k = here x end r in
        by_type_alone x end k (by_type x (no_element_lem f.names s at kind body q x.type k.behind k.typed a b c))

    module _ (holds : Holds kind) {names : ℕ} (same : f.names ≡ names) (two : f.edition ≡ Two) {most place : ℕ} (limit : LimitBehind names s at most place) where
      limit_is : (x : Field) (end : ℕ) → Here x end → (most ≡ x.limit) × (place ≡ end)
      limit_is x end k =
          limit x.type k.behind x.limit end (subst (λ (m : ℕ). read (type_at m) s at ≡ done x.type k.behind) same k.typed) (rw two at k).limit

      -- limit 0
      pub plain_open : most ≡ 0 → Plains f s at (Plain.Is record { worked = Sized (Open 8); next = place })
      unfolding Told
      plain_open z x end r =
          let k = here x end r in
          let m = limit_is x end k in
          let u = run_of f.names s at kind body q x.type k.behind k.typed holds in
          let n = by_limit x (sym m.0 ∙ z) in
          (m.1, λ R. sym (open_size x.type u.element u.holds R) ∙ by_itself x end k n R, nodes_open x (ap is_plain k.plain) u.element u.holds n)

      pub plain_limited : (most ≡ 0 → ⊥) → Plains f s at (Plain.Limited record { kind = kind; body = body; most = most; next = place })
      unfolding Told
      plain_limited n x end r =
          let k = here x end r in
          let m = limit_is x end k in
          let u = run_of f.names s at kind body q x.type k.behind k.typed holds in
          record { next = m.1; most = m.0; element = u.element; behind = k.behind; reads = u.reads; bears = by_all x u.element (ap is_plain k.plain) (λ z. n (m.0 ∙ z)) u.holds }

-- what was told, once it was matched
module _ (f : Frame) (s : List ℕ) (at : ℕ) (r : Plain) (h : Plains f s at r) where
  pub is_told : (w : Walked) → r ≡ Plain.Is w → (x : Field) (end : ℕ) → read (plain_at f.edition f.names) s at ≡ done x end
      → (w.next ≡ end) × ((R : Resolver) → w.worked ≡ field_alone R x) × (field_nodes x ≡ 1)
  unfolding Told
  is_told w e x end q = subst (Told f s at x end) e (h x end q)

  pub type_told : r ≡ Plain.Type → (x : Field) (end : ℕ) → read (plain_at f.edition f.names) s at ≡ done x end
      → (behind : ℕ) × (read (type_at f.names) s at ≡ done x.type behind) × (read (limit_at f.edition) s behind ≡ done x.limit end)
      × ((R : Resolver) → type_size R x.type ≡ field_alone R x) × (type_nodes x.type ≡ field_nodes x)
  unfolding Told
  type_told e x end q = subst (Told f s at x end) e (h x end q)

  pub limited_told : (l : Limited) → r ≡ Plain.Limited l → (x : Field) (end : ℕ) → read (plain_at f.edition f.names) s at ≡ done x end
      → Bears f.names s x end l
  unfolding Told
  limited_told l e x end q = subst (Told f s at x end) e (h x end q)

-- ## The limit behind a type

pub limit_read_lem : (names : ℕ) (s : List ℕ) (at : ℕ) {x : Next} {n most place : ℕ} → x ≡ next (read (type_at names) s at) → x ≡ Next.At n
    → below (2 ^ 32) s n ≡ done most place → LimitBehind names s at most place
unfolding limit_at
limit_read_lem names s at e m q t behind l end r h =
    let b = at_end (read (type_at names) s at) e r m in
    given (sym q ∙ ap (below (2 ^ 32) s) b ∙ sym (read_number value (2 ^ 32) s behind) ∙ h)

pub limit_refused : (names : ℕ) (s : List ℕ) (at : ℕ) {x : Next} {n r p : ℕ} (most place : ℕ) → x ≡ next (read (type_at names) s at) → x ≡ Next.At n
    → below (2 ^ 32) s n ≡ refused r p → LimitBehind names s at most place
unfolding limit_at
limit_refused names s at most place e m q t behind l end h k =
    let b = at_end (read (type_at names) s at) e h m in
    absurd (not_refused (ap (below (2 ^ 32) s) (sym b) ∙ q) (sym (read_number value (2 ^ 32) s behind) ∙ k))

pub limit_nowhere : (names : ℕ) (s : List ℕ) (at : ℕ) {x : Next} {r p : ℕ} (most place : ℕ) → x ≡ next (read (type_at names) s at) → x ≡ Next.Refused r p
    → LimitBehind names s at most place
limit_nowhere names s at most place e m t behind l end h k = absurd (not_stopped (read (type_at names) s at) e h m)

-- ## Sizes of elements

module _ (R : Resolver) {e : Element} {t : Tree} {w : Worked} where
  pub item_sized : e ≡ item t → w ≡ type_size R t → w ≡ element_size R e
  unfolding element_size
  item_sized q h = h ∙ sym (ap (element_size R) q)

  module _ {u : Tree} (q : e ≡ entry t u) where
    pub entry_over : {o : Operation} → w ≡ Over o → w ≡ type_size R t → w ≡ element_size R e
    unfolding element_size then
    entry_over f g = let z = sym g ∙ f in f ∙ rw (q, z)

    pub entry_sized : {k : Size} {first second : Worked} → first ≡ Sized k → first ≡ type_size R t → second ≡ type_size R u
        → w ≡ then second (λ v. limited_sum (entry_size k v)) → w ≡ element_size R e
    unfolding element_size then
    entry_sized f g h p = let z = sym g ∙ f in p ∙ rw (q, z, h)

-- at most so many of them
pub counted_as : (n : ℕ) {w v element : Worked} → w ≡ then v (λ z. up_to n (largest z)) → v ≡ element → w ≡ then element (λ z. up_to n (largest z))
counted_as n p q = p ∙ ap (λ (x : Worked). then x (λ z. up_to n (largest z))) q

pub counted_over : (n : ℕ) {w element : Worked} {o : Operation} → w ≡ Over o → w ≡ element → w ≡ then element (λ z. up_to n (largest z))
unfolding then
counted_over n p q = let z = sym q ∙ p in p ∙ rw z

-- a field that its limit bears on
pub limited_sized : (names : ℕ) (s : List ℕ) (x : Field) (end : ℕ) (l : Limited) (b : Bears names s x end l) (R : Resolver) {w : Worked}
    → w ≡ then (element_size R b.element) (λ z. up_to l.most (largest z)) → w ≡ field_alone R x
limited_sized names s x end l b R p =
    p ∙ ap (λ (n : ℕ). then (element_size R b.element) (λ z. up_to n (largest z))) b.most ∙ sym (alone_limited x R b.element b.bears)
