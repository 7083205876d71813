-- What leaves mean, by scope and kind; which slot a type names, by the shape of its head. Assumes nothing.
use Prim.Native.Nat.{ℕ, zero, suc, ◌-◌, ◌≤◌, ◌<◌}
use mathlib.Core.Path.{◌≡◌, refl, sym, ap, subst, ◌∙◌}
use mathlib.Core.List.{List}
use mathlib.Core.Bool.{Bool, true, false, cond}
use mathlib.Core.Logic.{by_cases}
use native.Mathlib.Omega.{arith}
use native.Mathlib.Decide.{dec_lt, ℕ_discrete}
use borrow.Author.Tests.{eq-eqb, ne_eqb}
use lib.Dec.{eqb}
use lib.ListN.{get_or}
use Rattle.number.specs.Grammar.{Outcome, done, refused, read}
use Rattle.tree.specs.Tree.{Tree, Leaf, leaf, primitive, sub_byte, semantic, named, bits_inline, qualified, wrap, fixed_array, pair, generic, leaf_kind, leaf_number}
use Rattle.tree.specs.TreeAt.{Node, none, one, two, sized, applied, head_at, shape}
use Rattle.tree.specs.declared.Sort.TheVariants.{Resolved}
use Rattle.tree.specs.declared.Head.{Head}
use Rattle.tree.proofs.Shapes.{parts}
use Rattle.image.specs.Schema.{Schema}
use Rattle.findings.specs.Meaning.{id_found, resolved, argument_of, leaf_value, value_of, leaf_meant}
use Rattle.findings.specs.declared.Value.{Value}
use Rattle.slot.specs.Field.{type_at}
use Rattle.meanings.specs.Places.{AtNames, IsArgument, found_of, Known, Sound}
use Rattle.meanings.specs.Scopes.{first_at, is_first, at_place, of_value, name_meaning, leaf_meaning, head_value, FindsHold, Stands, KnownIn, RightLeaf}
use Rattle.meanings.specs.declared.Scope.{Scope}
use Rattle.meanings.specs.declared.Meaning.{Meaning}
use Rattle.meanings.specs.declared.Found.{Found}
use Rattle.meanings.proofs.Arguments.{RightFirst, first_right}

-- a scope of which every type is known whole
unfoldable pub Whole : Scope → Type 0
Whole Scope.Types = Unit {0}
Whole (Scope.One p v) = ⊥

-- what an answer on the meaning x of a leaf l says
unfoldable pub Told : (names : ℕ) → (s : List ℕ) → Scope → Leaf → (x : Tree) → Meaning → Type 0
Told names s scope l x Meaning.Itself = (x ≡ leaf l) × (value_of x ≡ Value.NotName)
Told names s scope l x (Meaning.Id i) = x ≡ leaf (named i)
Told names s scope l x (Meaning.Type q) = (end : ℕ) × (read (type_at names) s q ≡ done x end)
Told names s scope l x Meaning.NotName = (Whole scope → ⊥) × (value_of x ≡ Value.NotName)

-- what an answer on a plain name says, on a leaf, and on a type
abbrev pub RightParameter : (names : ℕ) → (s finds places : List ℕ) → Scope → (n : ℕ) → Meaning → Type 0
RightParameter names s finds places scope n r =
    (S : Schema) → FindsHold S finds → (ps : List ℕ) (ts : List Tree) → Stands names s places scope ps ts → KnownIn scope places (leaf (named n))
    → Told names s scope (named n) (leaf_meant S ps ts (named n)) r

abbrev pub RightMeaning : (names : ℕ) → (s finds places : List ℕ) → Scope → (kind v : ℕ) → Meaning → Type 0
RightMeaning names s finds places scope kind v r =
    (S : Schema) → FindsHold S finds → (ps : List ℕ) (ts : List Tree) → Stands names s places scope ps ts
    → (l : Leaf) → leaf_kind l ≡ kind → leaf_number l ≡ v → KnownIn scope places (leaf l)
    → Told names s scope l (leaf_meant S ps ts l) r

abbrev pub RightValue : (names : ℕ) → (s : List ℕ) → (at : ℕ) → Value → Type 0
RightValue names s at r = (t : Tree) (end : ℕ) → read (type_at names) s at ≡ done t end → r ≡ value_of t

resolved_is : (S : Schema) (finds : List ℕ) → FindsHold S finds → (n v : ℕ) → v ≡ id_found (get_or finds n 0) → leaf (named (resolved S n)) ≡ leaf (named v)
unfolding resolved
resolved_is S finds h n v e = ap (λ (x : ℕ). leaf (named x)) (ap id_found (sym (h.entry n)) ∙ sym e)

no_id : {i : ℕ} → Value.NotName ≡ Value.Id i → ⊥
no_id e = let z : ◌≡◌ {A = ℕ} 0 1 = cc in omega arith

-- a type that is a name
leaf_name : (l : Leaf) (i : ℕ) → leaf_value l ≡ Value.Id i → l ≡ named i
unfolding leaf_value
leaf_name (primitive p) i e = absurd (no_id e)
leaf_name (sub_byte g b) i e = absurd (no_id e)
leaf_name (semantic m) i e = absurd (no_id e)
leaf_name (named j) i e = cc
leaf_name (bits_inline ns) i e = absurd (no_id e)
leaf_name (qualified n) i e = absurd (no_id e)

pub is_name : (t : Tree) (i : ℕ) → value_of t ≡ Value.Id i → t ≡ leaf (named i)
unfolding value_of
is_name (leaf l) i e = ap leaf (leaf_name l i e)
is_name (wrap w t) i e = absurd (no_id e)
is_name (fixed_array t n) i e = absurd (no_id e)
is_name (pair p t u) i e = absurd (no_id e)
is_name (generic n t) i e = absurd (no_id e)

-- leaves by their kinds
pub leaf_3 : (l : Leaf) (v : ℕ) → leaf_kind l ≡ 3 → leaf_number l ≡ v → l ≡ named v
leaf_3 (primitive p) v e f = absurd (omega arith)
leaf_3 (sub_byte g b) v e f = absurd (omega arith)
leaf_3 (semantic m) v e f = absurd (omega arith)
leaf_3 (named j) v e f = ap named f
leaf_3 (bits_inline ns) v e f = absurd (omega arith)
leaf_3 (qualified n) v e f = absurd (omega arith)

leaf_17 : (l : Leaf) (v : ℕ) → leaf_kind l ≡ 17 → leaf_number l ≡ v → l ≡ qualified v
leaf_17 (primitive p) v e f = absurd (omega arith)
leaf_17 (sub_byte g b) v e f = absurd (omega arith)
leaf_17 (semantic m) v e f = absurd (omega arith)
leaf_17 (named j) v e f = absurd (omega arith)
leaf_17 (bits_inline ns) v e f = absurd (omega arith)
leaf_17 (qualified n) v e f = ap qualified f

leaf_other : (S : Schema) (ps : List ℕ) (ts : List Tree) (l : Leaf) → (leaf_kind l ≡ 3 → ⊥) → (leaf_kind l ≡ 17 → ⊥) → leaf_meant S ps ts l ≡ leaf l
unfolding leaf_meant
leaf_other S ps ts (primitive p) h k = refl
leaf_other S ps ts (sub_byte g b) h k = refl
leaf_other S ps ts (semantic m) h k = refl
leaf_other S ps ts (named j) h k = absurd (h refl)
leaf_other S ps ts (bits_inline ns) h k = refl
leaf_other S ps ts (qualified n) h k = absurd (k refl)

leaf_not : (l : Leaf) → (leaf_kind l ≡ 3 → ⊥) → leaf_value l ≡ Value.NotName
unfolding leaf_value
leaf_not (primitive p) h = refl
leaf_not (sub_byte g b) h = refl
leaf_not (semantic m) h = refl
leaf_not (named j) h = absurd (h refl)
leaf_not (bits_inline ns) h = refl
leaf_not (qualified n) h = refl

-- what a place of the table says
code_none : (c : ℕ) → c < 2 → found_of c ≡ Found.Nothing
code_none zero l = refl
code_none (suc zero) l = refl
code_none (suc (suc q)) l = absurd (omega arith)

code_at : (c : ℕ) → 2 ≤ c → found_of c ≡ Found.At (c - 2)
code_at zero h = absurd (omega arith)
code_at (suc zero) h = absurd (omega arith)
code_at (suc (suc q)) h = let e : suc (suc q) - 2 ≡ q = omega arith in rw e

-- plain names
module _ (names : ℕ) (s finds places : List ℕ) (n : ℕ) (scope : Scope) where
  module _ (e : scope ≡ Scope.Types) (code : ℕ) (c : code ≡ get_or places n 0) where
    looked : (ps : List ℕ) (ts : List Tree) → Stands names s places scope ps ts → KnownIn scope places (leaf (named n)) → IsArgument names s ps ts n (found_of code)
    unfolding Stands KnownIn AtNames
    looked ps ts st k =
        let st' : Sound names s ps ts places = rw e at st in
        let k' : Known places n = rw e at k in
        rw c (st'.right n k')

    types_none : code < 2 → (v : ℕ) → v ≡ id_found (get_or finds n 0) → RightParameter names s finds places scope n (Meaning.Id v)
    unfolding IsArgument Told leaf_meant
    types_none l v g S h ps ts st k =
        let j = looked ps ts st k in
        let i : IsArgument names s ps ts n Found.Nothing = subst (λ (x : Found). IsArgument names s ps ts n x) (code_none code l) j in
        i _ ∙ resolved_is S finds h n v g

    types_at : 2 ≤ code → RightParameter names s finds places scope n (Meaning.Type (code - 2))
    unfolding IsArgument Told leaf_meant
    types_at l S h ps ts st k =
        let j = looked ps ts st k in
        let i : IsArgument names s ps ts n (Found.At (code - 2)) = subst (λ (x : Found). IsArgument names s ps ts n x) (code_at code l) j in
        (i.1, i.2 ∙ ap (λ (t : Tree). done t i.1) (sym (i.3 _)))

  module _ (p : ℕ) (value : Value) (e : scope ≡ Scope.One p value) (first : Bool) (f : RightFirst names s p n first) where
    one_is : (ps : List ℕ) (ts : List Tree) → Stands names s places scope ps ts → (b : Bool) → first ≡ b
        → (t : Tree) × (value_of t ≡ value) × ((d : Tree) → argument_of ps ts n d ≡ cond b t d)
    unfolding Stands
    one_is ps ts st b g =
        let st' : Stands names s places (Scope.One p value) ps ts = rw e at st in
        (st'.1, st'.4, λ d. ap (λ (l : List Tree). argument_of ps l n d) st'.3 ∙ f ps st'.0 st'.2 st'.1 d ∙ rw g)

    one_first : first ≡ true → (S : Schema) (ps : List ℕ) (ts : List Tree) → Stands names s places scope ps ts
        → value_of (leaf_meant S ps ts (named n)) ≡ value
    unfolding leaf_meant
    one_first g S ps ts st = let i = one_is ps ts st true g in ap value_of (i.2 _) ∙ i.1

    one_id : (i : ℕ) → first ≡ true → value ≡ Value.Id i → RightParameter names s finds places scope n (Meaning.Id i)
    unfolding Told
    one_id i g q S h ps ts st k = is_name _ _ (one_first g S ps ts st ∙ q)

    one_not : first ≡ true → value ≡ Value.NotName → RightParameter names s finds places scope n Meaning.NotName
    unfolding Told Whole
    one_not g q S h ps ts st k = ((λ w. absurd (rw e at w)), one_first g S ps ts st ∙ q)

    one_other : (v : ℕ) → first ≡ false → v ≡ id_found (get_or finds n 0) → RightParameter names s finds places scope n (Meaning.Id v)
    unfolding Told leaf_meant
    one_other v g q S h ps ts st k = (one_is ps ts st false g).2 _ ∙ resolved_is S finds h n v q

  -- what the tables say of a plain name, by the code's steps
  abbrev Id : ℕ
  Id = id_found (get_or finds n 0)

  abbrev Means : Meaning
  Means = name_meaning names s finds places scope n

  module _ (e : scope ≡ Scope.Types) (code : ℕ) (c : code ≡ get_or places n 0) where
    pub table_none : code < 2 → (v : ℕ) → v ≡ Id → Meaning.Id v ≡ Means
    unfolding name_meaning
    table_none l v g = rw e (ap Meaning.Id g ∙ ap (λ (f : Found). at_place f Id) (sym (code_none code l) ∙ ap found_of c))

    pub table_at : 2 ≤ code → Meaning.Type (code - 2) ≡ Means
    unfolding name_meaning
    table_at l = rw e (ap (λ (f : Found). at_place f Id) (sym (code_at code l) ∙ ap found_of c))

  module _ (p : ℕ) (value : Value) (e : scope ≡ Scope.One p value) (first : Bool) (f : first ≡ is_first n (read (first_at names) s p)) where
    by_first : (b : Bool) → first ≡ b → cond b (of_value value) (Meaning.Id Id) ≡ Means
    unfolding name_meaning
    by_first b g = rw e (ap (λ (x : Bool). cond x (of_value value) (Meaning.Id Id)) (sym g ∙ f))

    pub first_id : (i : ℕ) → first ≡ true → value ≡ Value.Id i → Meaning.Id i ≡ Means
    first_id i g q = ap of_value (sym q) ∙ by_first true g

    pub first_no_name : first ≡ true → value ≡ Value.NotName → Meaning.NotName ≡ Means
    first_no_name g q = ap of_value (sym q) ∙ by_first true g

    pub not_first : (v : ℕ) → first ≡ false → v ≡ Id → Meaning.Id v ≡ Means
    not_first v g q = ap Meaning.Id q ∙ by_first false g

-- and it is right
name_right : (names : ℕ) (s finds places : List ℕ) (n : ℕ) (scope : Scope) → RightParameter names s finds places scope n (name_meaning names s finds places scope n)
name_right names s finds places n Scope.Types =
    by_cases (dec_lt (get_or places n 0) 2)
    (λ l. is (table_none names s finds places n Scope.Types refl _ refl l _ refl) (types_none names s finds places n Scope.Types refl _ refl l _ refl))
    (λ l. is (table_at names s finds places n Scope.Types refl _ refl (omega arith)) (types_at names s finds places n Scope.Types refl _ refl (omega arith)))
  where
    is : {m : Meaning} → m ≡ name_meaning names s finds places Scope.Types n → RightParameter names s finds places Scope.Types n m
        → RightParameter names s finds places Scope.Types n (name_meaning names s finds places Scope.Types n)
    is e h = subst (λ (m : Meaning). RightParameter names s finds places Scope.Types n m) e h
name_right names s finds places n (Scope.One p value) = go value refl (is_first n (read (first_at names) s p)) refl
  where
    is : {m : Meaning} → m ≡ name_meaning names s finds places (Scope.One p value) n → RightParameter names s finds places (Scope.One p value) n m
        → RightParameter names s finds places (Scope.One p value) n (name_meaning names s finds places (Scope.One p value) n)
    is e h = subst (λ (m : Meaning). RightParameter names s finds places (Scope.One p value) n m) e h

    go : (w : Value) → value ≡ w → (b : Bool) → is_first n (read (first_at names) s p) ≡ b → RightParameter names s finds places (Scope.One p value) n (name_meaning names s finds places (Scope.One p value) n)
    go (Value.Id i) q true g =
        is (first_id names s finds places n (Scope.One p value) p value refl _ refl i g q) (one_id names s finds places n (Scope.One p value) p value refl _ (first_right names s p n) i g q)
    go Value.NotName q true g =
        is (first_no_name names s finds places n (Scope.One p value) p value refl _ refl g q) (one_not names s finds places n (Scope.One p value) p value refl _ (first_right names s p n) g q)
    go w q false g =
        is (not_first names s finds places n (Scope.One p value) p value refl _ refl _ g refl) (one_other names s finds places n (Scope.One p value) p value refl _ (first_right names s p n) _ g refl)

-- leaves
module _ (names : ℕ) (s finds places : List ℕ) (scope : Scope) (kind v : ℕ) where
  abbrev MeansLeaf : Meaning
  MeansLeaf = leaf_meaning names s finds places scope kind v

  pub plain : (r : Meaning) → kind ≡ 3 → r ≡ name_meaning names s finds places scope v → r ≡ MeansLeaf
  unfolding leaf_meaning
  plain r e h = rw (eq-eqb kind 3 e) h

  pub qualified_name : (i : ℕ) → kind ≡ 17 → i ≡ id_found (get_or finds v 0) → Meaning.Id i ≡ MeansLeaf
  unfolding leaf_meaning
  qualified_name i e h = rw (ne_eqb kind 3 (λ z. omega arith), eq-eqb kind 17 e) (ap Meaning.Id h)

  pub no_name : (kind ≡ 3 → ⊥) → (kind ≡ 17 → ⊥) → Meaning.Itself ≡ MeansLeaf
  unfolding leaf_meaning
  no_name a b = rw (ne_eqb kind 3 a, ne_eqb kind 17 b)

  kind_3 : (r : Meaning) → kind ≡ 3 → RightParameter names s finds places scope v r → RightMeaning names s finds places scope kind v r
  kind_3 r e f S h ps ts st l k m w =
      let q = leaf_3 l v (k ∙ e) m in
      rw q (f S h ps ts st (subst (λ (x : Leaf). KnownIn scope places (leaf x)) q w))

  kind_17 : (i : ℕ) → kind ≡ 17 → i ≡ id_found (get_or finds v 0) → RightMeaning names s finds places scope kind v (Meaning.Id i)
  unfolding Told leaf_meant
  kind_17 i e f S h ps ts st l k m w = rw (leaf_17 l v (k ∙ e) m) (resolved_is S finds h v i f)

  kind_other : (kind ≡ 3 → ⊥) → (kind ≡ 17 → ⊥) → RightMeaning names s finds places scope kind v Meaning.Itself
  unfolding Told value_of
  kind_other a b S h ps ts st l k m w =
      let e = leaf_other S ps ts l (λ x. a (sym k ∙ x)) (λ x. b (sym k ∙ x)) in
      (e, ap value_of e ∙ leaf_not l (λ x. a (sym k ∙ x)))

  pub meaning_right : (w : Meaning) → w ≡ MeansLeaf → RightMeaning names s finds places scope kind v w
  meaning_right w q =
      rw q
      (by_cases (ℕ_discrete kind 3)
      (λ e. is (plain _ e refl) (kind_3 _ e (name_right names s finds places v scope)))
      (λ a. by_cases (ℕ_discrete kind 17) (λ e. is (qualified_name _ e refl) (kind_17 _ e refl)) (λ b. is (no_name a b) (kind_other a b))))
    where
      is : {m : Meaning} → m ≡ MeansLeaf → RightMeaning names s finds places scope kind v m → RightMeaning names s finds places scope kind v MeansLeaf
      is e h = subst (λ (m : Meaning). RightMeaning names s finds places scope kind v m) e h

  module _ (w : Meaning) (f : RightMeaning names s finds places scope kind v w) where
    told_as : (o : Meaning) → w ≡ o → RightMeaning names s finds places scope kind v o
    told_as o e = rw (← e) f

    pub value_itself : w ≡ Meaning.Itself → (S : Schema) → RightLeaf names S s finds places scope kind v Value.NotName
    unfolding Told
    value_itself e S h ps ts st l k m q = sym (told_as _ e S h ps ts st l k m q).1

    pub value_id : (i : ℕ) → w ≡ Meaning.Id i → (S : Schema) → RightLeaf names S s finds places scope kind v (Value.Id i)
    unfolding Told value_of leaf_value
    value_id i e S h ps ts st l k m q = sym (ap value_of (told_as _ e S h ps ts st l k m q))

    pub value_type : (p : ℕ) (r : Value) → w ≡ Meaning.Type p → RightValue names s p r → (S : Schema) → RightLeaf names S s finds places scope kind v r
    unfolding Told
    value_type p r e g S h ps ts st l k m q = let t = told_as _ e S h ps ts st l k m q in g _ t.0 t.1

    pub value_not : w ≡ Meaning.NotName → (S : Schema) → RightLeaf names S s finds places scope kind v Value.NotName
    unfolding Told
    value_not e S h ps ts st l k m q = sym (told_as _ e S h ps ts st l k m q).1

-- by the shape of a head
abbrev shape_value : Head → Value
shape_value (Head.Leaf k g v n) = cond (eqb k 3) (Value.Id v) Value.NotName
shape_value (Head.One k n) = Value.NotName
shape_value (Head.Two k n) = Value.NotName
shape_value (Head.Sized n) = Value.NotName
shape_value (Head.Generic v n) = Value.NotName
shape_value (Head.Refused r p) = Value.NotName

by_shape : (o : Outcome Node) → shape_value (shape o) ≡ head_value o
unfolding leaf_value
by_shape (done (none (primitive p)) n) = refl
by_shape (done (none (sub_byte g b)) n) = refl
by_shape (done (none (semantic m)) n) = refl
by_shape (done (none (named i)) n) = refl
by_shape (done (none (bits_inline ns)) n) = refl
by_shape (done (none (qualified i)) n) = refl
by_shape (done (one w) n) = refl
by_shape (done (two p) n) = refl
by_shape (done sized n) = refl
by_shape (done (applied v) n) = refl
by_shape (refused r p) = refl

-- which slot a type names
module _ (names : ℕ) (s : List ℕ) (at : ℕ) where
  abbrev Shape : Head → Type 0
  Shape x = shape (read (head_at Resolved names) s at) ≡ x

  type_name : (k g v n : ℕ) → Shape (Head.Leaf k g v n) → k ≡ 3 → RightValue names s at (Value.Id v)
  unfolding value_of leaf_value
  type_name k g v n x e t end q =
      let p = parts Resolved names s at 32 (λ z. omega arith) _ x t end q in
      sym (ap value_of (p.1 ∙ ap leaf (leaf_3 p.0 v (p.2 ∙ e) p.4)))

  type_leaf : (k g v n : ℕ) → Shape (Head.Leaf k g v n) → (k ≡ 3 → ⊥) → RightValue names s at Value.NotName
  unfolding value_of
  type_leaf k g v n x e t end q =
      let p = parts Resolved names s at 32 (λ z. omega arith) _ x t end q in
      sym (ap value_of p.1 ∙ leaf_not p.0 (λ z. e (sym p.2 ∙ z)))

  type_one : (k n : ℕ) → Shape (Head.One k n) → RightValue names s at Value.NotName
  unfolding value_of
  type_one k n x t end q = let p = parts Resolved names s at 32 (λ z. omega arith) _ x t end q in sym (ap value_of p.2)

  type_two : (k n : ℕ) → Shape (Head.Two k n) → RightValue names s at Value.NotName
  unfolding value_of
  type_two k n x t end q = let p = parts Resolved names s at 32 (λ z. omega arith) _ x t end q in sym (ap value_of p.4)

  type_sized : (n : ℕ) → Shape (Head.Sized n) → RightValue names s at Value.NotName
  unfolding value_of
  type_sized n x t end q = let p = parts Resolved names s at 32 (λ z. omega arith) _ x t end q in sym (ap value_of p.3)

  type_generic : (v n : ℕ) → Shape (Head.Generic v n) → RightValue names s at Value.NotName
  unfolding value_of
  type_generic v n x t end q = let p = parts Resolved names s at 32 (λ z. omega arith) _ x t end q in sym (ap value_of p.1)

  type_refused : (r n : ℕ) → Shape (Head.Refused r n) → RightValue names s at Value.NotName
  type_refused r n x t end q = absurd (parts Resolved names s at 32 (λ z. omega arith) _ x t end q)

  abbrev ValueHere : Value
  ValueHere = head_value (read (head_at Resolved names) s at)

  -- the code's answers
  pub shape_is : (x : Head) → Shape x → shape_value x ≡ ValueHere
  shape_is x e = ap shape_value (sym e) ∙ by_shape (read (head_at Resolved names) s at)

  pub name_is_lem : (k g v n : ℕ) → Shape (Head.Leaf k g v n) → k ≡ 3 → Value.Id v ≡ ValueHere
  name_is_lem k g v n x e = rw (eq-eqb k 3 e) at (shape_is _ x)

  pub leaf_is : (k g v n : ℕ) → Shape (Head.Leaf k g v n) → (k ≡ 3 → ⊥) → Value.NotName ≡ ValueHere
  leaf_is k g v n x e = rw (ne_eqb k 3 e) at (shape_is _ x)

  -- and they are right
  right_shape : (x : Head) → Shape x → RightValue names s at (shape_value x)
  right_shape (Head.Leaf k g v n) x =
      by_cases (ℕ_discrete k 3) (λ e. rw (eq-eqb k 3 e) (type_name k g v n x e)) (λ e. rw (ne_eqb k 3 e) (type_leaf k g v n x e))
  right_shape (Head.One k n) x = type_one k n x
  right_shape (Head.Two k n) x = type_two k n x
  right_shape (Head.Sized n) x = type_sized n x
  right_shape (Head.Generic v n) x = type_generic v n x
  right_shape (Head.Refused r p) x = type_refused r p x

  pub value_right : (r : Value) → r ≡ ValueHere → RightValue names s at r
  value_right r e = subst (λ (v : Value). RightValue names s at v) (by_shape (read (head_at Resolved names) s at) ∙ sym e) (right_shape _ refl)
