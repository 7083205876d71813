-- The walk over a type and what it is compared with, arm by arm. Assumes nothing.
use Prim.Native.Nat.{ℕ, ◌-◌, ◌^◌}
use mathlib.Core.Path.{◌≡◌, refl, sym, ap, subst, ◌∙◌}
use mathlib.Core.List.{List}
use mathlib.Core.Logic.{⊎_elim}
use native.Mathlib.Omega.{arith}
use borrow.Author.Tests.{eq-eqb, ne_eqb}
use Rattle.number.specs.Grammar.{done, below, read}
use Rattle.number.specs.Answers.{next}
use Rattle.number.specs.declared.Next.{Next}
use Rattle.tree.specs.Tree.{Tree, Leaf, Wrap, Pair, leaf, named, wrap, fixed_array, pair, generic, leaf_kind}
use Rattle.tree.specs.TreeAt.{head_at, tree_at, shape}
use Rattle.tree.specs.declared.Sort.{Sort}
use Rattle.tree.specs.declared.Sort.TheVariants.{Resolved, Expression}
use Rattle.tree.specs.declared.Head.{Head}
use Rattle.tree.proofs.Shapes.{parts, no_tree}
use Rattle.image.specs.Schema.{Schema}
use Rattle.image.specs.declared.Frame.{Frame}
use Rattle.reader.specs.Reading.{schema_of}
use Rattle.view.proofs.Places.{at_same, at_not}
use Rattle.findings.specs.Meaning.{substitute, meaning_of, leaf_meant, value_of, leaf_value}
use Rattle.findings.specs.declared.Value.{Value}
use Rattle.meanings.specs.Rank.{Ranked}
use Rattle.meanings.specs.Places.{AtNames, Sound}
use Rattle.meanings.specs.Scopes as sc
use Rattle.meanings.specs.Scopes.{leaf_meaning, FindsHold, Stands, KnownIn, RightName}
use Rattle.meanings.specs.declared.Scope.{Scope}
use Rattle.meanings.specs.declared.Meaning.{Meaning}
use Rattle.meanings.proofs.Heights.{within}
use Rattle.meanings.proofs.Leaves.{Whole, Told, is_name, leaf_3, meaning_right}
use Rattle.matching.specs.Steps.{node_of, leaf_node, Says, agree, differ, SameSize, SameLeaf, id_answer, ending_at}
use Rattle.matching.specs.Comparing.{meant, LookedUp, ToldHere, MeansHere, SameGeneric, Asked, Compares}
use Rattle.matching.specs.declared.Matched.{Matched}
use Rattle.matching.specs.declared.Node.{Node}
use Rattle.matching.proofs.Trees.{tree_kind, leaf_head, no_generic, kind_of_lem, in_wrap, in_pair, in_array, in_leaf}
use Rattle.matching.proofs.Equality.{equal_or_not}

-- ## Answers

says_map : {A B : Type 0} {r : Matched} {x y : A} {X Y : B} {m n : ℕ} → Says r x y m n → (x ≡ y → X ≡ Y) → (X ≡ Y → x ≡ y) → Says r X Y m n
says_map (agree e f) g h = agree (g e) f
says_map (differ e f) g h = differ (λ q. e (h q)) f

says_same : {A : Type 0} {r : Matched} {x y : A} {m n a b : ℕ} → Says r x y m n → r ≡ Matched.Same a b → (x ≡ y) × (a ≡ m) × (b ≡ n)
says_same (agree e f) g = let q : Matched.Same _ _ ≡ Matched.Same _ _ = sym g ∙ f in (e, cc, cc)
says_same (differ e f) g = let q : Matched.Same _ _ ≡ Matched.Differs = sym g ∙ f in let z : ◌≡◌ {A = ℕ} 0 1 = cc in absurd (omega arith)

says_not : {A : Type 0} {r : Matched} {x y : A} {m n : ℕ} → Says r x y m n → r ≡ Matched.Differs → x ≡ y → ⊥
says_not (agree e f) g = let q : Matched.Differs ≡ Matched.Same _ _ = sym g ∙ f in let z : ◌≡◌ {A = ℕ} 0 1 = cc in absurd (omega arith)
says_not (differ e f) g = e

says_ending : {A : Type 0} {r : Matched} {x y : A} {m n : ℕ} (after : ℕ) → Says r x y m n → Says (ending_at r after) x y m after
says_ending after (agree e f) = agree e (ap (λ (o : Matched). ending_at o after) f)
says_ending after (differ e f) = differ e (ap (λ (o : Matched). ending_at o after) f)

says_renamed : {A : Type 0} {r o : Matched} {x y : A} {m n : ℕ} → r ≡ o → Says o x y m n → Says r x y m n
says_renamed e (agree f g) = agree f (e ∙ g)
says_renamed e (differ f g) = differ f (e ∙ g)

-- ## Meanings go through the wrappers, and so do the names looked up

module _ (S : Schema) (sort : Sort) (ps : List ℕ) (ts : List Tree) where
  meant_wrap : {x : Tree} (w : Wrap) (e : Tree) → x ≡ wrap w e → meant S sort ps ts x ≡ wrap w (meant S sort ps ts e)
  unfolding meant meaning_of substitute
  meant_wrap w e q = ap (meant S sort ps ts) q ∙ go sort
    where
      go : (sort : Sort) → meant S sort ps ts (wrap w e) ≡ wrap w (meant S sort ps ts e)
      go Resolved = refl
      go Expression = refl

  meant_pair : {x : Tree} (p : Pair) (e f : Tree) → x ≡ pair p e f → meant S sort ps ts x ≡ pair p (meant S sort ps ts e) (meant S sort ps ts f)
  unfolding meant meaning_of substitute
  meant_pair p e f q = ap (meant S sort ps ts) q ∙ go sort
    where
      go : (sort : Sort) → meant S sort ps ts (pair p e f) ≡ pair p (meant S sort ps ts e) (meant S sort ps ts f)
      go Resolved = refl
      go Expression = refl

  meant_array : {x : Tree} (e : Tree) (n : ℕ) → x ≡ fixed_array e n → meant S sort ps ts x ≡ fixed_array (meant S sort ps ts e) n
  unfolding meant meaning_of substitute
  meant_array e n q = ap (meant S sort ps ts) q ∙ go sort
    where
      go : (sort : Sort) → meant S sort ps ts (fixed_array e n) ≡ fixed_array (meant S sort ps ts e) n
      go Resolved = refl
      go Expression = refl

module _ (places : List ℕ) where
  known_as : (sort : Sort) {x y : Tree} → x ≡ y → LookedUp sort places x → LookedUp sort places y
  known_as sort e k = rw (← e) k

  known_wrap : (sort : Sort) {x : Tree} (w : Wrap) (e : Tree) → x ≡ wrap w e → LookedUp sort places x → LookedUp sort places e
  unfolding LookedUp AtNames
  known_wrap Resolved w e q k = tt
  known_wrap Expression w e q k = known_as Expression q k

  known_pair : (sort : Sort) {x : Tree} (p : Pair) (e f : Tree) → x ≡ pair p e f → LookedUp sort places x → LookedUp sort places e × LookedUp sort places f
  unfolding LookedUp AtNames
  known_pair Resolved p e f q k = (tt, tt)
  known_pair Expression p e f q k = known_as Expression q k

  known_array : (sort : Sort) {x : Tree} (e : Tree) (n : ℕ) → x ≡ fixed_array e n → LookedUp sort places x → LookedUp sort places e
  unfolding LookedUp AtNames
  known_array Resolved e n q k = tt
  known_array Expression e n q k = known_as Expression q k

name_same : {i j : ℕ} → leaf (named i) ≡ leaf (named j) → i ≡ j
name_same e = cc

leaf_same : {l k : Leaf} → leaf l ≡ leaf k → l ≡ k
leaf_same e = cc

leaf_node_lem : {k g v b k' g' v' b' : ℕ} → k ≡ k' → g ≡ g' → v ≡ v' → b ≡ b' → node_of (Head.Leaf k g v b) ≡ node_of (Head.Leaf k' g' v' b')
leaf_node_lem e f g h = cc

-- ## What a leaf means

told_as : (names : ℕ) (s : List ℕ) (sort : Sort) (l : Leaf) {x y : Tree} {w o : Meaning} → x ≡ y → w ≡ o → ToldHere names s sort l y w → ToldHere names s sort l x o
told_as names s sort l e f t = rw (e, ← f) t

module _ (names : ℕ) (s finds places : List ℕ) (kind v : ℕ) (sort : Sort) where
  pub here_type : sort ≡ Resolved → (S : Schema) → MeansHere names S s finds places kind v sort Meaning.Itself
  unfolding ToldHere meant
  here_type e S h ps ts st l k n w = rw e

  pub here_expression : sort ≡ Expression → (r : Meaning) → r ≡ leaf_meaning names s finds places Scope.Types kind v → (S : Schema) → MeansHere names S s finds places kind v sort r
  unfolding Stands KnownIn LookedUp meant meaning_of substitute Told ToldHere Whole
  here_expression e r told S h ps ts st l k n w =
      rw e (told_here r (meaning_right names s finds places Scope.Types kind v r told S h ps ts st l k n (subst (λ (x : Sort). LookedUp x places (leaf l)) e w)))
    where
      told_here : (r : Meaning) → Told names s Scope.Types l (leaf_meant S ps ts l) r → ToldHere names s Expression l (leaf_meant S ps ts l) r
      told_here Meaning.Itself t = t.0
      told_here (Meaning.Id i) t = t
      told_here (Meaning.Type q) t = (refl, t.0, t.1)
      told_here Meaning.NotName t = t.0 tt

-- ## Generics

module _ (names : ℕ) (S : Schema) (s places : List ℕ) (a : Node) (q levels : ℕ) (ranked : Ranked S) (w : Value) (told : RightName names levels S s places q Scope.Types w) where
  generic_value : (ps : List ℕ) (ts : List Tree) → Sound names s ps ts places → (v : ℕ) (u : Tree) (n : ℕ) → read (tree_at Expression names levels) s q ≡ done (generic v u) n
      → w ≡ value_of (meaning_of S ps ts (generic v u))
  unfolding meaning_of Stands
  generic_value ps ts st v u n e = told ps ts st (generic v u) n e 512 (within S ranked (generic v u))

  pub generic_id : (i after : ℕ) (r : Matched) → w ≡ Value.Id i → Next.At after ≡ next (read (tree_at Expression names levels) s q) → r ≡ id_answer a i after
      → SameGeneric names S s places a q levels r
  generic_id i after r e f g ps ts st v u n h =
      (i, is_name _ i (sym (generic_value ps ts st v u n h) ∙ e), g ∙ ap (id_answer a i) (at_same (sym f) (ap next h)))

  pub generic_cut : (x y : ℕ) (r : Matched) → Next.Refused x y ≡ next (read (tree_at Expression names levels) s q) → SameGeneric names S s places a q levels r
  generic_cut x y r f ps ts st v u n h = absurd (at_not (sym f) (ap next h))

  pub generic_not : (r : Matched) → w ≡ Value.NotName → SameGeneric names S s places a q levels r
  unfolding meaning_of substitute value_of leaf_value
  generic_not r e ps ts st v u n h = absurd (no_value (sym e ∙ generic_value ps ts st v u n h))
    where
      no_value : {i : ℕ} → Value.NotName ≡ Value.Id i → ⊥
      no_value e = let z : ◌≡◌ {A = ℕ} 0 1 = cc in omega arith

-- ## The arms

module _ (names : ℕ) (S : Schema) (s places : List ℕ) (p q levels : ℕ) (sort : Sort) where
  some_level : {e : Tree} {n : ℕ} → read (tree_at sort names levels) s q ≡ done e n → levels ≡ 0 → ⊥
  some_level rq z = no_tree sort names s q levels z _ _ rq

  pub compare_refused : (r : Matched) (x y : ℕ) → shape (read (head_at sort names) s q) ≡ Head.Refused x y → Compares names S s places p q levels sort r
  compare_refused r x y g d t m rt ps ts st e n rq k = absurd (parts sort names s q levels (some_level rq) _ g e n rq)

  module _ (a : Node) (x : a ≡ node_of (shape (read (head_at Resolved names) s p))) where
    -- the name of a slot
    id_says : (i after : ℕ) (d : ℕ) (t : Tree) (m : ℕ) → read (tree_at Resolved names d) s p ≡ done t m → Says (id_answer a i after) t (leaf (named i)) m after
    unfolding id_answer tree_kind
    id_says i after d t m rt = ⊎_elim is not (equal_or_not a.kind 3)
      where
        not : (a.kind ≡ 3 → ⊥) → Says (id_answer a i after) t (leaf (named i)) m after
        not y = differ (λ f. y (kind_of_lem names s p a x d t m rt ∙ ap tree_kind f)) (simp (ne_eqb _ _ y))

        is : a.kind ≡ 3 → Says (id_answer a i after) t (leaf (named i)) m after
        is y =
            let c = in_leaf names s p a x d t m rt (named i) y in
            let z : t ≡ leaf (named a.number) = c.1 ∙ ap leaf (leaf_3 c.0 a.number (sym (ap (λ (z : Node). z.kind) c.3) ∙ y) (sym (ap (λ (z : Node). z.number) c.3))) in
            let e : a.next ≡ m = ap (λ (z : Node). z.next) c.3 in
            ⊎_elim
            (λ w. agree (z ∙ ap (λ (n : ℕ). leaf (named n)) w) (simp (eq-eqb a.kind 3 y, eq-eqb a.number i w, e)))
            (λ w. differ (λ f. w (name_same (sym z ∙ f))) (simp (eq-eqb a.kind 3 y, ne_eqb a.number i w)))
            (equal_or_not a.number i)

    module _ (k g v b : ℕ) (f : shape (read (head_at sort names) s q) ≡ Head.Leaf k g v b) (finds : List ℕ) (holds : FindsHold S finds) (w : Meaning) (told : (S : Schema) → MeansHere names S s finds places k v sort w) where
      -- what is said of the leaf that stands there
      leaf_told : (o : Meaning) → w ≡ o → (ps : List ℕ) (ts : List Tree) → Sound names s ps ts places
          → (e : Tree) (n : ℕ) → read (tree_at sort names levels) s q ≡ done e n → LookedUp sort places e
          → (l : Leaf) × (e ≡ leaf l) × (b ≡ n) × (node_of (Head.Leaf k g v b) ≡ leaf_node l n) × ToldHere names s sort l (meant S sort ps ts e) o
      leaf_told o y ps ts st e n rq kn =
          let c = parts sort names s q levels (some_level rq) _ f e n rq in (
            c.0,
            c.1,
            c.5,
            leaf_node_lem (sym c.2) (sym c.3) (sym c.4) c.5,
            told_as names s sort c.0 (ap (meant S sort ps ts) c.1) y (told S holds ps ts st c.0 c.2 c.4 (known_as places sort c.1 kn)),
          )

      pub leaf_itself : w ≡ Meaning.Itself → (node : Node) → node ≡ node_of (Head.Leaf k g v b) → (r : Matched) → SameLeaf names s p q a node r → Compares names S s places p q levels sort r
      unfolding ToldHere tree_kind
      leaf_itself y node is r rl d t m rt ps ts st e n rq kn =
          let o = leaf_told Meaning.Itself y ps ts st e n rq kn in
          let z = o.4 in
          let nd : node ≡ leaf_node o.0 n = is ∙ o.3 in
          let kd : node.kind ≡ leaf_kind o.0 = ap (λ (i : Node). i.kind) nd in
          ⊎_elim
          (λ u.
          let c = in_leaf names s p a x d t m rt o.0 (u ∙ kd) in
          says_map (rl.leaves c.0 m c.2 c.3 sort o.0 n (leaf_head sort names levels s q e o.0 n rq o.1) nd)
          (λ i. c.1 ∙ ap leaf i ∙ sym z) (λ i. leaf_same (sym c.1 ∙ i ∙ z)))
          (λ u. differ (λ i. u (kind_of_lem names s p a x d t m rt ∙ ap tree_kind (i ∙ z) ∙ sym kd)) (rl.kinds u))
          (equal_or_not a.kind node.kind)

      pub leaf_id : (i : ℕ) → w ≡ Meaning.Id i → (r : Matched) → r ≡ id_answer a i b → Compares names S s places p q levels sort r
      unfolding ToldHere
      leaf_id i y r u d t m rt ps ts st e n rq kn =
          let o = leaf_told (Meaning.Id i) y ps ts st e n rq kn in
          says_renamed (u ∙ ap (id_answer a i) o.2) (says_map (id_says i n d t m rt) (λ c. c ∙ sym o.4) (λ c. c ∙ o.4))

      pub leaf_type : (at : ℕ) → w ≡ Meaning.Type at → (r₀ r : Matched) → Compares names S s places p at 32 Resolved r₀ → r ≡ ending_at r₀ b
          → Compares names S s places p q levels sort r
      unfolding ToldHere LookedUp meant
      leaf_type at y r₀ r i u d t m rt ps ts st e n rq kn =
          let o = leaf_told (Meaning.Type at) y ps ts st e n rq kn in
          let z = o.4 in
          says_renamed (u ∙ ap (ending_at r₀) o.2) (says_ending n (i d t m rt ps ts st _ z.1 z.2 tt))

      pub leaf_none : w ≡ Meaning.NotName → (r : Matched) → Compares names S s places p q levels sort r
      unfolding ToldHere
      leaf_none y r d t m rt ps ts st e n rq kn = absurd (leaf_told Meaning.NotName y ps ts st e n rq kn).4

    module _ (v b : ℕ) (g : shape (read (head_at sort names) s q) ≡ Head.Generic v b) where
      pub compare_generic : (r : Matched) → SameGeneric names S s places a q levels r → Compares names S s places p q levels sort r
      unfolding meant
      compare_generic r i d t m rt ps ts st e n rq kn =
          let o = parts sort names s q levels (some_level rq) _ g e n rq in
          go sort rq o.0 o.1
        where
          go : (sort : Sort) → read (tree_at sort names levels) s q ≡ done e n → (u : Tree) → e ≡ generic v u → Says r t (meant S sort ps ts e) m n
          go Resolved rd u f = absurd (no_generic names levels s q v u e n rd f)
          go Expression rd u f =
              let c = i ps ts st v u n (rd ∙ ap (λ (y : Tree). done y n) f) in
              let z : meaning_of S ps ts e ≡ leaf (named c.0) = ap (meaning_of S ps ts) f ∙ c.1 in
              says_renamed c.2 (says_map (id_says c.0 n d t m rt) (λ j. j ∙ sym z) (λ j. j ∙ z))

    module _ (k b : ℕ) (g : shape (read (head_at sort names) s q) ≡ Head.One k b) where
      pub one_same : a.kind ≡ k → (r : Matched) → Compares names S s places a.next b (levels - 1) sort r → Compares names S s places p q levels sort r
      one_same y r i d t m rt ps ts st e n rq kn =
          let o = parts sort names s q levels (some_level rq) _ g e n rq in
          let c = in_wrap names s p a x d t m rt o.0 (y ∙ sym o.3) in
          let z = meant_wrap S sort ps ts o.0 o.1 o.2 in
          says_map (i (d - 1) c.0 m c.2 ps ts st o.1 n o.4 (known_wrap places sort o.0 o.1 o.2 kn)) (wraps c.1 z) (unwraps c.1 z)
        where
          wraps : {t u T X : Tree} {w : Wrap} → T ≡ wrap w t → X ≡ wrap w u → t ≡ u → T ≡ X
          wraps a b c = cc

          unwraps : {t u T X : Tree} {w : Wrap} → T ≡ wrap w t → X ≡ wrap w u → T ≡ X → t ≡ u
          unwraps a b c = cc

      pub one_differs : (a.kind ≡ k → ⊥) → Compares names S s places p q levels sort Matched.Differs
      unfolding tree_kind
      one_differs y d t m rt ps ts st e n rq kn =
          let o = parts sort names s q levels (some_level rq) _ g e n rq in
          let z = meant_wrap S sort ps ts o.0 o.1 o.2 in
          differ (λ f. y (kind_of_lem names s p a x d t m rt ∙ ap tree_kind (f ∙ z) ∙ o.3)) refl

    module _ (k b : ℕ) (g : shape (read (head_at sort names) s q) ≡ Head.Two k b) where
      pub two_differs : (a.kind ≡ k → ⊥) → Compares names S s places p q levels sort Matched.Differs
      unfolding tree_kind
      two_differs y d t m rt ps ts st e n rq kn =
          let o = parts sort names s q levels (some_level rq) _ g e n rq in
          let z = meant_pair S sort ps ts o.0 o.1 o.2 o.4 in
          differ (λ f. y (kind_of_lem names s p a x d t m rt ∙ ap tree_kind (f ∙ z) ∙ o.5)) refl

      module _ (y : a.kind ≡ k) (first : Matched) (i : Compares names S s places a.next b (levels - 1) sort first) where
        pub two_first : first ≡ Matched.Differs → Compares names S s places p q levels sort Matched.Differs
        two_first v d t m rt ps ts st e n rq kn =
            let o = parts sort names s q levels (some_level rq) _ g e n rq in
            let c = in_pair names s p a x d t m rt o.0 (y ∙ sym o.5) in
            let z = meant_pair S sort ps ts o.0 o.1 o.2 o.4 in
            let u = known_pair places sort o.0 o.1 o.2 o.4 kn in
            differ (λ f. says_not (i (d - 1) c.0 c.2 c.4 ps ts st o.1 o.3 o.6 u.0) v (firsts c.3 z f)) refl
          where
            firsts : {t u t' u' T X : Tree} {w : Pair} → T ≡ pair w t u → X ≡ pair w t' u' → T ≡ X → t ≡ t'
            firsts a b c = cc

        pub two_second : (m₁ n₁ : ℕ) → first ≡ Matched.Same m₁ n₁ → (r : Matched) → Compares names S s places m₁ n₁ (levels - 1) sort r
            → Compares names S s places p q levels sort r
        two_second m₁ n₁ v r j d t m rt ps ts st e n rq kn =
            let o = parts sort names s q levels (some_level rq) _ g e n rq in
            let c = in_pair names s p a x d t m rt o.0 (y ∙ sym o.5) in
            let z = meant_pair S sort ps ts o.0 o.1 o.2 o.4 in
            let u = known_pair places sort o.0 o.1 o.2 o.4 kn in
            let f = says_same (i (d - 1) c.0 c.2 c.4 ps ts st o.1 o.3 o.6 u.0) v in
            says_map
            (j (d - 1) c.1 m (ap (read (tree_at Resolved names (d - 1)) s) f.1 ∙ c.5) ps ts st o.2 n (ap (read (tree_at sort names (levels - 1)) s) f.2 ∙ o.7) u.1)
            (both c.3 z f.0) (seconds c.3 z)
          where
            both : {t u t' u' T X : Tree} {w : Pair} → T ≡ pair w t u → X ≡ pair w t' u' → t ≡ t' → u ≡ u' → T ≡ X
            both a b c d = cc

            seconds : {t u t' u' T X : Tree} {w : Pair} → T ≡ pair w t u → X ≡ pair w t' u' → T ≡ X → u ≡ u'
            seconds a b c = cc

    module _ (b : ℕ) (g : shape (read (head_at sort names) s q) ≡ Head.Sized b) where
      pub sized_differs : (a.kind ≡ 6 → ⊥) → Compares names S s places p q levels sort Matched.Differs
      unfolding tree_kind
      sized_differs y d t m rt ps ts st e n rq kn =
          let o = parts sort names s q levels (some_level rq) _ g e n rq in
          let z = meant_array S sort ps ts o.0 o.2 o.3 in
          differ (λ f. y (kind_of_lem names s p a x d t m rt ∙ ap tree_kind (f ∙ z))) refl

      module _ (y : a.kind ≡ 6) (first : Matched) (i : Compares names S s places a.next b (levels - 1) sort first) where
        pub sized_first : first ≡ Matched.Differs → Compares names S s places p q levels sort Matched.Differs
        sized_first v d t m rt ps ts st e n rq kn =
            let o = parts sort names s q levels (some_level rq) _ g e n rq in
            let c = in_array names s p a x d t m rt y in
            let z = meant_array S sort ps ts o.0 o.2 o.3 in
            let u = known_array places sort o.0 o.2 o.3 kn in
            differ (λ f. says_not (i (d - 1) c.0 c.2 c.4 ps ts st o.0 o.1 o.4 u) v (elements c.3 z f)) refl
          where
            elements : {t u T X : Tree} {k l : ℕ} → T ≡ fixed_array t k → X ≡ fixed_array u l → T ≡ X → t ≡ u
            elements a b c = cc

        pub sized_second : (m₁ n₁ : ℕ) → first ≡ Matched.Same m₁ n₁ → (r : Matched) → SameSize s m₁ n₁ r → Compares names S s places p q levels sort r
        sized_second m₁ n₁ v r j d t m rt ps ts st e n rq kn =
            let o = parts sort names s q levels (some_level rq) _ g e n rq in
            let c = in_array names s p a x d t m rt y in
            let z = meant_array S sort ps ts o.0 o.2 o.3 in
            let u = known_array places sort o.0 o.2 o.3 kn in
            let f = says_same (i (d - 1) c.0 c.2 c.4 ps ts st o.0 o.1 o.4 u) v in
            says_map (j c.1 m (ap (below (2 ^ 64) s) f.1 ∙ c.5) o.2 n (ap (below (2 ^ 64) s) f.2 ∙ o.5))
            (both c.3 z f.0) (sizes c.3 z)
          where
            both : {t u T X : Tree} {k l : ℕ} → T ≡ fixed_array t k → X ≡ fixed_array u l → t ≡ u → k ≡ l → T ≡ X
            both a b c d = cc

            sizes : {t u T X : Tree} {k l : ℕ} → T ≡ fixed_array t k → X ≡ fixed_array u l → T ≡ X → k ≡ l
            sizes a b c = cc

-- ## What each call asks for

pub asked_level : {s starts : List ℕ} {f : Frame} {finds places : List ℕ} {p q levels : ℕ} {sort : Sort} → Asked s starts f finds places p q levels sort → levels ≡ 0 → ⊥
asked_level j z = no_tree _ _ _ _ _ z j.tree j.end j.reads

module _ (s starts : List ℕ) (f : Frame) (finds places : List ℕ) (p q levels : ℕ) (sort : Sort)
    (a : Node) (x : a ≡ node_of (shape (read (head_at Resolved f.names) s p))) (j : Asked s starts f finds places p q levels sort) where
  pub asked_type : (k g v b : ℕ) → shape (read (head_at sort f.names) s q) ≡ Head.Leaf k g v b → (w : Meaning) → ((S : Schema) → MeansHere f.names S s finds places k v sort w)
      → (at : ℕ) → w ≡ Meaning.Type at → Asked s starts f finds places p at 32 Resolved × (sort ≡ Expression)
  unfolding ToldHere LookedUp
  asked_type k g v b e w told at y =
      let z = (leaf_told f.names (schema_of f.edition s) s places p q levels sort a x k g v b e finds j.ready.holds w told (Meaning.Type at) y j.parameters j.arguments j.sound j.tree j.end j.reads j.known).4 in (
        record {
          ready = j.ready;
          few = omega arith;
          depth = j.depth;
          type = j.type;
          type_end = j.type_end;
          type_read = j.type_read;
          parameters = j.parameters;
          arguments = j.arguments;
          sound = j.sound;
          tree = _;
          end = z.1;
          reads = z.2;
          known = tt;
        },
        z.0,
      )

  pub asked_generic : (v b : ℕ) → shape (read (head_at sort f.names) s q) ≡ Head.Generic v b → sc.Asked s starts f finds places q levels Scope.Types
  unfolding LookedUp KnownIn Stands
  asked_generic v b e = go sort j.reads j.known (parts sort f.names s q levels (asked_level j) _ e j.tree j.end j.reads).1
    where
      go : (sort : Sort) → read (tree_at sort f.names levels) s q ≡ done j.tree j.end → LookedUp sort places j.tree
          → {u : Tree} → j.tree ≡ generic v u → sc.Asked s starts f finds places q levels Scope.Types
      go Resolved rd kn {u} g = absurd (no_generic f.names levels s q v u j.tree j.end rd g)
      go Expression rd kn g =
          record {
            ready = j.ready;
            few = j.few;
            tree = j.tree;
            end = j.end;
            reads = rd;
            known = kn;
            parameters = j.parameters;
            arguments = j.arguments;
            stands = j.sound;
          }

  -- a child of both, one level down
  child : (m n : ℕ) (t : Tree) (t_end : ℕ) → read (tree_at Resolved f.names (j.depth - 1)) s m ≡ done t t_end
      → (e : Tree) (e_end : ℕ) → read (tree_at sort f.names (levels - 1)) s n ≡ done e e_end → LookedUp sort places e → Asked s starts f finds places m n (levels - 1) sort
  child m n t t_end rt e e_end rq kn =
      record {
        ready = j.ready;
        few = omega (arith, j.few);
        depth = j.depth - 1;
        type = t;
        type_end = t_end;
        type_read = rt;
        parameters = j.parameters;
        arguments = j.arguments;
        sound = j.sound;
        tree = e;
        end = e_end;
        reads = rq;
        known = kn;
      }

  pub asked_one : (k b : ℕ) → shape (read (head_at sort f.names) s q) ≡ Head.One k b → a.kind ≡ k → Asked s starts f finds places a.next b (levels - 1) sort
  asked_one k b g y =
      let o = parts sort f.names s q levels (asked_level j) _ g j.tree j.end j.reads in
      let c = in_wrap f.names s p a x j.depth j.type j.type_end j.type_read o.0 (y ∙ sym o.3) in
      child a.next b c.0 j.type_end c.2 o.1 j.end o.4 (known_wrap places sort o.0 o.1 o.2 j.known)

  module _ (k b : ℕ) (g : shape (read (head_at sort f.names) s q) ≡ Head.Two k b) (y : a.kind ≡ k) where
    pub asked_first : Asked s starts f finds places a.next b (levels - 1) sort
    asked_first =
        let o = parts sort f.names s q levels (asked_level j) _ g j.tree j.end j.reads in
        let c = in_pair f.names s p a x j.depth j.type j.type_end j.type_read o.0 (y ∙ sym o.5) in
        child a.next b c.0 c.2 c.4 o.1 o.3 o.6 (known_pair places sort o.0 o.1 o.2 o.4 j.known).0

    pub asked_second : (first : Matched) → Compares f.names (schema_of f.edition s) s places a.next b (levels - 1) sort first → (m n : ℕ) → first ≡ Matched.Same m n
        → Asked s starts f finds places m n (levels - 1) sort
    asked_second first i m n v =
        let o = parts sort f.names s q levels (asked_level j) _ g j.tree j.end j.reads in
        let c = in_pair f.names s p a x j.depth j.type j.type_end j.type_read o.0 (y ∙ sym o.5) in
        let u = known_pair places sort o.0 o.1 o.2 o.4 j.known in
        let z = says_same (i (j.depth - 1) c.0 c.2 c.4 j.parameters j.arguments j.sound o.1 o.3 o.6 u.0) v in
        child m n c.1 j.type_end (ap (read (tree_at Resolved f.names (j.depth - 1)) s) z.1 ∙ c.5)
        o.2 j.end (ap (read (tree_at sort f.names (levels - 1)) s) z.2 ∙ o.7) u.1

  pub asked_element : (b : ℕ) → shape (read (head_at sort f.names) s q) ≡ Head.Sized b → a.kind ≡ 6 → Asked s starts f finds places a.next b (levels - 1) sort
  asked_element b g y =
      let o = parts sort f.names s q levels (asked_level j) _ g j.tree j.end j.reads in
      let c = in_array f.names s p a x j.depth j.type j.type_end j.type_read y in
      child a.next b c.0 c.2 c.4 o.0 o.1 o.4 (known_array places sort o.0 o.2 o.3 j.known)

-- ## The measure: an argument is a type, and a type has no arguments

unfoldable pub weight : Sort → ℕ
weight Resolved = 0
weight Expression = 1

pub no_weight : weight Resolved ≡ 0
unfolding weight
no_weight = refl

pub weight_one : (sort : Sort) → sort ≡ Expression → weight sort ≡ 1
unfolding weight
weight_one sort e = rw e
