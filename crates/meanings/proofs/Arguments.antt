-- Parameters and their arguments: what the place of an argument says, and what the look-up has at each of its steps. Assumes
-- nothing.
use Prim.Native.Nat.{ℕ, zero, suc, ◌+◌, ◌-◌, ◌≤◌, ◌<◌, min}
use mathlib.Core.Path.{◌≡◌, refl, sym, ap, subst, ◌∙◌}
use mathlib.Core.List.{List, [], ◌∷◌}
use mathlib.Core.Bool.{Bool, true, false, cond}
use native.Mathlib.Omega.{arith}
use native.Mathlib.Decide.{dec_le}
use lib.Dec.{eqb}
use borrow.Author.Tests.{eq-eqb, ne_eqb}
use Rattle.number.specs.Grammar.{name, count, Grammar, ◌>>=◌, number, many, counted, Outcome, done, refused, and_then, below, read}
use Rattle.number.specs.Answers.{next}
use Rattle.number.specs.declared.Next.{Next}
use Rattle.number.proofs.Reading.{given, not_done, read_number, number_on, number_refused, counted_on, counted_refused, front}
use Rattle.tree.specs.Tree.{Tree}
use Rattle.slot.specs.Field.{type_at}
use Rattle.view.proofs.Places.{at_same, at_not}
use Rattle.findings.specs.Meaning.{argument_of}
use Rattle.meanings.specs.Places.{IsArgument, argument_place, RightArgumentIn, RightArgument}
use Rattle.meanings.specs.Scopes.{first_at, is_first}
use Rattle.meanings.specs.declared.Found.{Found}

none_left : {A : Type 0} (g : Grammar A) (s : List ℕ) (left at : ℕ) (xs : List A) (end : ℕ) → left ≤ 0 → read (many left g) s at ≡ done xs end → xs ≡ []
unfolding many read
none_left g s zero at xs end h e = sym (given e).0
none_left g s (suc left) at xs end h e = absurd (omega arith)

no_types : (ps : List ℕ) (n : ℕ) (d : Tree) → argument_of ps [] n d ≡ d
unfolding argument_of
no_types [] n d = refl
no_types (p ∷ ps) n d = refl

argument_front : {qs : List ℕ} {us : List Tree} {p : ℕ} {ps : List ℕ} {t : Tree} {ts : List Tree} (n : ℕ) (d : Tree) → qs ≡ p ∷ ps → us ≡ t ∷ ts
    → argument_of qs us n d ≡ cond (eqb p n) t (argument_of ps ts n d)
unfolding argument_of
argument_front n d e f = rw (e, f)

module _ (names : ℕ) (s : List ℕ) (n : ℕ) where
  abbrev At : List ℕ → (at arguments : ℕ) → Found
  At ps at k = argument_place names s ps at k n

  place_front : {qs : List ℕ} {p : ℕ} {ps : List ℕ} → qs ≡ p ∷ ps → (at k : ℕ) (t : Tree) (b : ℕ) → read (type_at names) s at ≡ done t b
      → At qs at (suc k) ≡ cond (eqb p n) (Found.At at) (At ps b k)
  unfolding argument_place
  place_front e at k t b q = rw (e, q)

  -- ## What the place says

  later : (ps qs : List ℕ) (ts us : List Tree) → ((d : Tree) → argument_of ps ts n d ≡ argument_of qs us n d) → (f : Found)
      → IsArgument names s qs us n f → IsArgument names s ps ts n f
  unfolding IsArgument
  later ps qs ts us h (Found.At q) i = (i.0, i.1, i.2, λ d. h d ∙ i.3 d)
  later ps qs ts us h Found.Nothing i = λ d. h d ∙ i d

  pub place_right : (ps : List ℕ) (start k : ℕ) (ts : List Tree) (end : ℕ) → read (many k (type_at names)) s start ≡ done ts end
      → IsArgument names s ps ts n (argument_place names s ps start k n)
  unfolding argument_place argument_of IsArgument
  place_right [] start k ts end e = λ d. refl
  place_right (p ∷ ps) start zero ts end e = λ d. ap (λ (l : List Tree). argument_of (p ∷ ps) l n d) (none_left (type_at names) s zero start ts end (omega arith) e)
  place_right (p ∷ ps) start (suc k) ts end e =
      let x = front (type_at names) s k start ts end e in
      subst (λ (f : Found). IsArgument names s (p ∷ ps) ts n f) (sym (place_front {p = p} {ps = ps} refl start k x.first x.middle x.here))
      (go x.first x.others x.middle x.here x.whole (place_right ps x.middle k x.others end x.rest) (eqb p n) refl)
    where
      go : (t : Tree) (us : List Tree) (b : ℕ) → read (type_at names) s start ≡ done t b → ts ≡ t ∷ us → IsArgument names s ps us n (At ps b k)
          → (c : Bool) → eqb p n ≡ c → IsArgument names s (p ∷ ps) ts n (cond c (Found.At start) (At ps b k))
      go t us b h w i true q = (t, b, h, λ d. argument_front {p = p} {ps = ps} n d refl w ∙ ap (λ (x : Bool). cond x t (argument_of ps us n d)) q)
      go t us b h w i false q = later (p ∷ ps) ps ts us (λ d. argument_front {p = p} {ps = ps} n d refl w ∙ ap (λ (x : Bool). cond x t (argument_of ps us n d)) q) (At ps b k) i

  -- ## The look-up's steps

  -- what is left of both runs, and the argument is the one among it
  pub record Rest (ps : List ℕ) (start arguments m k left p more a : ℕ) : Type 0 where
    pub others : List ℕ
    pub types : List Tree
    pub names_read : read (many left (number name names)) s p ≡ done others m
    pub types_read : read (many more (type_at names)) s a ≡ done types k
    pub place : At ps start arguments ≡ At others a more

  -- a name and a type in front
  record Fronts (ps : List ℕ) (start arguments m k left p more a : ℕ) : Type 0 where
    pub first : ℕ
    pub type : Tree
    pub others : List ℕ
    pub types : List Tree
    pub q : ℕ
    pub b : ℕ
    pub name_read : below names s p ≡ done first q
    pub type_read : read (type_at names) s a ≡ done type b
    pub names_left : read (many (left - 1) (number name names)) s q ≡ done others m
    pub types_left : read (many (more - 1) (type_at names)) s b ≡ done types k
    pub place : At ps start arguments ≡ cond (eqb first n) (Found.At a) (At others b (more - 1))

  fronts : {ps : List ℕ} {start arguments m k : ℕ} (left p more a : ℕ) → Rest ps start arguments m k left p more a → 0 < left → 0 < more
      → Fronts ps start arguments m k left p more a
  fronts zero p more a i h g = absurd (omega arith)
  fronts (suc left) p zero a i h g = absurd (omega arith)
  fronts (suc left) p (suc more) a i h g =
      let x = front (number name names) s left p i.others _ i.names_read in
      let y = front (type_at names) s more a i.types _ i.types_read in
      let d : suc left - 1 ≡ left = omega arith in
      let d' : suc more - 1 ≡ more = omega arith in
      record {
        first = x.first;
        type = y.first;
        others = x.others;
        types = y.others;
        q = x.middle;
        b = y.middle;
        name_read = sym (read_number name names s p) ∙ x.here;
        type_read = y.here;
        names_left = rw d x.rest;
        types_left = rw d' y.rest;
        place = rw d' (i.place ∙ place_front x.whole a more y.first y.middle y.here);
      }

  module _ (first count start arguments : ℕ) where
    -- if both runs were read: behind `i` of each
    abbrev pub Left : (i p a : ℕ) → Type 0
    Left i p a =
        (ps : List ℕ) (ts : List Tree) (m k : ℕ) → read (many count (number name names)) s first ≡ done ps m
        → read (many arguments (type_at names)) s start ≡ done ts k → Rest ps start arguments m k (count - i) p (arguments - i) a

    pub at_start : Left 0 first start
    at_start ps ts m k e f =
        let d : count - 0 ≡ count = omega arith in
        let d' : arguments - 0 ≡ arguments = omega arith in
        record { others = ps; types = ts; names_read = rw d e; types_read = rw d' f; place = rw d' refl }

    module _ (i p a : ℕ) (l : Left i p a) where
      pub no_more : min count arguments ≤ i → RightArgumentIn names s first count start arguments n Found.Nothing
      unfolding argument_place
      no_more h ps ts m k e f = let j = l ps ts m k e f in sym (j.place ∙ go j (dec_le count i))
        where
          none : (qs : List ℕ) → At qs a 0 ≡ Found.Nothing
          none [] = refl
          none (x ∷ qs) = refl

          go : (j : Rest ps start arguments m k (count - i) p (arguments - i) a) → Dec (count ≤ i) → At j.others a (arguments - i) ≡ Found.Nothing
          go j (yes c) = ap (λ (qs : List ℕ). At qs a (arguments - i)) (none_left (number name names) s (count - i) p j.others m (omega arith) j.names_read)
          go j (no c) = let d : arguments - i ≡ 0 = omega arith in rw d (none j.others)

      module _ (h : i < min count arguments) where
        here : {ps : List ℕ} {ts : List Tree} {m k : ℕ} → read (many count (number name names)) s first ≡ done ps m → read (many arguments (type_at names)) s start ≡ done ts k
            → Fronts ps start arguments m k (count - i) p (arguments - i) a
        here {ps} {ts} {m} {k} e f = fronts (count - i) p (arguments - i) a (l ps ts m k e f) (omega arith) (omega arith)

        pub name_not : (r z : ℕ) → below names s p ≡ refused r z → (o : Found) → RightArgumentIn names s first count start arguments n o
        name_not r z w o ps ts m k e f = absurd (not_done w (here e f).name_read)

        module _ (v q : ℕ) (w : below names s p ≡ done v q) where
          pub is_here : v ≡ n → RightArgumentIn names s first count start arguments n (Found.At a)
          is_here z ps ts m k e f =
              let x = here e f in
              let y : x.first ≡ n = (given (sym x.name_read ∙ w)).0 ∙ z in
              sym (x.place ∙ rw (eq-eqb _ _ y))

          pub one_on : (v ≡ n → ⊥) → (b : ℕ) → Next.At b ≡ next (read (type_at names) s a) → Left (i + 1) q b
          one_on z b u ps ts m k e f =
              let x = here e f in
              let y = given (sym x.name_read ∙ w) in
              let c : x.b ≡ b = at_same (ap next x.type_read) (sym u) in
              let d : count - (i + 1) ≡ count - i - 1 = omega arith in
              let d' : arguments - (i + 1) ≡ arguments - i - 1 = omega arith in
              record {
                others = x.others;
                types = x.types;
                names_read = rw (d, ← y.1) x.names_left;
                types_read = rw (d', ← c) x.types_left;
                place = rw d' (x.place ∙ rw (ne_eqb _ _ (λ o. z (sym y.0 ∙ o)), c));
              }

          pub type_not : (r z : ℕ) → Next.Refused r z ≡ next (read (type_at names) s a) → (o : Found) → RightArgumentIn names s first count start arguments n o
          type_not r z u o ps ts m k e f = absurd (at_not (sym u) (ap next (here e f).type_read))

-- names behind their count
module _ (names : ℕ) (s : List ℕ) (at n c q : ℕ) (w : below 65537 s at ≡ done c q) where
  pub in_names : (start arguments : ℕ) (o : Found) → RightArgumentIn names s q c start arguments n o
      → RightArgument names s at start arguments n o
  in_names start arguments o h ps ts b =
      h ps ts b.parameters_end b.arguments_end (sym (counted_on (number name names) s at c q w) ∙ b.parameters_read) b.arguments_read

  module _ (ps : List ℕ) (m : ℕ) (e : read (counted (number name names)) s at ≡ done ps m) where
    names_on : read (many c (number name names)) s q ≡ done ps m
    names_on = sym (counted_on (number name names) s at c q w) ∙ e

    first_none : c ≡ 0 → (t d : Tree) → argument_of ps (t ∷ []) n d ≡ d
    unfolding argument_of
    first_none z t d = ap (λ (l : List ℕ). argument_of l (t ∷ []) n d) (none_left (number name names) s c q ps m (omega arith) names_on)

    first_is : (c ≡ 0 → ⊥) → (v k : ℕ) → below names s q ≡ done v k → (t d : Tree) → argument_of ps (t ∷ []) n d ≡ cond (eqb v n) t d
    unfolding argument_of
    first_is z v k u t d = go c z names_on
      where
        go : (l : ℕ) → (l ≡ 0 → ⊥) → read (many l (number name names)) s q ≡ done ps m → argument_of ps (t ∷ []) n d ≡ cond (eqb v n) t d
        go zero y f = absurd (y refl)
        go (suc l) y f =
            let x = front (number name names) s l q ps m f in
            let v' : x.first ≡ v = (given (sym x.here ∙ read_number name names s q ∙ u)).0 in
            rw (x.whole, v', no_types x.others n d)

    first_not : (c ≡ 0 → ⊥) → (r z : ℕ) → below names s q ≡ refused r z → ⊥
    first_not z r k u = go c z names_on
      where
        go : (l : ℕ) → (l ≡ 0 → ⊥) → read (many l (number name names)) s q ≡ done ps m → ⊥
        go zero y f = absurd (y refl)
        go (suc l) y f =
            let x = front (number name names) s l q ps m f in
            not_done u (sym (read_number name names s q) ∙ x.here)

pub names_not : (names : ℕ) (s : List ℕ) (at r q : ℕ) → below 65537 s at ≡ refused r q → (ps : List ℕ) (m : ℕ) → read (counted (number name names)) s at ≡ done ps m → ⊥
names_not names s at r q w ps m e = not_done (counted_refused (number name names) s at r q w) e

-- the first of a counted run, by the code's steps
module _ (names : ℕ) (s : List ℕ) (at n : ℕ) where
  abbrev First : Bool
  First = is_first n (read (first_at names) s at)

  pub no_count : (r q : ℕ) → below 65537 s at ≡ refused r q → false ≡ First
  unfolding first_at
  no_count r q w = sym (ap (is_first n) (number_refused count 65537 (λ c. many (cond (eqb c 0) 0 1) (number name names)) s at r q w))

  module _ (c q : ℕ) (w : below 65537 s at ≡ done c q) where
    behind_count : read (first_at names) s at ≡ read (many (cond (eqb c 0) 0 1) (number name names)) s q
    unfolding first_at
    behind_count = number_on count 65537 (λ c. many (cond (eqb c 0) 0 1) (number name names)) s at c q w

    pub none_counted : c ≡ 0 → false ≡ First
    unfolding many read
    none_counted z = sym (ap (is_first n) behind_count ∙ rw (eq-eqb c 0 z))

    module _ (z : c ≡ 0 → ⊥) where
      one_read : read (first_at names) s at ≡ read (many 1 (number name names)) s q
      one_read = behind_count ∙ rw (ne_eqb c 0 z)

      pub first_here : (v k : ℕ) → below names s q ≡ done v k → eqb v n ≡ First
      unfolding many read ◌>>=◌ and_then
      first_here v k u = sym (ap (is_first n) one_read ∙ rw u)

      pub first_refused : (r k : ℕ) → below names s q ≡ refused r k → false ≡ First
      unfolding many read ◌>>=◌ and_then
      first_refused r k u = sym (ap (is_first n) one_read ∙ rw u)

-- what it says, where the whole run was read
abbrev pub RightFirst : (names : ℕ) → (s : List ℕ) → (at n : ℕ) → Bool → Type 0
RightFirst names s at n r =
    (ps : List ℕ) (m : ℕ) → read (counted (number name names)) s at ≡ done ps m → (t d : Tree) → argument_of ps (t ∷ []) n d ≡ cond r t d

pub first_right : (names : ℕ) (s : List ℕ) (at n : ℕ) → RightFirst names s at n (is_first n (read (first_at names) s at))
first_right names s at n ps m e t d = go (below 65537 s at) refl
  where
    go : (o : Outcome ℕ) → below 65537 s at ≡ o → argument_of ps (t ∷ []) n d ≡ cond (is_first n (read (first_at names) s at)) t d
    go (refused r q) w = absurd (names_not names s at r q w ps m e)
    go (done zero q) w = first_none names s at n 0 q w ps m e refl t d ∙ ap (λ (b : Bool). cond b t d) (none_counted names s at n 0 q w refl)
    go (done (suc c) q) w = at_name (below names s q) refl
      where
        at_name : (o : Outcome ℕ) → below names s q ≡ o → argument_of ps (t ∷ []) n d ≡ cond (is_first n (read (first_at names) s at)) t d
        at_name (done v k) u =
            first_is names s at n (suc c) q w ps m e (λ z. omega arith) v k u t d
            ∙ ap (λ (b : Bool). cond b t d) (first_here names s at n (suc c) q w (λ z. omega arith) v k u)
        at_name (refused r k) u = absurd (first_not names s at n (suc c) q w ps m e (λ z. omega arith) r k u)
