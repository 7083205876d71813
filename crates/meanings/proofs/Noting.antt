-- The table of looked-up names: what it says, and the code's steps. Assumes nothing.
use Prim.Native.Nat.{ℕ, zero, suc, ◌+◌, ◌-◌, ◌^◌, ◌≤◌, ◌<◌}
use mathlib.Core.Path.{◌≡◌, refl, sym, ap, ap₂, subst, ◌∙◌}
use mathlib.Core.List.{List}
use mathlib.Core.Bool.{Bool, true, false, cond}
use native.Mathlib.Nat.{pow-succ'}
use native.Mathlib.Omega.{arith}
use native.Mathlib.Decide.{ℕ_discrete}
use lib.ListN.{length, get_or, set, length-set}
use lib.Seq.{get_or-set_same, get_or-set_other}
use lib.Dec.{ltb}
use borrow.Author.Tests.{lt-ltb}
use Rattle.number.specs.Grammar.{Outcome, done, refused, below, read}
use Rattle.number.proofs.Reading.{given, not_done}
use Rattle.number.proofs.InRange.{below_is}
use Rattle.tree.specs.Tree.{Tree, Leaf, leaf, primitive, sub_byte, semantic, named, bits_inline, qualified, wrap, fixed_array, pair, generic, leaf_kind, leaf_number}
use Rattle.tree.specs.TreeAt.{Node, none, one, two, sized, applied, head_at, tree_at, shape}
use Rattle.tree.specs.declared.Sort.TheVariants.{Resolved, Expression}
use Rattle.tree.specs.declared.Head.{Head}
use Rattle.tree.proofs.Shapes.{parts, head_refused, no_tree}
use Rattle.tree.proofs.Nodes.{named_below}
use Rattle.slot.specs.Field.{type_at}
use Rattle.meanings.specs.Occurs.{occurs}
use Rattle.meanings.specs.Places.{AtLeaf, AtNames, IsArgument, argument_place, code_of, found_of, look_leaf, looked_up, Known, Sound, RightArgument, RightLeafLook, LookAsked, RightLook}
use Rattle.meanings.specs.declared.Found.{Found}
use Rattle.meanings.proofs.Arguments.{place_right}
use Rattle.meanings.proofs.Leaves.{leaf_3}

-- what looking up the names of an expression does to the table
pub record Noted (names : ℕ) (s ps : List ℕ) (ts : List Tree) (e : Tree) (before after : List ℕ) : Type 0 where
  pub sound : Sound names s ps ts before → Sound names s ps ts after
  pub grown : (n : ℕ) → Known before n → Known after n
  pub known : AtNames (Known after) e
  pub long : length after ≡ length before

-- a type that was read starts within the bytes
place_within : (names : ℕ) (s : List ℕ) (q : ℕ) (t : Tree) (end : ℕ) → read (type_at names) s q ≡ done t end → q < length s
place_within names s q t end e = go (below 17 s q) refl
  where
    go : (m : Outcome ℕ) → below 17 s q ≡ m → q < length s
    go (done k n) f = let b = below_is s q 17 k n f in omega (arith, b.after, b.within)
    go (refused r p) f = absurd (parts Resolved names s q 32 (λ z. omega arith) _ (head_refused Resolved names s q 32 r p f) t end e)

two_more : (q : ℕ) → found_of (q + 2) ≡ Found.At q
two_more q = let e : q + 2 ≡ suc (suc q) = omega arith in rw e

code_right : (names : ℕ) (s ps : List ℕ) (ts : List Tree) (n : ℕ) (found : Found) → IsArgument names s ps ts n found → length s ≤ 65536 → found_of (code_of found) ≡ found
unfolding IsArgument
code_right names s ps ts n (Found.At q) i l =
    let h : q < 65536 = omega (arith, place_within names s q i.0 i.1 i.2) in
    simp (lt-ltb q 65536 h) (two_more q)
code_right names s ps ts n Found.Nothing i l = refl

code_there : (found : Found) → code_of found ≡ 0 → ⊥
code_there (Found.At q) = go (ltb q 65536)
  where
    go : (b : Bool) → cond b (q + 2) 1 ≡ 0 → ⊥
    go true e = omega arith
    go false e = omega arith
code_there Found.Nothing = λ e. omega arith

module _ (names : ℕ) (s ps : List ℕ) (ts : List Tree) (before : List ℕ) where
  set_noted : (v : ℕ) (found : Found) → IsArgument names s ps ts v found → length s ≤ 65536 → v < length before
      → Noted names s ps ts (leaf (named v)) before (set before v (code_of found))
  unfolding AtNames
  set_noted v found i small l =
      record {
        sound = λ h. record { right = λ n k. right h n k (ℕ_discrete n v) };
        grown = λ n k. grown n k (ℕ_discrete n v);
        known = known_it v refl;
        long = length-set before v (code_of found);
      }
    where
      entry_is : get_or (set before v (code_of found)) v 0 ≡ code_of found
      entry_is = get_or-set_same before v (code_of found) 0 l

      known_it : (n : ℕ) → n ≡ v → Known (set before v (code_of found)) n
      known_it n e z = code_there found (sym entry_is ∙ ap (λ (x : ℕ). get_or (set before v (code_of found)) x 0) (sym e) ∙ z)

      right : Sound names s ps ts before → (n : ℕ) → Known (set before v (code_of found)) n → Dec (n ≡ v)
          → IsArgument names s ps ts n (found_of (get_or (set before v (code_of found)) n 0))
      right h n k (yes e) = rw (e, entry_is, code_right names s ps ts v found i small) i
      right h n k (no e) =
          let g = get_or-set_other before v n (code_of found) 0 e in
          subst (λ (x : ℕ). IsArgument names s ps ts n (found_of x)) (sym g) (h.right n (λ z. k (g ∙ z)))

      grown : (n : ℕ) → Known before n → Dec (n ≡ v) → Known (set before v (code_of found)) n
      grown n k (yes e) = known_it n e
      grown n k (no e) = rw (get_or-set_other before v n (code_of found) 0 e) k

  same_noted : (e : Tree) → AtNames (Known before) e → Noted names s ps ts e before before
  same_noted e k = record { sound = λ x. x; grown = λ n k. k; known = k; long = refl }

-- trees
at_mono : (P Q : ℕ → Type 0) → ((n : ℕ) → P n → Q n) → (e : Tree) → AtNames P e → AtNames Q e
unfolding AtNames
at_mono P Q h (leaf l) k = at_leaf l k
  where
    at_leaf : (l : Leaf) → AtLeaf P l → AtLeaf Q l
    at_leaf (primitive p) k = tt
    at_leaf (sub_byte g b) k = tt
    at_leaf (semantic m) k = tt
    at_leaf (named n) k = h n k
    at_leaf (bits_inline ns) k = tt
    at_leaf (qualified n) k = tt
at_mono P Q h (wrap w e) k = at_mono P Q h e k
at_mono P Q h (fixed_array e n) k = at_mono P Q h e k
at_mono P Q h (pair p e f) k = (at_mono P Q h e k.0, at_mono P Q h f k.1)
at_mono P Q h (generic n e) k = at_mono P Q h e k

module _ (names : ℕ) (s ps : List ℕ) (ts : List Tree) (place : ℕ → Found) (right : (n : ℕ) → IsArgument names s ps ts n (place n)) (small : length s ≤ 65536) where
  leaf_noted : (l : Leaf) (before : List ℕ) → AtLeaf (λ n. n < length before) l → Noted names s ps ts (leaf l) before (look_leaf place l before)
  unfolding AtNames
  leaf_noted (primitive p) before k = same_noted names s ps ts before _ tt
  leaf_noted (sub_byte g b) before k = same_noted names s ps ts before _ tt
  leaf_noted (semantic m) before k = same_noted names s ps ts before _ tt
  leaf_noted (named n) before k = set_noted names s ps ts before n (place n) (right n) small k
  leaf_noted (bits_inline ns) before k = same_noted names s ps ts before _ tt
  leaf_noted (qualified n) before k = same_noted names s ps ts before _ tt

  tree_noted : (e : Tree) (before : List ℕ) → AtNames (λ n. n < length before) e → Noted names s ps ts e before (looked_up place e before)
  unfolding looked_up AtNames
  tree_noted (leaf l) before k = leaf_noted l before k
  tree_noted (wrap w e) before k = let i = tree_noted e before k in record { sound = i.sound; grown = i.grown; known = i.known; long = i.long }
  tree_noted (fixed_array e n) before k = let i = tree_noted e before k in record { sound = i.sound; grown = i.grown; known = i.known; long = i.long }
  tree_noted (generic n e) before k = let i = tree_noted e before k in record { sound = i.sound; grown = i.grown; known = i.known; long = i.long }
  tree_noted (pair p e f) before k =
      let i = tree_noted e before k.0 in
      let j = tree_noted f (looked_up place e before) (at_mono _ _ (λ n l. omega (arith, i.long)) f k.1) in
      record {
        sound = λ h. j.sound (i.sound h);
        grown = λ n h. j.grown n (i.grown n h);
        known = (at_mono _ _ j.grown e i.known, j.known);
        long = j.long ∙ i.long;
      }

-- a name of an expression is one of the names
name_head : (names : ℕ) (s : List ℕ) (at k g v n : ℕ) → shape (read (head_at Expression names) s at) ≡ Head.Leaf k g v n → k ≡ 3 → v < names
name_head names s at k g v n x z = go (read (head_at Expression names) s at) refl x
  where
    at_node : (node : Node) (m : ℕ) → read (head_at Expression names) s at ≡ done node m → shape (done node m) ≡ Head.Leaf k g v n → v < names
    at_node (none l) m e y =
        let a : leaf_kind l ≡ 3 = kind_is_lem y ∙ z in
        let b : leaf_number l ≡ v = number_is y in
        named_below s Expression names at v m (e ∙ ap (λ (j : Leaf). done (none j) m) (leaf_3 l v a b))
      where
        kind_is_lem : {a b c d e f g h : ℕ} → Head.Leaf a b c d ≡ Head.Leaf e f g h → a ≡ e
        kind_is_lem e = cc

        number_is : {a b c d e f g h : ℕ} → Head.Leaf a b c d ≡ Head.Leaf e f g h → c ≡ g
        number_is e = cc
    at_node (one w) m e y = let q : ◌≡◌ {A = ℕ} 0 1 = cc in absurd (omega arith)
    at_node (two p) m e y = let q : ◌≡◌ {A = ℕ} 0 1 = cc in absurd (omega arith)
    at_node sized m e y = let q : ◌≡◌ {A = ℕ} 0 1 = cc in absurd (omega arith)
    at_node (applied i) m e y = let q : ◌≡◌ {A = ℕ} 0 1 = cc in absurd (omega arith)

    go : (m : Outcome Node) → read (head_at Expression names) s at ≡ m → shape m ≡ Head.Leaf k g v n → v < names
    go (done node m) e y = at_node node m e y
    go (refused r p) e y = let q : ◌≡◌ {A = ℕ} 0 1 = cc in absurd (omega arith)

-- so are all
names_below : (names levels : ℕ) (s : List ℕ) (at : ℕ) (e : Tree) (end : ℕ) → read (tree_at Expression names levels) s at ≡ done e end → AtNames (λ n. n < names) e
unfolding AtNames
names_below names zero s at e end q = absurd (no_tree Expression names s at 0 refl e end q)
names_below names (suc levels) s at e end q =
    go (λ n x m r. let d : suc levels - 1 ≡ levels = omega arith in names_below names levels s n x m (rw d at r)) (shape (read (head_at Expression names) s at)) refl
  where
    at_leaf : (l : Leaf) (k g v n : ℕ) → shape (read (head_at Expression names) s at) ≡ Head.Leaf k g v n → leaf_kind l ≡ k → leaf_number l ≡ v → AtLeaf (λ n. n < names) l
    at_leaf (primitive p) k g v n x y z = tt
    at_leaf (sub_byte a b) k g v n x y z = tt
    at_leaf (semantic m) k g v n x y z = tt
    at_leaf (named i) k g v n x y z = omega (arith, name_head names s at k g v n x (sym y))
    at_leaf (bits_inline ns) k g v n x y z = tt
    at_leaf (qualified i) k g v n x y z = tt

    go : ((n : ℕ) (x : Tree) (m : ℕ) → read (tree_at Expression names (suc levels - 1)) s n ≡ done x m → AtNames (λ n. n < names) x)
        → (x : Head) → shape (read (head_at Expression names) s at) ≡ x → AtNames (λ n. n < names) e
    go child (Head.Leaf k g v n) x = let p = parts Expression names s at (suc levels) (λ z. omega arith) _ x e end q in rw p.1 (at_leaf p.0 k g v n x p.2 p.4)
    go child (Head.One k n) x = let p = parts Expression names s at (suc levels) (λ z. omega arith) _ x e end q in rw p.2 (child n p.1 end p.4)
    go child (Head.Generic v n) x = let p = parts Expression names s at (suc levels) (λ z. omega arith) _ x e end q in rw p.1 (child n p.0 end p.2)
    go child (Head.Two k n) x = let p = parts Expression names s at (suc levels) (λ z. omega arith) _ x e end q in rw p.4 (child n p.1 p.3 p.6, child p.3 p.2 end p.7)
    go child (Head.Sized n) x = let p = parts Expression names s at (suc levels) (λ z. omega arith) _ x e end q in rw p.3 (child n p.0 p.1 p.4)
    go child (Head.Refused r z) x = absurd (parts Expression names s at (suc levels) (λ z. omega arith) _ x e end q)

-- a table with a place for each name, once the names of an expression were looked up
pub looked_noted : {names levels : ℕ} {s : List ℕ} {at list start arguments : ℕ} (a : LookAsked names levels s at list start arguments) → length s ≤ 65536
    → (before after : List ℕ) → names ≤ length before → after ≡ looked_up (argument_place names s a.parameters start arguments) a.tree before
    → Noted names s a.parameters a.types a.tree before after
looked_noted {names} {levels} {s} {at} {list} {start} {arguments} a small before after room e =
    rw e
    (tree_noted names s a.parameters a.types (argument_place names s a.parameters start arguments)
    (λ n. place_right names s n a.parameters start arguments a.types a.bound.arguments_end a.bound.arguments_read) small a.tree before
    (at_mono _ _ (λ n l. omega arith) a.tree (names_below names levels s at a.tree a.end a.reads)))

-- ## The code's steps

module _ (names : ℕ) (s : List ℕ) (kind v parameters start arguments : ℕ) (before after : List ℕ) where
  pub look_name : kind ≡ 3 → (found : Found) → RightArgument names s parameters start arguments v found → after ≡ set before v (code_of found)
      → RightLeafLook names s kind v parameters start arguments before after 1
  unfolding occurs
  look_name e found h g ps ts b l k v-is =
      rw (leaf_3 l v (k ∙ e) v-is) (refl, g ∙ ap (λ (x : Found). set before v (code_of x)) (h ps ts b))

  pub look_other : (kind ≡ 3 → ⊥) → after ≡ before → RightLeafLook names s kind v parameters start arguments before after 0
  unfolding occurs
  look_other e a ps ts b l k n = none l (λ x. e (sym k ∙ x))
    where
      none : (l : Leaf) → (leaf_kind l ≡ 3 → ⊥) → (0 ≡ occurs (leaf l)) × (after ≡ look_leaf (argument_place names s ps start arguments) l before)
      none (primitive p) h = (refl, a)
      none (sub_byte g b) h = (refl, a)
      none (semantic m) h = (refl, a)
      none (named n) h = absurd (h refl)
      none (bits_inline ns) h = (refl, a)
      none (qualified n) h = (refl, a)

pub double : (l : ℕ) → (l ≡ 0 → ⊥) → 2 ^ (l - 1) + 2 ^ (l - 1) ≡ 2 ^ l
double zero h = absurd (h refl)
double (suc l) h =
    let d : suc l - 1 ≡ l = omega arith in
    rw (d, pow-succ' 2 l) (omega arith)

module _ (names levels : ℕ) (s : List ℕ) (at list start arguments : ℕ) where
  abbrev Shape : Head → Type 0
  Shape x = shape (read (head_at Expression names) s at) ≡ x

  abbrev Look : Type 0
  Look = LookAsked names levels s at list start arguments

  abbrev pub Inside : (at : ℕ) → Type 0
  Inside n = LookAsked names (levels - 1) s n list start arguments

  -- a part, one level down
  abbrev pub part : Look → (n : ℕ) (e : Tree) (end : ℕ) → read (tree_at Expression names (levels - 1)) s n ≡ done e end → Inside n
  part a n e end q = record { few = omega (arith, a.few); parameters = a.parameters; types = a.types; bound = a.bound; tree = e; end = end; reads = q }

  pub some_level : Look → levels ≡ 0 → ⊥
  some_level a z = no_tree Expression names s at levels z a.tree a.end a.reads

  module _ (a : Look) where
    pub one_inside : (k n : ℕ) → Shape (Head.One k n) → Inside n
    one_inside k n x = let p = parts Expression names s at levels (some_level a) _ x a.tree a.end a.reads in part a n p.1 a.end p.4

    pub generic_inside : (v n : ℕ) → Shape (Head.Generic v n) → Inside n
    generic_inside v n x = let p = parts Expression names s at levels (some_level a) _ x a.tree a.end a.reads in part a n p.0 a.end p.2

    pub sized_inside : (n : ℕ) → Shape (Head.Sized n) → Inside n
    sized_inside n x = let p = parts Expression names s at levels (some_level a) _ x a.tree a.end a.reads in part a n p.0 p.1 p.4

    pub first_inside : (k n : ℕ) → Shape (Head.Two k n) → Inside n
    first_inside k n x = let p = parts Expression names s at levels (some_level a) _ x a.tree a.end a.reads in part a n p.1 p.3 p.6

    pub never_refused : (r z : ℕ) → Shape (Head.Refused r z) → ⊥
    never_refused r z x = parts Expression names s at levels (some_level a) _ x a.tree a.end a.reads

  module _ (before : List ℕ) where
    abbrev Child : (at : ℕ) → (before after : List ℕ) → (count next : ℕ) → Type 0
    Child n b c m d = RightLook names (levels - 1) s n list start arguments b c m d

    abbrev Right : (after : List ℕ) → (count next : ℕ) → Type 0
    Right after count next = RightLook names levels s at list start arguments before after count next

    pub look_leaf_lem : (k g v n : ℕ) → Shape (Head.Leaf k g v n) → (after : List ℕ) (count : ℕ)
        → RightLeafLook names s k v list start arguments before after count → Right after count n
    unfolding occurs looked_up
    look_leaf_lem k g v n x after count i a =
        let p = parts Expression names s at levels (some_level a) _ x a.tree a.end a.reads in
        let j = i a.parameters a.types a.bound p.0 p.2 p.4 in
        rw p.1 (j.0, j.1, p.5)

    pub look_one : (k n : ℕ) → Shape (Head.One k n) → (after : List ℕ) (count next : ℕ) → Child n before after count next → Right after count next
    unfolding occurs looked_up
    look_one k n x after count next i a =
        let p = parts Expression names s at levels (some_level a) _ x a.tree a.end a.reads in
        let j = i (part a n p.1 a.end p.4) in
        rw p.2 (j.0, j.1, j.2)

    pub look_generic : (v n : ℕ) → Shape (Head.Generic v n) → (after : List ℕ) (count next : ℕ) → Child n before after count next → Right after count next
    unfolding occurs looked_up
    look_generic v n x after count next i a =
        let p = parts Expression names s at levels (some_level a) _ x a.tree a.end a.reads in
        let j = i (part a n p.0 a.end p.2) in
        rw p.1 (j.0, j.1, j.2)

    module _ (k n : ℕ) (x : Shape (Head.Two k n)) where
      module _ (middle : List ℕ) (c m : ℕ) (i : Child n before middle c m) where
        pub second_inside : Look → Inside m
        second_inside a =
            let p = parts Expression names s at levels (some_level a) _ x a.tree a.end a.reads in
            let j = i (part a n p.1 p.3 p.6) in
            part a m p.2 a.end (ap (read (tree_at Expression names (levels - 1)) s) j.2 ∙ p.7)

        pub look_two : (after : List ℕ) (d next : ℕ) → Child m middle after d next → Right after (c + d) next
        unfolding occurs looked_up
        look_two after d next i' a =
            let p = parts Expression names s at levels (some_level a) _ x a.tree a.end a.reads in
            let j = i (part a n p.1 p.3 p.6) in
            let j' = i' (part a m p.2 a.end (ap (read (tree_at Expression names (levels - 1)) s) j.2 ∙ p.7)) in
            let place = argument_place names s a.parameters start arguments in
            rw p.4 (ap₂ ◌+◌ j.0 j'.0, j'.1 ∙ ap (looked_up place p.2) j.1, j'.2)

    module _ (n : ℕ) (x : Shape (Head.Sized n)) (after : List ℕ) (c m : ℕ) (i : Child n before after c m) where
      pub look_sized : (z next : ℕ) → below (2 ^ 64) s m ≡ done z next → Right after c next
      unfolding occurs looked_up
      look_sized z next w a =
          let p = parts Expression names s at levels (some_level a) _ x a.tree a.end a.reads in
          let j = i (part a n p.0 p.1 p.4) in
          rw p.3 (j.0, j.1, (given (sym w ∙ ap (below (2 ^ 64) s) j.2 ∙ p.5)).1)

      pub never_cut : (r z : ℕ) → below (2 ^ 64) s m ≡ refused r z → Look → ⊥
      never_cut r z w a =
          let p = parts Expression names s at levels (some_level a) _ x a.tree a.end a.reads in
          let j = i (part a n p.0 p.1 p.4) in
          not_done w (ap (below (2 ^ 64) s) j.2 ∙ p.5)
