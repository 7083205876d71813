-- Where no loop is reached, numbers can be ranked so that each ranks above those that it leads to at once.
use Rattle.std.specs.Prelude.{◌≡◌, Bool, true, false, cond, ◌||◌, ◌⊎◌, eqb, length}
use Rattle.std.proofs.Math.Path.{refl, subst}
use Rattle.std.proofs.Common.{sym, ap₂, ◌∙◌, inl, inr, ⊎_elim, eqb-true, eq-eqb}
use Prim.Native.Nat.{ℕ, zero, suc, ◌+◌, max, ◌≤◌, ◌<◌}
use native.Mathlib.Omega.{arith}
use Rattle.std.proofs.Math.Decide.{dec_lt, ℕ_discrete}
use Rattle.std.proofs.lemmas.Bool.{false≢true}
use mathlib.Core.List.Memᴰ
use mathlib.Core.List.{List, [], ◌∷◌, ◌++◌, Memᴰ}
use Rattle.std.proofs.Math.Logic.{by_cases}
use Rattle.std.proofs.Math.ListN.{get_or-eq_default}
use Rattle.slot.specs.Slot.{empty}
use Rattle.image.specs.Schema.{Schema, slot_of}
use Rattle.tree.specs.Tree.{Tree}
use Rattle.sizes.specs.Names.{Content, fields, variants, bits, terminal, anything, content_in, content_of, Working, nothing, inserted}
use Rattle.sizes.specs.Lengths.{type_parts, content_parts, parts_of, Reaches, at_once, by_way_of, From, itself, reached, NoLoop, NothingLeadsBack, terminal_parts, terminals_of, NewtypesEnd}

-- ## Marks

pub inserted_cases : (i : ℕ) (w : Working) (x : ℕ) → inserted i w x ≡ true → (x ≡ i) ⊎ (w x ≡ true)
inserted_cases i w x e = go (eqb x i) refl e
  where
    go : (b : Bool) → eqb x i ≡ b → (b || w x) ≡ true → (x ≡ i) ⊎ (w x ≡ true)
    go true p e' = inl (eqb-true x i p)
    go false p e' = inr e'

pub not_marked : (b : Bool) → ¬ (b ≡ true) → b ≡ false
not_marked true n = absurd (n refl)
not_marked false n = refl

-- how many numbers below n are not marked
unfoldable pub unmarked_below : ℕ → Working → ℕ
unmarked_below zero w = 0
unmarked_below (suc n) w = cond (w n) 0 1 + unmarked_below n w

pub unmarked_all : (n : ℕ) (w : Working) → unmarked_below n w ≤ n
unfolding unmarked_below
unmarked_all zero w = omega arith
unmarked_all (suc n) w = go (w n) (unmarked_all n w)
  where
    go : (b : Bool) → unmarked_below n w ≤ n → cond b 0 1 + unmarked_below n w ≤ suc n
    go true h = omega arith
    go false h = omega arith

unmarked_less : (n i : ℕ) (w : Working) → unmarked_below n (inserted i w) ≤ unmarked_below n w
unfolding unmarked_below
unmarked_less zero i w = omega arith
unmarked_less (suc n) i w = go (eqb n i) (w n) (unmarked_below n (inserted i w)) (unmarked_below n w) (unmarked_less n i w)
  where
    go : (b c : Bool) (u v : ℕ) → u ≤ v → cond (b || c) 0 1 + u ≤ cond c 0 1 + v
    go true true u v h = omega arith
    go true false u v h = omega arith
    go false c u v h = omega arith

-- one that is marked now is one less
pub unmarked_fresh : (n i : ℕ) (w : Working) → i < n → w i ≡ false → unmarked_below n (inserted i w) < unmarked_below n w
unfolding unmarked_below
unmarked_fresh zero i w h e = absurd (omega arith)
unmarked_fresh (suc n) i w h e = by_cases (ℕ_discrete n i)
    (λ d. let f : w n ≡ false = subst (λ x. w x ≡ false) (sym d) e in
    let m = unmarked_less n i w in
    rw (eq-eqb n i d, f) (omega arith))
    (λ d. go (eqb n i) (w n) _ _ (λ p. d (eqb-true n i p)) (unmarked_fresh n i w (omega arith) e))
  where
    go : (b c : Bool) (u v : ℕ) → (b ≡ true → ⊥) → u < v → cond (b || c) 0 1 + u < cond c 0 1 + v
    go true c u v d l = absurd (d refl)
    go false c u v d l = omega arith

-- ## Ways

pub reaches_on : {next : ℕ → List ℕ} {i j k : ℕ} → Reaches next i j → Memᴰ k (next j) → Reaches next i k
reaches_on (at_once p) q = by_way_of p (at_once q)
reaches_on (by_way_of p l) q = by_way_of p (reaches_on l q)

-- what is reached from a part is reached from the whole
pub from_part : (next : ℕ → List ℕ) (i j k : ℕ) → Memᴰ j (next i) → From next j k → From next i k
from_part next i j k p (itself e) = reached (at_once (subst (λ x. Memᴰ x (next i)) e p))
from_part next i j k p (reached l) = reached (by_way_of p l)

reaches_from : {next : ℕ → List ℕ} {i j k : ℕ} → Reaches next i j → From next j k → Reaches next i k
reaches_from {next} {i} l (itself e) = subst (Reaches next i) e l
reaches_from (at_once p) (reached m) = by_way_of p m
reaches_from (by_way_of p l) (reached m) = by_way_of p (reaches_from l (reached m))

-- what is reached from what is reached
pub from_from : {next : ℕ → List ℕ} (i j k : ℕ) → From next i j → From next j k → From next i k
from_from {next} i j k (itself e) m = subst (λ x. From next x k) (sym e) m
from_from i j k (reached l) m = reached (reaches_from l m)

pub no_loop_part : (next : ℕ → List ℕ) (i j : ℕ) → Memᴰ j (next i) → NoLoop next i → NoLoop next j
no_loop_part next i j p free k m = free k (from_part next i j k p m)

-- ## Ranks

-- above each of these
unfoldable pub above : (ℕ → ℕ) → List ℕ → ℕ
above r [] = 0
above r (j ∷ js) = max (suc (r j)) (above r js)

above_agree : (r r' : ℕ → ℕ) (js : List ℕ) → ((j : ℕ) → Memᴰ j js → r j ≡ r' j) → above r js ≡ above r' js
unfolding above
above_agree r r' [] h = refl
above_agree r r' (j ∷ js) h =
    ap₂ (λ (x y : ℕ). max (suc x) y) (h j (Memᴰ.head refl)) (above_agree r r' js (λ k p. h k (Memᴰ.tail p)))

pub above_each : (r : ℕ → ℕ) (js : List ℕ) (j : ℕ) → Memᴰ j js → r j < above r js
unfolding above
above_each r [] j p = absurd (Memᴰ.not-nil p)
above_each r (k ∷ js) j p = ⊎_elim (λ e. rw e (omega arith)) (λ q. omega (arith, above_each r js j q)) (Memᴰ.cases_cons p)

pub above_bound : (r : ℕ → ℕ) (b : ℕ) → ((j : ℕ) → r j ≤ b) → (js : List ℕ) → above r js ≤ suc b
unfolding above
above_bound r b h [] = omega arith
above_bound r b h (j ∷ js) = omega (arith, h j, above_bound r b h js)

-- of two lists joined
pub above_append : (r : ℕ → ℕ) (js ks : List ℕ) → above r (js ++ ks) ≡ max (above r js) (above r ks)
unfolding above
above_append r [] ks = omega arith
above_append r (j ∷ js) ks = omega (arith, above_append r js ks)

unfoldable pub rank_within : (next : ℕ → List ℕ) → (times : ℕ) → ℕ → ℕ
rank_within next zero i = 0
rank_within next (suc k) i = above (rank_within next k) (next i)

unfoldable pub rank_of : (next : ℕ → List ℕ) → (n : ℕ) → ℕ → ℕ
rank_of next n i = rank_within next (suc n) i

module _ (next : ℕ → List ℕ) (n : ℕ) where
  within_bound : (k i : ℕ) → rank_within next k i ≤ k
  unfolding rank_within
  within_bound zero i = omega arith
  within_bound (suc k) i = above_bound (rank_within next k) k (within_bound k) (next i)

  rank_bound : (i : ℕ) → rank_of next n i ≤ suc n
  unfolding rank_of
  rank_bound i = within_bound (suc n) i

  -- only numbers below n lead on
  module _ (below : (i j : ℕ) → Memᴰ j (next i) → i < n) where
    -- all that is marked leads to i, so i is not marked
    within_agree : (f g : ℕ) (path : Working) (i : ℕ) → unmarked_below n path < f → unmarked_below n path < g →
        ((x : ℕ) → path x ≡ true → Reaches next x i) → NoLoop next i →
        rank_within next f i ≡ rank_within next g i
    unfolding rank_within
    within_agree zero g path i lf lg leads free = absurd (omega arith)
    within_agree (suc f) zero path i lf lg leads free = absurd (omega arith)
    within_agree (suc f) (suc g) path i lf lg leads free = above_agree (rank_within next f) (rank_within next g) (next i)
        (λ j p. let l = less j p in
        within_agree f g (inserted i path) j (omega arith) (omega arith) (onward j p) (no_loop_part next i j p free))
      where
        less : (j : ℕ) → Memᴰ j (next i) → unmarked_below n (inserted i path) < unmarked_below n path
        less j p = unmarked_fresh n i path (below i j p) (not_marked (path i) (λ e. free i (itself refl) (leads i e)))

        onward : (j : ℕ) → Memᴰ j (next i) → (x : ℕ) → inserted i path x ≡ true → Reaches next x j
        onward j p x e =
            ⊎_elim
            (λ d. subst (λ y. Reaches next y j) (sym d) (at_once p))
            (λ m. reaches_on (leads x m) p)
            (inserted_cases i path x e)

    rank_obeys : (i : ℕ) → NoLoop next i → rank_of next n i ≡ above (rank_of next n) (next i)
    unfolding rank_of rank_within
    rank_obeys i free = let h = unmarked_all n nothing in
        within_agree (suc n) (suc (suc n)) nothing i (omega arith) (omega arith) (λ x e. absurd (false≢true e)) free

    rank_part : (i j : ℕ) → NoLoop next i → Memᴰ j (next i) → rank_of next n j < rank_of next n i
    rank_part i j free p = rw (rank_obeys i free) (above_each (rank_of next n) (next i) j p)

-- ## The ranks of a schema's slots

-- a missing slot has no parts
pub none_missing : (S : Schema) (i : ℕ) → length S.slots ≤ i → content_of S i ≡ anything
unfolding content_of content_in slot_of
none_missing S i h = rw (get_or-eq_default S.slots empty h)

pub part_below : (S : Schema) (i j : ℕ) → Memᴰ j (parts_of S i) → i < length S.slots
unfolding content_parts
part_below S i j p = by_cases (dec_lt i (length S.slots)) (λ h. h)
    (λ h. absurd (Memᴰ.not-nil (subst (λ c. Memᴰ j (content_parts c)) (none_missing S i (omega arith)) p)))

pub terminal_part : (c : Content) (j : ℕ) → Memᴰ j (terminal_parts c) → Memᴰ j (content_parts c)
unfolding terminal_parts content_parts
terminal_part (fields fs) j p = absurd (Memᴰ.not-nil p)
terminal_part (variants vs) j p = absurd (Memᴰ.not-nil p)
terminal_part (bits b) j p = p
terminal_part (terminal t) j p = p
terminal_part anything j p = p

terminal_below : (S : Schema) (i j : ℕ) → Memᴰ j (terminals_of S i) → i < length S.slots
terminal_below S i j p = part_below S i j (terminal_part (content_of S i) j p)

module _ (S : Schema) where
  -- by parts
  unfoldable pub part_rank : ℕ → ℕ
  part_rank i = rank_of (parts_of S) (length S.slots) i

  pub part_rank_lem : (i j : ℕ) → NothingLeadsBack S i → Memᴰ j (parts_of S i) → part_rank j < part_rank i
  unfolding part_rank
  part_rank_lem i j free p = rank_part (parts_of S) (length S.slots) (part_below S) i j free p

  pub part_rank_bound : (i : ℕ) → part_rank i ≤ suc (length S.slots)
  unfolding part_rank
  part_rank_bound i = rank_bound (parts_of S) (length S.slots) i

  -- by terminal types of newtypes alone
  unfoldable pub terminal_rank : ℕ → ℕ
  terminal_rank i = rank_of (terminals_of S) (length S.slots) i

  pub terminal_rank_bound : (i : ℕ) → terminal_rank i ≤ suc (length S.slots)
  unfolding terminal_rank
  terminal_rank_bound i = rank_bound (terminals_of S) (length S.slots) i

  -- of a type
  unfoldable pub type_rank : Tree → ℕ
  type_rank t = above terminal_rank (type_parts t)

  pub type_rank_name : (t : Tree) (j : ℕ) → Memᴰ j (type_parts t) → terminal_rank j < type_rank t
  unfolding type_rank
  type_rank_name t j p = above_each terminal_rank (type_parts t) j p

  pub type_rank_bound : (t : Tree) → type_rank t ≤ suc (suc (length S.slots))
  unfolding type_rank
  type_rank_bound t = above_bound terminal_rank (suc (length S.slots)) terminal_rank_bound (type_parts t)

  module _ (ends : NewtypesEnd S) where
    pub terminal_rank_lem : (i j : ℕ) → Memᴰ j (terminals_of S i) → terminal_rank j < terminal_rank i
    unfolding terminal_rank
    terminal_rank_lem i j p = rank_part (terminals_of S) (length S.slots) (terminal_below S) i j (λ k m. ends k) p

    -- a newtype ranks as its terminal type
    pub terminal_rank_is : (i : ℕ) (t : Tree) → content_of S i ≡ terminal t → terminal_rank i ≡ type_rank t
    unfolding terminal_rank type_rank terminal_parts
    terminal_rank_is i t e =
        rank_obeys (terminals_of S) (length S.slots) (terminal_below S) i (λ k m. ends k)
        ∙ subst (λ c. above terminal_rank (terminal_parts c) ≡ above terminal_rank (type_parts t)) (sym e) refl
