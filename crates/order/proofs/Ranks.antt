-- Where bare names all lead on, no message holds itself; in an order of slots they do. Assumes nothing.
use Prim.Native.Nat.{ℕ, zero, suc, ◌+◌}
use mathlib.Core.Path.{◌≡◌, refl, sym, ap, ◌∙◌}
use mathlib.Core.List.{List, [], ◌∷◌}
use mathlib.Core.Logic.{by_cases}
use mathlib.Core.Bool.{Bool, true, false, cond, ◌||◌, true≢false}
use native.Mathlib.Omega.{arith}
use native.Mathlib.Nat.{zero-add, add-zero, suc-add, add-suc}
use native.Mathlib.Decide.{ℕ_discrete}
use lib.Dec.{ltb}
use lib.ListN.{get_or, set, replicate}
use lib.Seq.{set-set, set-get_or, get_or-set_other}
use borrow.Author.Tests.{ltb-true, ltb-false, le-ltb}
use Rattle.tree.specs.Tree.{Tree, Leaf, leaf, wrap, fixed_array, pair, generic, primitive, sub_byte, semantic, named, bits_inline, qualified}
use Rattle.slot.specs.Field.{Field}
use Rattle.slot.specs.Slot.{Slot, empty, message, enum, flags, union, newtype, config, alias, trait, impl}
use Rattle.image.specs.Schema.{Schema, slot_of}
use Rattle.findings.specs.Finding.{finding}
use Rattle.findings.specs.Endless.{counted, entered, left, Walk, walk_leaf, walk_type, walk_fields, walk_variants, walk_slot, walk_name, start, endless_in, endless_at, endless_of}
use Rattle.findings.specs.declared.RecursionState.{RecursionState}
use Rattle.order.specs.Order.{holds_bare, rank, leads_on, bare_leaf, bare_type, bare_fields, bare_slot, in_order, ordered, is_ordered}

-- a walk that found nothing and left the path as it was
record Same (st r : RecursionState) : Type 0 where
  path : r.path ≡ st.path
  count : r.count ≡ st.count

same : (st : RecursionState) → Same st st
same st = record { path = refl; count = refl }

off_again : (j : ℕ) (st r : RecursionState) → get_or st.path j false ≡ false → Same (entered j true st) r → Same st (left j true r)
unfolding entered left
off_again j st r off a =
    record { path = ap (λ (p : List Bool). set p j false) a.path ∙ set-set st.path j true false ∙ rw off at (set-get_or st.path j false); count = a.count }

both_hold : (d a b : Bool) → cond d (cond a b false) true ≡ true → (cond d a true ≡ true) × (cond d b true ≡ true)
both_hold true true b h = (refl, h)
both_hold true false b h = (h, cc)
both_hold false a b h = (refl, refl)

none_set : (n k : ℕ) → get_or (replicate n false) k false ≡ false
none_set zero k = refl
none_set (suc n) zero = refl
none_set (suc n) (suc k) = none_set n k

-- A test of what leads to what: it holds of each bare name of a slot, on from there only where it held before, and of no slot itself.
pub record Onward (S : Schema) (leads : ℕ → ℕ → Bool) : Type 0 where
  pub all : (i : ℕ) → bare_slot (leads i) (slot_of S i) ≡ true
  pub further : (i j k : ℕ) → holds_bare (slot_of S j) ≡ true → leads i j ≡ true → leads i k ≡ false → leads j k ≡ false
  pub away : (j : ℕ) → holds_bare (slot_of S j) ≡ true → leads j j ≡ false

module _ (S : Schema) (leads : ℕ → ℕ → Bool) (on : Onward S leads) where
  -- a slot leads to nothing that is on the path
  abbrev Clear : ℕ → List Bool → Type 0
  Clear i p = (k : ℕ) → get_or p k false ≡ true → leads i k ≡ false

  clear_on : (i j : ℕ) (p : List Bool) → holds_bare (slot_of S j) ≡ true → leads i j ≡ true → Clear i p → Clear j p
  clear_on i j p b l c k h = on.further i j k b l (c k h)

  clear_joined : (j : ℕ) (p : List Bool) → holds_bare (slot_of S j) ≡ true → Clear j p → Clear j (set p j true)
  clear_joined j p b c k h = by_cases (ℕ_discrete k j)
      (λ e. rw e (on.away j b))
      (λ e. c k (sym (get_or-set_other p j k true false e) ∙ h))

  abbrev Keeps : ℕ → (RecursionState → RecursionState) → Type 0
  Keeps i walk = (st : RecursionState) → Clear i st.path → Same st (walk st)

  -- direct names have to lead on, and others may lead anywhere
  abbrev NamesKeep : ℕ → Walk → Type 0
  NamesKeep i name = (j : ℕ) (d : Bool) → cond d (leads i j) true ≡ true → Keeps i (name j d)

  both_keep : (i : ℕ) {f g : RecursionState → RecursionState} → Keeps i f → Keeps i g → Keeps i (λ st. g (f st))
  both_keep i {f} a b st c =
      let x = a st c in
      let y = b (f st) (λ k e. c k (rw (← x.path) e)) in
      record { path = y.path ∙ x.path; count = y.count ∙ x.count }

  entered_keeps : (i j : ℕ) → Keeps i (entered j false)
  unfolding entered
  entered_keeps i j st c = record { path = refl; count = refl }

  module _ (i : ℕ) (name : Walk) (keep : NamesKeep i name) where
    leaf_keeps : (d : Bool) (l : Leaf) → cond d (bare_leaf (leads i) l) true ≡ true → Keeps i (walk_leaf name d l)
    unfolding walk_leaf bare_leaf
    leaf_keeps d (named j) h st c = keep j d h st c
    leaf_keeps d (primitive p) h st c = same st
    leaf_keeps d (sub_byte g b) h st c = same st
    leaf_keeps d (semantic m) h st c = same st
    leaf_keeps d (bits_inline ns) h st c = same st
    leaf_keeps d (qualified n) h st c = same st

    type_keeps : (d : Bool) (t : Tree) → cond d (bare_type (leads i) t) true ≡ true → Keeps i (walk_type name d t)
    unfolding walk_type bare_type
    type_keeps d (leaf l) h = leaf_keeps d l h
    type_keeps d (wrap w t) h = type_keeps false t refl
    type_keeps d (fixed_array t n) h = type_keeps false t refl
    type_keeps d (pair p t u) h = both_keep i (type_keeps false t refl) (type_keeps false u refl)
    type_keeps d (generic n t) h = type_keeps false t refl

    fields_keep : (d : Bool) (fs : List Field) → cond d (bare_fields (leads i) fs) true ≡ true → Keeps i (walk_fields name d fs)
    unfolding walk_fields bare_fields
    fields_keep d [] h st c = same st
    fields_keep d (f ∷ fs) h st c =
        let b = both_hold d (bare_type (leads i) f.type) (bare_fields (leads i) fs) h in
        both_keep i (type_keeps d f.type b.0) (fields_keep d fs b.1) st c

    variants_keep : (vs : List (List Field)) → Keeps i (walk_variants name vs)
    unfolding walk_variants
    variants_keep [] st c = same st
    variants_keep (v ∷ vs) st c = both_keep i (fields_keep false v refl) (variants_keep vs) st c

  module _ (name : Walk) (keep : (i : ℕ) → NamesKeep i name) (i j : ℕ) (st : RecursionState) (c : Clear i st.path) where
    slot_keeps : (d : Bool) → cond d (leads i j) true ≡ true → get_or st.path j false ≡ false → (x : Slot) → slot_of S j ≡ x → Same st (walk_slot name j d x st)
    unfolding walk_slot entered left bare_slot
    slot_keeps true l off (message m) e =
        let b : holds_bare (slot_of S j) ≡ true = rw e in
        off_again j st _ off (fields_keep j name (keep j) true m.fields (rw e at (on.all j)) (entered j true st) (clear_joined j st.path b (clear_on i j st.path b l c)))
    slot_keeps true l off (newtype n) e = both_keep j (entered_keeps j j) (type_keeps j name (keep j) true n.inner (rw e at (on.all j))) st (clear_on i j st.path (rw e) l c)
    slot_keeps false l off (message m) e = both_keep i (entered_keeps i j) (fields_keep i name (keep i) false m.fields refl) st c
    slot_keeps false l off (newtype n) e = both_keep i (entered_keeps i j) (type_keeps i name (keep i) false n.inner refl) st c
    slot_keeps d l off (union u) e = both_keep i (entered_keeps i j) (variants_keep i name (keep i) u.variants) st c
    slot_keeps d l off empty e = entered_keeps i j st c
    slot_keeps d l off (enum x) e = entered_keeps i j st c
    slot_keeps d l off (flags x) e = entered_keeps i j st c
    slot_keeps d l off config e = entered_keeps i j st c
    slot_keeps d l off (alias x) e = entered_keeps i j st c
    slot_keeps d l off (trait x) e = entered_keeps i j st c
    slot_keeps d l off (impl x) e = entered_keeps i j st c

    name_keeps : (d : Bool) → cond d (leads i j) true ≡ true → (on visited : Bool) → get_or st.path j false ≡ on
        → Same st (cond on (cond d (counted st) st) (cond visited st (walk_slot name j d (slot_of S j) st)))
    name_keeps true l true v e = absurd (true≢false (sym l ∙ c j e))
    name_keeps false l true v e = same st
    name_keeps d l false true e = same st
    name_keeps d l false false e = slot_keeps d l e (slot_of S j) refl

  names_keep : (n i : ℕ) → NamesKeep i (λ j d st. walk_name S n j d st)
  unfolding walk_name
  names_keep zero i j d l st c = same st
  names_keep (suc n) i j d l st c = name_keeps (λ j d st. walk_name S n j d st) (names_keep n) i j st c d l (get_or st.path j false) (get_or st.visited j false) refl

  none_at : (i : ℕ) (x : Slot) → slot_of S i ≡ x → endless_at S i x ≡ []
  unfolding endless_in start bare_slot
  none_at i (message m) e =
      let alone = clear_joined i (replicate 512 false) (rw e) (λ k h. absurd (true≢false (sym h ∙ none_set 512 k))) in
      let r = fields_keep i (λ j d st. walk_name S 513 j d st) (names_keep 513 i) true m.fields (rw e at (on.all i)) (start i) alone in
      ap (λ (n : ℕ). replicate n (finding 1 i m.span 0 0)) r.count
  none_at i empty e = refl
  none_at i (enum x) e = refl
  none_at i (flags x) e = refl
  none_at i (union u) e = refl
  none_at i (newtype n) e = refl
  none_at i config e = refl
  none_at i (alias x) e = refl
  none_at i (trait x) e = refl
  none_at i (impl x) e = refl

  pub none_endless : (ds : List ℕ) → endless_of S ds ≡ []
  unfolding endless_of
  none_endless [] = refl
  none_endless (i ∷ ds) = rw (none_at i (slot_of S i) refl, none_endless ds)

still_above : (bare : Bool) (i j k : ℕ) → ltb j i ≡ true → cond bare (ltb k i) true ≡ false → cond bare (ltb k j) true ≡ false
still_above true i j k l h = le-ltb k j (omega (arith, ltb-true j i l, ltb-false k i h))
still_above false i j k l h = h

module _ (up : Bool) (S : Schema) where
  all_ordered : (i : ℕ) (xs : List Slot) → in_order up S i xs ≡ true → (k : ℕ) → bare_slot (leads_on up S (i + k)) (get_or xs k empty) ≡ true
  unfolding in_order bare_slot
  all_ordered i [] o k = refl
  all_ordered i (x ∷ xs) o zero = rw add-zero (both_hold true _ _ o).0
  all_ordered i (x ∷ xs) o (suc k) = rw (add-suc, ← suc-add i k) (all_ordered (suc i) xs (both_hold true (bare_slot (leads_on up S i) x) _ o).1 k)

  by_rank : ordered up S ≡ true → Onward S (leads_on up S)
  unfolding ordered leads_on slot_of
  by_rank o =
      record {
        all = λ i. rw zero-add at (all_ordered 0 S.slots o i);
        further = λ i j k b l h. still_above (holds_bare (slot_of S k)) (rank up i) (rank up j) (rank up k) (rw b at l) h;
        away = λ j b. rw b (le-ltb (rank up j) (rank up j) (omega arith));
      }

  in_order_lem : ordered up S ≡ true → (ds : List ℕ) → endless_of S ds ≡ []
  in_order_lem o = none_endless S (leads_on up S) (by_rank o)

pub none_in_order : (S : Schema) → is_ordered S ≡ true → (ds : List ℕ) → endless_of S ds ≡ []
unfolding is_ordered
none_in_order S o ds = go (ordered false S) refl o
  where
    go : (b : Bool) → ordered false S ≡ b → (b || ordered true S) ≡ true → endless_of S ds ≡ []
    go true e h = in_order_lem false S e ds
    go false e h = in_order_lem true S h ds
