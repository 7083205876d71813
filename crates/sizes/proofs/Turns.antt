-- What the turns leave stored, and the last turn of a slot.
use Rattle.std.specs.Prelude.{◌≡◌, ℕ, Bool, true, false, cond, ◌⊎◌, eqb}
use Rattle.std.proofs.Math.Path.{refl, sym, ap, subst, subst₂}
use Rattle.std.proofs.Common.{◌∙◌, arith, inl, inr, eqb-true, eq-eqb, ne_eqb}
use Rattle.std.proofs.Math.Decide.{ℕ_discrete}
use mathlib.Core.List.Memᴰ
use mathlib.Core.List.{List, [], ◌∷◌, ◌++◌, Memᴰ}
use Rattle.std.proofs.Math.Option.{Option, none, some, none-ne-some, some-ne-none, some-injective}
use Rattle.std.proofs.Math.Logic.{⊎_elim}
use Rattle.slot.specs.Slot.{Slot}
use Rattle.image.specs.Schema.{Schema, slot_of}
use Rattle.sizes.specs.Sizes.{Layout, Size, Operation, Worked, Sized, Over, Resolver, fields_size, union_size}
use Rattle.sizes.specs.Names.{content_in, content_of, State, nothing, inserted, name_size}
use Rattle.sizes.specs.Check.{brought, body_size, own_size, store, Checked, accepted, refused, storing, turn, onward, turns, check_sizes}
use Rattle.sizes.specs.Lengths.{SlotLength, NothingLeadsBack, Encloses, Trusted}
use Rattle.sizes.specs.Demand.{Sizable, is_message, is_union, Declared, Attained, BringsNone, LastTurn}
use Rattle.sizes.proofs.Enclosure.{own_enclosed}
use Rattle.sizes.specs.Steady.{plain_size}
use Rattle.sizes.proofs.Steady.{own_plain, plain_attained}
use Rattle.sizes.proofs.Rank.{from_from}

-- ## One turn

accepted_inj : {st st' : State} → accepted st ≡ accepted st' → st ≡ st'
accepted_inj e = cc

refused_not : {A : Type 0} {o : Operation} {i : ℕ} {st : State} → refused o i ≡ accepted st → A
refused_not e = let z : ◌≡◌ {A = ℕ} 0 1 = cc in absurd (omega arith)

-- what a turn that is not refused leaves stored
pub data Turned (L : Layout) (S : Schema) (st : State) (i : ℕ) : State → Type 0 where
  passed : own_size L S st i ≡ none → Turned L S st i st
  stored : (s : Size) → own_size L S st i ≡ some (Sized s) → Turned L S st i (store i s st)

pub turned : (L : Layout) (S : Schema) (st st' : State) (i : ℕ) → turn L S st i ≡ accepted st' → Turned L S st i st'
unfolding turn storing
turned L S st st' i q = go (own_size L S st i) refl q
  where
    go : (o : Option Worked) → own_size L S st i ≡ o → storing st i o ≡ accepted st' → Turned L S st i st'
    go none e q' = subst (Turned L S st i) (accepted_inj q') (passed e)
    go (some (Sized s)) e q' = subst (Turned L S st i) (accepted_inj q') (stored s e)
    go (some (Over o)) e q' = refused_not q'

pub onward_made : (c : Checked) (next : State → Checked) (final : State) → onward c next ≡ accepted final →
    (st : State) × (c ≡ accepted st) × (next st ≡ accepted final)
unfolding onward
onward_made (accepted st) next final q = (st, refl, q)
onward_made (refused o i) next final q = refused_not q

-- what is stored there afterwards was put there, or was there before
pub store_cases : (i : ℕ) (s : Size) (st : State) (j : ℕ) (s' : Size) → store i s st j ≡ some s' →
    ((j ≡ i) × (s ≡ s')) ⊎ (st j ≡ some s')
unfolding store
store_cases i s st j s' q = go (eqb j i) refl q
  where
    go : (b : Bool) → eqb j i ≡ b → cond b (some s) (st j) ≡ some s' → ((j ≡ i) × (s ≡ s')) ⊎ (st j ≡ some s')
    go true e q' = inl (eqb-true j i e, some-injective s s' q')
    go false e q' = inr q'

pub store_same : (i : ℕ) (s : Size) (st : State) → store i s st i ≡ some s
unfolding store
store_same i s st = rw (eq-eqb i i refl)

pub store_other : (i : ℕ) (s : Size) (st : State) (j : ℕ) → ¬ (j ≡ i) → store i s st j ≡ st j
unfolding store
store_other i s st j d = rw (ne_eqb j i d)

-- of each stored size
abbrev pub Each : (ℕ → Size → Type 0) → State → Type 0
Each P st = (j : ℕ) (s : Size) → st j ≡ some s → P j s

module _ (L : Layout) (S : Schema) where
  -- ## All turns

  pub turns_append : (is js : List ℕ) (st : State) →
      turns L S st (is ++ js) ≡ onward (turns L S st is) (λ st'. turns L S st' js)
  unfolding turns onward
  turns_append [] js st = refl
  turns_append (i ∷ is) js st = go (turn L S st i) (turns_append is js)
    where
      go : (c : Checked) → ((st' : State) → turns L S st' (is ++ js) ≡ onward (turns L S st' is) (λ x. turns L S x js)) →
          onward c (λ st'. turns L S st' (is ++ js)) ≡ onward (onward c (λ st'. turns L S st' is)) (λ st'. turns L S st' js)
      go (accepted st') later = later st'
      go (refused o k) later = refl

  -- the first turn, and then the others
  first_turn : (i : ℕ) (is : List ℕ) (st final : State) → turns L S st (i ∷ is) ≡ accepted final →
      (st' : State) × Turned L S st i st' × (turns L S st' is ≡ accepted final)
  unfolding turns
  first_turn i is st final q =
      let (st', t, q') = onward_made (turn L S st i) (λ x. turns L S x is) final q in
      (st', turned L S st st' i t, q')

  -- what holds of each stored size at first, and of a size worked out where it holds, holds in the end
  pub kept : (P : ℕ → Size → Type 0) → ((st : State) → Each P st → (i : ℕ) (s : Size) → own_size L S st i ≡ some (Sized s) → P i s) →
      (is : List ℕ) (st final : State) → turns L S st is ≡ accepted final → Each P st → Each P final
  unfolding turns
  kept P step [] st final q holds = λ j s e. holds j s (subst (λ x. x j ≡ some s) (sym (accepted_inj q)) e)
  kept P step (i ∷ is) st final q holds =
      let (st', t, q') = first_turn i is st final q in
      kept P step is st' final q' (after st' t)
    where
      after : (st' : State) → Turned L S st i st' → Each P st'
      after st' (passed e) = holds
      after st' (stored s₀ w) = λ j s e. ⊎_elim
          (λ d. subst₂ P (sym d.0) d.1 (step st holds i s₀ w))
          (λ d. holds j s d)
          (store_cases i s₀ st j s e)

  -- a slot that has no turn keeps what is stored
  pub unchanged : (is : List ℕ) (st final : State) → turns L S st is ≡ accepted final → (i : ℕ) → ¬ Memᴰ i is →
      final i ≡ st i
  unfolding turns
  unchanged [] st final q i d = ap (λ (x : State). x i) (sym (accepted_inj q))
  unchanged (j ∷ is) st final q i d =
      let (st', t, q') = first_turn j is st final q in
      unchanged is st' final q' i (λ m. d (Memᴰ.tail m)) ∙ there st' t
    where
      there : (st' : State) → Turned L S st j st' → st' i ≡ st i
      there st' (passed e) = refl
      there st' (stored s w) = store_other j s st i (λ e. d (Memᴰ.head e))

  -- ## The last turn

  body_some : (r : Resolver) (i : ℕ) {slot : Slot} → Sizable slot → body_size L r (content_in S i slot) ≡ none → ⊥
  unfolding body_size content_in
  body_some r i (is_message {m}) e = some-ne-none (fields_size L r m.fields) e
  body_some r i (is_union {u}) e = some-ne-none (union_size L r u.variants) e

  pub own_some : (st : State) (i : ℕ) → Sizable (slot_of S i) → own_size L S st i ≡ none → ⊥
  unfolding own_size content_of
  own_some st i z e = body_some (name_size L S st (inserted i nothing)) i z e

  -- the turns before a place of the list, and those from it on
  apart_at : (before after : List ℕ) (final : State) → S.declared ≡ before ++ after → check_sizes L S ≡ accepted final →
      onward (turns L S (brought S) before) (λ st. turns L S st after) ≡ accepted final
  unfolding check_sizes
  apart_at before after final e q =
      sym (turns_append before after (brought S)) ∙ subst (λ l. turns L S (brought S) l ≡ accepted final) e q

  -- the size worked out at the last turn is the size in the end
  pub at_last : (i : ℕ) (last : LastTurn L S i) (final : State) → check_sizes L S ≡ accepted final → Sizable (slot_of S i) →
      (s : Size) × (own_size L S last.stored i ≡ some (Sized s)) × (final i ≡ some s)
  unfolding onward
  at_last i last final q z =
      let whole = apart_at last.earlier (i ∷ last.later) final last.places q in
      let from_here : turns L S last.stored (i ∷ last.later) ≡ accepted final
      = subst (λ c. onward c (λ st. turns L S st (i ∷ last.later)) ≡ accepted final) last.reached whole in
      let (st', t, q') = first_turn i last.later last.stored final from_here in
      go st' t (unchanged last.later st' final q' i last.not_later)
    where
      go : (st' : State) → Turned L S last.stored i st' → final i ≡ st' i →
          (s : Size) × (own_size L S last.stored i ≡ some (Sized s)) × (final i ≡ some s)
      go st' (passed e) f = absurd (own_some last.stored i z e)
      go st' (stored s w) f = (s, w, f ∙ store_same i s last.stored)

  in_list : (i : ℕ) (is : List ℕ) → Dec (Memᴰ i is)
  in_list i [] = no Memᴰ.not-nil
  in_list i (j ∷ is) = go (ℕ_discrete i j) (in_list i is)
    where
      go : Dec (i ≡ j) → Dec (Memᴰ i is) → Dec (Memᴰ i (j ∷ is))
      go (yes e) d = yes (Memᴰ.head e)
      go (no n) (yes m) = yes (Memᴰ.tail m)
      go (no n) (no n') = no (λ m. elim (Memᴰ.cases_cons m) [ inl e ↦ n e | inr m' ↦ n' m' ])

  last_place : (is : List ℕ) (i : ℕ) → Memᴰ i is →
      (before : List ℕ) × (after : List ℕ) × (is ≡ before ++ (i ∷ after)) × (¬ Memᴰ i after)
  last_place [] i m = absurd (Memᴰ.not-nil m)
  last_place (j ∷ is) i m = go (in_list i is) (last_place is i) (Memᴰ.cases_cons m)
    where
      Place : List ℕ → Type 0
      Place js = (before : List ℕ) × (after : List ℕ) × (js ≡ before ++ (i ∷ after)) × (¬ Memᴰ i after)

      go : Dec (Memᴰ i is) → (Memᴰ i is → Place is) → (i ≡ j) ⊎ Memᴰ i is → Place (j ∷ is)
      go (yes m') later c = let (b, a, e, n) = later m' in (j ∷ b, a, ap (λ (x : List ℕ). j ∷ x) e, n)
      go (no n) later (inl e) = ([], is, ap (λ (x : ℕ). x ∷ is) (sym e), n)
      go (no n) later (inr m') = absurd (n m')

  pub last_turn : (final : State) → check_sizes L S ≡ accepted final → (i : ℕ) → Declared S i → LastTurn L S i
  last_turn final q i d =
      let (before, after, places, not_later) = last_place S.declared i d.listed in
      let whole = apart_at before (i ∷ after) final places q in
      let (so_far, is-so, rest) = onward_made (turns L S (brought S) before) (λ st. turns L S st (i ∷ after)) final whole in
      record { earlier = before; later = after; places = places; not_later = not_later; stored = so_far; reached = is-so }

  -- ## What is stored in the end

  module _ (final : State) (q : check_sizes L S ≡ accepted final) where
    pub all_enclosed : Trusted L S (brought S) → Trusted L S final
    unfolding check_sizes
    all_enclosed trusted = kept (λ i s. Encloses (SlotLength L S i) s) (own_enclosed L S) S.declared (brought S) final q trusted

    -- where the image brings none and nothing leads back, it is the size of the slot by itself
    pub all_plain : BringsNone S → (i : ℕ) (s : Size) → final i ≡ some s → NothingLeadsBack S i →
        plain_size L S i ≡ Sized s
    unfolding check_sizes
    all_plain brings = kept (λ i s. NothingLeadsBack S i → plain_size L S i ≡ Sized s)
        (λ st holds i s w free.
        own_plain L S st i free (λ j m s' e. holds j s' e (λ k m'. free k (from_from i j k m m'))) (Sized s) w)
        S.declared (brought S) final q (λ i s e. absurd (none-ne-some s (sym (brings i) ∙ e)))

    pub all_attained : BringsNone S → (i : ℕ) (s : Size) → final i ≡ some s → NothingLeadsBack S i →
        Attained (SlotLength L S i) s
    all_attained brings i s e free = plain_attained L S i free s (all_plain brings i s e free)
