-- Where nothing that is reached leads back to itself, each slot that is reached has one size, by those of its parts: so each
-- is worked out once, parts first, and the turns give the same. What leads back is as the length rules have it. Assumes nothing.
use mathlib.Core.Path.{◌≡◌, refl, sym, ap, subst, subst₂, ◌∙◌}
use Prim.Native.Nat.{ℕ, ◌<◌, ◌≤◌}
use mathlib.Core.Bool.{Bool, true, false, ◌&&◌, ◌||◌, or-true}
use mathlib.Core.List.Memᴰ
use mathlib.Core.List.{List, [], ◌∷◌, Memᴰ}
use mathlib.Core.Option.{Option, none, some, none-ne-some}
use mathlib.Core.Logic.{◌⊎◌, inl, inr, ◌↔◌, ⊎_elim}
use lib.ListN.{length}
use lib.Dec.{eqb}
use borrow.Author.Tests.{eq-eqb, eqb-true}
use Rattle.slot.specs.Slot.{Slot, empty, message, enum, flags, union, newtype, config, alias, trait, impl}
use Rattle.graph.specs.Ways.{Path, step, onto, has}
use Rattle.graph.specs.Loops.{not_both, path_via, via_path, lowest_has, none_has, has_lowest}
use Rattle.graph.specs.declared.Lowest.{Lowest}
use Rattle.image.specs.Schema.{Schema, slot_of}
use Rattle.sizes.specs.Sizes.{Layout, Size, Open, Worked, Sized, Resolver}
use Rattle.sizes.specs.Names.{content_in, content_of, content_size, Content, State}
use Rattle.sizes.specs.Check.{brought, body_size, own_size, accepted, turn}
use Rattle.sizes.specs.Lengths.{parts_of, content_parts, Reaches, at_once, by_way_of, itself, reached, MadeOf, LeadsTo, NoLoop, NothingLeadsBack}
use Rattle.sizes.specs.Demand.{Declared, BringsNone, Sizable, is_message, is_union}
use Rattle.sizes.specs.Reached.{is_sizable, part_leads, slot_count, part_ways, reached_from, is_reached, leading_back, LeadsBack}
use Rattle.sizes.proofs.Rank.{from_from, terminal_part, part_below, none_missing}
use Rattle.sizes.proofs.Fuel.{Agree, content_agree}
use Rattle.sizes.specs.Steady.{plain_size}
use Rattle.sizes.proofs.Steady.{own_plain, plain_obeys}
use Rattle.sizes.proofs.Turns.{Turned, passed, stored, turned, store_cases, own_some}

-- ## Ways

-- a slot is free of loops where each of its parts is
pub no_loop_whole : (next : ℕ → List ℕ) (i : ℕ) → ((j : ℕ) → Memᴰ j (next i) → NoLoop next j) → NoLoop next i
no_loop_whole next i free k (itself e) r = back (subst (λ (x : ℕ). Reaches next x x) (sym e) r)
  where
    back : Reaches next i i → ⊥
    back (at_once p) = free i p i (itself refl) (at_once p)
    back (by_way_of {j = j} p q) = free j p i (reached q) (by_way_of p q)
no_loop_whole next i free k (reached (at_once p)) r = free k p k (itself refl) r
no_loop_whole next i free k (reached (by_way_of {j = j} p q)) r = free j p k (reached q) r

pub has_of_member : (j : ℕ) (l : List ℕ) → Memᴰ j l → has j l ≡ true
unfolding has
has_of_member j [] m = absurd (Memᴰ.not-nil m)
has_of_member j (y ∷ l) m = ⊎_elim
    (λ e. let t = eq-eqb j y e in rw t)
    (λ q. let t = has_of_member j l q in rw t (or-true (eqb j y)))
    (Memᴰ.cases_cons m)

pub member_of_has : (j : ℕ) (l : List ℕ) → has j l ≡ true → Memᴰ j l
unfolding has
member_of_has j [] h = absurd (not_both _ h refl)
member_of_has j (y ∷ l) h = go (eqb j y) refl h (member_of_has j l)
  where
    go : (b : Bool) → eqb j y ≡ b → (b || has j l) ≡ true → (has j l ≡ true → Memᴰ j l) → Memᴰ j (y ∷ l)
    go true e h' f = Memᴰ.head (eqb-true j y e)
    go false e h' f = Memᴰ.tail (f h')

both_true : (a b : Bool) → a ≡ true → b ≡ true → (a && b) ≡ true
both_true a b p q = rw (p, q)

of_both : (a b : Bool) → (a && b) ≡ true → (a ≡ true) × (b ≡ true)
of_both true b h = (refl, h)
of_both false b h = absurd (not_both _ h refl)

of_either : (a b : Bool) → (a || b) ≡ true → (a ≡ true) ⊎ (b ≡ true)
of_either true b h = inl refl
of_either false b h = inr h

module _ (S : Schema) where
  pub way : {i k : ℕ} → LeadsTo S i k → Path (part_leads S) i k
  way (at_once m) = step (has_of_member _ _ m)
  way (by_way_of m r) = onto (has_of_member _ _ m) (way r)

  pub from_way : {i k : ℕ} → Path (part_leads S) i k → LeadsTo S i k
  from_way (step h) = at_once (member_of_has _ _ h)
  from_way (onto h p) = by_way_of (member_of_has _ _ h) (from_way p)

  pub from_below : (i j : ℕ) → part_leads S i j ≡ true → i < slot_count S
  from_below i j h = part_below S i j (member_of_has j (parts_of S i) h)

  -- the computed ways are those of the length rules
  pub ways_iff : (i k : ℕ) → (part_ways S i k ≡ true) ↔ LeadsTo S i k
  ways_iff i k = (λ h. from_way (via_path (part_leads S) (slot_count S) i k h), λ r. path_via (part_leads S) (slot_count S) from_below (way r))

  leads_below : {i k : ℕ} → LeadsTo S i k → i < slot_count S
  leads_below (at_once q) = part_below S _ _ q
  leads_below (by_way_of q r) = part_below S _ _ q

  -- ## What is reached

  sizable_true : {x : Slot} → Sizable x → is_sizable x ≡ true
  sizable_true is_message = refl
  sizable_true is_union = refl

  true_sizable : (x : Slot) → is_sizable x ≡ true → Sizable x
  true_sizable (message m) h = is_message
  true_sizable (union u) h = is_union
  true_sizable empty h = absurd (not_both _ h refl)
  true_sizable (enum m) h = absurd (not_both _ h refl)
  true_sizable (flags m) h = absurd (not_both _ h refl)
  true_sizable (newtype m) h = absurd (not_both _ h refl)
  true_sizable config h = absurd (not_both _ h refl)
  true_sizable (alias m) h = absurd (not_both _ h refl)
  true_sizable (trait m) h = absurd (not_both _ h refl)
  true_sizable (impl m) h = absurd (not_both _ h refl)

  made_test : (d i : ℕ) → MadeOf S d i → (eqb d i || part_ways S d i) ≡ true
  made_test d i (itself e) = let t = eq-eqb d i e in rw t
  made_test d i (reached r) = rw ((ways_iff d i).1 r) (or-true (eqb d i))

  test_made : (d i : ℕ) → (eqb d i || part_ways S d i) ≡ true → MadeOf S d i
  test_made d i h = ⊎_elim (λ e. itself (eqb-true d i e)) (λ w. reached ((ways_iff d i).0 w)) (of_either _ _ h)

  from_is : (ds : List ℕ) (d i : ℕ) → Memᴰ d ds → Sizable (slot_of S d) → MadeOf S d i → reached_from S ds i ≡ true
  unfolding reached_from
  from_is [] d i m z f = absurd (Memᴰ.not-nil m)
  from_is (x ∷ ds) d i m z f = ⊎_elim
      (λ e. let k : (is_sizable (slot_of S x) && (eqb x i || part_ways S x i)) ≡ true
      = subst (λ (y : ℕ). (is_sizable (slot_of S y) && (eqb y i || part_ways S y i)) ≡ true) e (both_true _ _ (sizable_true z) (made_test d i f)) in rw k)
      (λ q. rw (from_is ds d i q z f) (or-true (is_sizable (slot_of S x) && (eqb x i || part_ways S x i))))
      (Memᴰ.cases_cons m)

  is_from_lem : (ds : List ℕ) (i : ℕ) → reached_from S ds i ≡ true → (d : ℕ) × Memᴰ d ds × Sizable (slot_of S d) × MadeOf S d i
  unfolding reached_from
  is_from_lem [] i h = absurd (not_both _ h refl)
  is_from_lem (x ∷ ds) i h = ⊎_elim
      (λ a. let (z, m) = of_both _ _ a in (x, Memᴰ.head refl, true_sizable (slot_of S x) z, test_made x i m))
      (λ b. let (d, m, z, f) = is_from_lem ds i b in (d, Memᴰ.tail m, z, f))
      (of_either _ _ h)

  -- a slot is reached where a declared message or union is made of it
  pub reached_iff : (i : ℕ) → (is_reached S i ≡ true) ↔ ((d : ℕ) × Declared S d × MadeOf S d i)
  reached_iff i = (
    λ h. let (d, m, z, f) = is_from_lem S.declared i h in (d, record { listed = m; sizable = z }, f),
    λ h. let (d, p, f) = h in from_is S.declared d i p.listed p.sizable f,
  )

  -- ## What leads back

  told : (j : ℕ) → LeadsBack S j → ((is_reached S j && part_ways S j j) ≡ true) × (j < slot_count S)
  told j (m, r) = (both_true _ _ ((reached_iff j).1 m) ((ways_iff j j).1 r), leads_below r)

  holds : (j : ℕ) → (is_reached S j && part_ways S j j) ≡ true → LeadsBack S j
  holds j h = let (m, r) = of_both _ _ h in ((reached_iff j).0 m, (ways_iff j j).0 r)

  -- the slot of refusal 16 is reached and leads back to itself, by the length rules, and no lower one does
  pub back_iff : (x : ℕ) → (leading_back S ≡ Lowest.At x) ↔ (LeadsBack S x × ((j : ℕ) → j < x → LeadsBack S j → ⊥))
  unfolding leading_back
  back_iff x =
      (λ h. lowest_has (LeadsBack S) _ (slot_count S) told holds h, λ h. has_lowest (LeadsBack S) _ (slot_count S) told holds x h.0 h.1)

  pub none_back : leading_back S ≡ Lowest.Nowhere → (j : ℕ) → LeadsBack S j → ⊥
  unfolding leading_back
  none_back h = none_has (LeadsBack S) _ (slot_count S) told holds h

  -- without refusal 16 nothing that is reached leads back to itself
  pub nothing_back : leading_back S ≡ Lowest.Nowhere → (d : ℕ) → Declared S d → NothingLeadsBack S d
  nothing_back e d p k m r = none_back e k ((d, p, m), r)

  pub reached_free : leading_back S ≡ Lowest.Nowhere → (i : ℕ) → is_reached S i ≡ true → NothingLeadsBack S i
  reached_free e i h k m r =
      let (d, p, f) = (reached_iff i).0 h in
      none_back e k ((d, p, from_from d i k f m), r)

-- ## The turns

module _ (L : Layout) (S : Schema) where
  -- each stored size is the slot's size by itself
  abbrev pub AllSettled : State → Type 0
  AllSettled st = (j : ℕ) (s : Size) → st j ≡ some s → plain_size L S j ≡ Sized s

  pub brought_settled : BringsNone S → AllSettled (brought S)
  brought_settled brings j s e = absurd (none-ne-some s (sym (brings j) ∙ e))

  -- a slot is worked out by names that are right for its parts
  pub worked_right : (r : Resolver) (i : ℕ) → NothingLeadsBack S i → Agree r (plain_size L S) (parts_of S i)
      → content_size L none r r (content_of S i) ≡ plain_size L S i
  worked_right r i free h =
      content_agree L none r (plain_size L S) r (plain_size L S) (content_of S i) (λ j p. h j (terminal_part (content_of S i) j p)) h
      ∙ sym (plain_obeys L S i free)

  -- what is no slot comes to anything
  pub past_open : (i : ℕ) → length S.slots ≤ i → plain_size L S i ≡ Sized (Open 0)
  unfolding content_size content_parts
  past_open i h =
      let e = none_missing S i h in
      plain_obeys L S i (no_loop_whole (parts_of S) i (λ j p. absurd (Memᴰ.not-nil (subst (λ (c : Content). Memᴰ j (content_parts c)) e p))))
      ∙ ap (content_size L none (plain_size L S) (plain_size L S)) e

  -- only messages and unions have a turn
  turn_kind : (r : Resolver) (i : ℕ) (x : Slot) (w : Worked) → body_size L r (content_in S i x) ≡ some w → Sizable x
  unfolding body_size content_in
  turn_kind r i (message m) w e = is_message
  turn_kind r i (union u) w e = is_union
  turn_kind r i empty w e = absurd (none-ne-some w e)
  turn_kind r i (enum m) w e = absurd (none-ne-some w e)
  turn_kind r i (flags m) w e = absurd (none-ne-some w e)
  turn_kind r i (newtype m) w e = absurd (none-ne-some w e)
  turn_kind r i config w e = absurd (none-ne-some w e)
  turn_kind r i (alias m) w e = absurd (none-ne-some w e)
  turn_kind r i (trait m) w e = absurd (none-ne-some w e)
  turn_kind r i (impl m) w e = absurd (none-ne-some w e)

  own_kind : (st : State) (i : ℕ) (w : Worked) → own_size L S st i ≡ some w → Sizable (slot_of S i)
  unfolding own_size content_of
  own_kind st i w e = turn_kind _ i (slot_of S i) w e

  module _ (free : leading_back S ≡ Lowest.Nowhere) where
    -- at its turn a declared message or union comes to its size by itself
    pub own_plain_at : (st : State) (i : ℕ) → Declared S i → AllSettled st → own_size L S st i ≡ some (plain_size L S i)
    own_plain_at st i d all = go (own_size L S st i) refl
      where
        go : (o : Option Worked) → own_size L S st i ≡ o → own_size L S st i ≡ some (plain_size L S i)
        go none e = absurd (own_some L S st i d.sizable e)
        go (some x) e = e ∙ ap some (sym (own_plain L S st i (nothing_back S free i d) (λ j m s q. all j s q) x e))

    pub turn_settled : (st st' : State) (i : ℕ) → Memᴰ i S.declared → AllSettled st → turn L S st i ≡ accepted st' → AllSettled st'
    turn_settled st st' i m all q = go st' (turned L S st st' i q)
      where
        go : (st' : State) → Turned L S st i st' → AllSettled st'
        go st' (passed e) = all
        go st' (stored s₀ w) = λ j s e. ⊎_elim
            (λ d. subst₂ (λ (x : ℕ) (y : Size). plain_size L S x ≡ Sized y) (sym d.0) d.1
            (own_plain L S st i (nothing_back S free i (record { listed = m; sizable = own_kind st i (Sized s₀) w })) (λ k p y e'. all k y e') (Sized s₀) w))
            (λ d. all j s d)
            (store_cases i s₀ st j s e)
