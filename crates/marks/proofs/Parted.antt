-- What the walk over rows of bits says of a schema. Assumes nothing.
use Prim.Native.Nat.{ℕ, ◌<◌}
use native.Mathlib.Omega.{arith}
use native.Mathlib.Decide.{dec_lt}
use mathlib.Core.Path.{◌≡◌, refl, sym, ap, ◌∙◌}
use mathlib.Core.List.{List, [], ◌∷◌}
use mathlib.Core.Logic.{◌⊎◌, inl, inr, ⊎_elim, by_cases}
use mathlib.Core.Bool.{Bool, true, false, ◌&&◌, ◌||◌, or-true}
use borrow.Author.Tests.{eq-eqb, eqb-true}
use lib.ListN.{get_or, get_or-eq_default}
use lib.Dec.{eqb}
use Rattle.graph.specs.declared.Lowest.{Lowest}
use Rattle.graph.specs.Ways.{Leads, via, has}
use Rattle.graph.specs.Loops.{via_same, lowest_same, not_both}
use Rattle.graph.specs.Table.{grid}
use Rattle.reach.specs.Order.{inside, Arranged, BackFrom}
use Rattle.reach.specs.Back.{any_below, is_from, leading_back as back_in}
use Rattle.reach.proofs.Ordered.{both, either, any_at, any_some, from_same, back_same, in_order, order_reached, none_back, some_back}
use Rattle.reach.proofs.Walking.{inside_is, inside_low}
use Rattle.slot.specs.Slot.{empty}
use Rattle.image.specs.Schema.{Schema, slot_of}
use Rattle.sizes.specs.Reached.{is_sizable, slot_count, part_leads, reached_from, is_reached, leading_back}
use Rattle.marks.specs.Marks.{is_start, Sorted}

same_truth : (x y : Bool) → (x ≡ true → y ≡ true) → (y ≡ true → x ≡ true) → x ≡ y
same_truth true y f g = sym (f refl)
same_truth false true f g = g refl
same_truth false false f g = refl

module _ (S : Schema) where
  abbrev n : ℕ
  n = slot_count S

  abbrev e : Leads
  e = part_leads S

  sizable_below : (d : ℕ) → is_sizable (slot_of S d) ≡ true → d < n
  unfolding slot_of
  sizable_below d h =
      by_cases (dec_lt d n) (λ l. l)
      (λ l. absurd (not_both _ h (ap is_sizable (get_or-eq_default S.slots empty {n = d} (omega arith)))))

  -- a start in the list reaches what it leads to
  from_list : (ds : List ℕ) (d i : ℕ) → has d ds ≡ true → is_sizable (slot_of S d) ≡ true → (eqb d i || via e n d i) ≡ true
      → reached_from S ds i ≡ true
  unfolding has reached_from
  from_list [] d i h z v = absurd (not_both _ h refl)
  from_list (x ∷ ds) d i h z v =
      ⊎_elim
      (λ q. let y = eqb-true d x q in
      let k : (is_sizable (slot_of S x) && (eqb x i || via e n x i)) ≡ true = rw (← y, z) v in rw k)
      (λ q. rw (from_list ds d i q z v) (or-true (is_sizable (slot_of S x) && (eqb x i || via e n x i))))
      (either (eqb d x) (has d ds) h)

  -- what is reached is reached from one
  to_list : (ds : List ℕ) (i : ℕ) → reached_from S ds i ≡ true
      → (d : ℕ) × (has d ds ≡ true) × (is_sizable (slot_of S d) ≡ true) × ((eqb d i || via e n d i) ≡ true)
  unfolding has reached_from
  to_list [] i h = absurd (not_both _ h refl)
  to_list (x ∷ ds) i h = go (either _ (reached_from S ds i) h) (to_list ds i)
    where
      later : (d : ℕ) × (has d ds ≡ true) × (is_sizable (slot_of S d) ≡ true) × ((eqb d i || via e n d i) ≡ true)
          → (d : ℕ) × ((eqb d x || has d ds) ≡ true) × (is_sizable (slot_of S d) ≡ true) × ((eqb d i || via e n d i) ≡ true)
      later (d, p, q, r) = (d, rw p (or-true (eqb d x)), q, r)

      go : ((is_sizable (slot_of S x) && (eqb x i || via e n x i)) ≡ true) ⊎ (reached_from S ds i ≡ true)
          → (reached_from S ds i ≡ true → (d : ℕ) × (has d ds ≡ true) × (is_sizable (slot_of S d) ≡ true) × ((eqb d i || via e n d i) ≡ true))
          → (d : ℕ) × ((eqb d x || has d ds) ≡ true) × (is_sizable (slot_of S d) ≡ true) × ((eqb d i || via e n d i) ≡ true)
      go (inl p) f = let r = both (is_sizable (slot_of S x)) _ p in (x, rw (eq-eqb x x refl), r.0, r.1)
      go (inr p) f = later (f p)

  -- rows that have each slot's parts, and a table of the declared messages and unions
  module _ (rows : List ℕ) (starts : List Bool) (marked : (a b : ℕ) → a < n → b < n → grid rows a b ≡ e a b)
      (begun : (i : ℕ) → i < n → get_or starts i false ≡ is_start S i) where
    ways_same : (a b : ℕ) → a < n → b < n → via (grid rows) n a b ≡ via e n a b
    ways_same a b p q = via_same (grid rows) e n marked n (omega arith) a b p q

    pub reached_same : (i : ℕ) → i < n → is_from (grid rows) n starts i ≡ is_reached S i
    unfolding is_from
    reached_same i b = same_truth _ _ (λ h. there (any_some _ n h)) (λ h. here (to_list S.declared i h))
      where
        there : (s : ℕ) × (s < n) × ((get_or starts s false && (eqb s i || via (grid rows) n s i)) ≡ true) → is_reached S i ≡ true
        there (s, l, h) =
            let r = both (get_or starts s false) _ h in
            let z = both (has s S.declared) _ (sym (begun s l) ∙ r.0) in
            from_list S.declared s i z.0 z.1 (rw (← ways_same s i l b) r.1)

        here : (d : ℕ) × (has d S.declared ≡ true) × (is_sizable (slot_of S d) ≡ true) × ((eqb d i || via e n d i) ≡ true)
            → any_below (λ s. get_or starts s false && (eqb s i || via (grid rows) n s i)) n ≡ true
        here (d, p, q, r) =
            let l = sizable_below d q in
            any_at (λ s. get_or starts s false && (eqb s i || via (grid rows) n s i)) n d l (rw (begun d l, p, q, ways_same d i l b) r)

    -- refusal 16
    pub leading_same : back_in (grid rows) n starts ≡ leading_back S
    unfolding back_in leading_back
    leading_same =
        lowest_same _ _ n 0 (λ j b. let l : j < n = omega arith in rw (reached_same j l, ways_same j j l l))

    abbrev r : Leads
    r = inside n (grid rows)

    low_ends : (a b : ℕ) → r a b ≡ true → (a < n) × (b < n)
    low_ends a b h = let q = inside_low n (grid rows) a b h in (q.0, q.1)

    back_is : back_in r n starts ≡ leading_back S
    back_is = back_same r (grid rows) n starts (λ a b p q. inside_is n (grid rows) a b p q) ∙ leading_same

    from_is : (i : ℕ) → i < n → is_from r n starts i ≡ is_reached S i
    from_is i b = from_same r (grid rows) n starts (λ a c p q. inside_is n (grid rows) a c p q) i b ∙ reached_same i b

    pub sorted : (order : List ℕ) (m : ℕ) → Arranged r n starts order m → Sorted S order m
    sorted order m g =
        let low : (a b : ℕ) → r a b ≡ true → (a < n) × (b < n) = low_ends in
        record {
          short = g.short;
          single = g.once;
          below = g.below;
          all = λ x b h. in_order r n starts low order m g x (from_is x b ∙ h);
          reached = λ k b. sym (from_is (get_or order k 0) (g.below k b)) ∙ order_reached r n starts low order m g k b;
          earlier = λ k j b c h.
              g.earlier k j b (inside_is n (grid rows) (get_or order k 0) j (g.below k b) c ∙ marked (get_or order k 0) j (g.below k b) c ∙ h);
          no_loop = sym back_is ∙ none_back r n starts low order m g;
        }

    -- it found one: there is a refusal 16, and its place is what `lowest_back` answers
    pub looped : (j : ℕ) → BackFrom r n starts j → leading_back S ≡ Lowest.Nowhere → ⊥
    looped j b h = some_back r n starts low_ends j b (back_is ∙ h)
