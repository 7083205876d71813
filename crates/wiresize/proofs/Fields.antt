-- Fields by the code's turns, for any meanings of names. Assumes nothing.
use Prim.Native.Nat.{ℕ, zero, suc, ◌-◌, ◌≤◌, ◌<◌}
use mathlib.Core.Path.{◌≡◌, refl, sym, ap, subst, ◌∙◌}
use mathlib.Core.List.{List, [], ◌∷◌}
use native.Mathlib.Omega.{arith}
use Rattle.number.specs.Grammar.{count, number, Grammar, many, counted, Outcome, done, below, read}
use Rattle.number.proofs.Reading.{Front, front, read_done, read_number, given, counted_on}
use Rattle.slot.specs.Field.{Field, field_at, fields_at}
use Rattle.slot.specs.declared.Edition.{Edition}
use Rattle.sizes.specs.declared.Layout.{Layout}
use Rattle.sizes.specs.declared.Size.{Size}
use Rattle.sizes.specs.declared.Size.TheVariants.{Fixed}
use Rattle.sizes.specs.declared.Operation.{Operation}
use Rattle.sizes.specs.declared.Worked.{Worked}
use Rattle.sizes.specs.declared.Worked.TheVariants.{Sized, Over}
use Rattle.sizes.specs.Sizes.{then, limited_sum, laid, Resolver, field_alone, field_size, added, add_fields, fields_size}
use Rattle.sizes.proofs.Steps.{then_made}
use Rattle.total.specs.Totals.{size_of, total_of, sum_of, total_after, step_of}
use Rattle.total.specs.declared.Step.{Step}
use Rattle.total.proofs.Totals.{size_back, stepped, stopped}
use Rattle.wiresize.specs.Asked.{Walks}
use Rattle.settling.specs.declared.Walked.{Walked}

-- a run of nothing
pub none_left : {A : Type 0} (g : Grammar A) (s : List ℕ) (left here : ℕ) → left ≤ 0 → (xs : List A) (e : ℕ) → read (many left g) s here ≡ done xs e
    → ([] ≡ xs) × (here ≡ e)
unfolding many read
none_left g s zero here h xs e q = given q
none_left g s (suc left) here h xs e q = absurd (omega arith)

-- the first of a run
pub first_of : {A : Type 0} (g : Grammar A) (s : List ℕ) (left here : ℕ) → 0 < left → (xs : List A) (e : ℕ) → read (many left g) s here ≡ done xs e
    → Front g s (left - 1) here xs e
first_of g s zero here h xs e q = absurd (omega arith)
first_of g s (suc left) here h xs e q = let d : suc left - 1 ≡ left = omega arith in rw d (front g s left here xs e q)

-- a thing that was read is the one that stands there
pub same_thing : {A : Type 0} {m : Outcome A} {x y : A} {d e : ℕ} → m ≡ done x d → m ≡ done y e → (x ≡ y) × (d ≡ e)
same_thing p q = given (sym p ∙ q)

-- a field as its layout adds it, where that is the scope's
pub laid_as : {M L : Layout} → M ≡ L → (alone : Worked) {field : Worked} → field ≡ then alone (laid M) → field ≡ then alone (laid L)
laid_as e alone q = q ∙ ap (λ (X : Layout). then alone (laid X)) e

-- what a running total adds up to
total_on : (L : Layout) (R : Resolver) (total : Size) (x : Field) (xs : List Field) {w r : Worked} → w ≡ field_size L R x → r ≡ then w (λ z. limited_sum (added total z))
    → add_fields L R total (x ∷ xs) ≡ then r (λ sum. add_fields L R sum xs)
unfolding add_fields then
total_on L R total x xs {w} e f =
    ap (λ (v : Worked). then v (λ z. then (limited_sum (added total z)) (λ sum. add_fields L R sum xs))) (sym e)
    ∙ go w
    ∙ ap (λ (v : Worked). then v (λ sum. add_fields L R sum xs)) (sym f)
  where
    go : (v : Worked) → then v (λ z. then (limited_sum (added total z)) (λ sum. add_fields L R sum xs)) ≡ then (then v (λ z. limited_sum (added total z))) (λ sum. add_fields L R sum xs)
    go (Sized z) = refl
    go (Over o) = refl

total_done : (L : Layout) (R : Resolver) (total : Size) {xs : List Field} → [] ≡ xs → add_fields L R total xs ≡ Sized total
unfolding add_fields
total_done L R total e = rw (← e)

module _ (Means : Resolver → Type 0) (L : Layout) (s : List ℕ) (ed : Edition) (names field_count first : ℕ) where
  abbrev pub Whole : List Field → ℕ → Type 0
  Whole fs e = read (many field_count (field_at ed names)) s first ≡ done fs e

  -- the fields from `here` on, onto the running total, come to what all fields come to
  pub record FieldsLeft (left here : ℕ) (total : List ℕ) : Type 0 where
    pub sum : Size
    pub stands : total ≡ total_of sum
    pub fields : List Field
    pub end : ℕ
    pub reads : read (many left (field_at ed names)) s here ≡ done fields end
    pub ends : (fs : List Field) (e : ℕ) → Whole fs e → end ≡ e
    pub totals : (fs : List Field) (e : ℕ) → Whole fs e → (R : Resolver) → Means R
        → add_fields L R sum fields ≡ fields_size L R fs

  pub fields_start : (fs : List Field) (e : ℕ) → Whole fs e → {total : List ℕ} → total ≡ total_of (Fixed 0) → FieldsLeft field_count first total
  fields_start fs e q i =
      record { sum = Fixed 0; stands = i; fields = fs; end = e; reads = q; ends = λ xs d p. (same_thing q p).1; totals = λ xs d p R H. ap (fields_size L R) (same_thing q p).0 }

  module _ {left here : ℕ} {total : List ℕ} (l : FieldsLeft left here total) where
    pub next_field : 0 < left → Front (field_at ed names) s (left - 1) here l.fields l.end
    next_field h = first_of (field_at ed names) s left here h l.fields l.end l.reads

    -- a field by itself, and the same as it is added
    module _ (h : 0 < left) (r : Walked) (walks : Walks Means (field_at ed names) field_alone s here r) {field : Worked}
        (lays : field ≡ then r.worked (laid L)) where
      worked_as : (R : Resolver) → Means R → field ≡ field_size L R (next_field h).first
      unfolding field_size
      worked_as R H = lays ∙ ap (λ (x : Worked). then x (laid L)) (walks.works.worked _ _ (next_field h).here R H)

      module _ {total' : List ℕ} {step : Step} (adds : (total' ≡ total_after total (sum_of total field)) × (step ≡ step_of (sum_of total field))) where
        onward : {w' : Worked} → then field (λ z. limited_sum (added l.sum z)) ≡ w' → (R : Resolver) → Means R
            → add_fields L R l.sum l.fields ≡ then w' (λ y. add_fields L R y (next_field h).others)
        onward e R H =
            let g = next_field h in
            ap (add_fields L R l.sum) g.whole ∙ total_on L _ l.sum g.first g.others (worked_as R H) (sym e)

        pub field_turn : step ≡ Step.On → FieldsLeft (left - 1) r.next total'
        unfolding then
        field_turn o =
            let g = next_field h in
            let a = stepped l.sum l.stands field adds.0 adds.1 o in
            let m = then_made r.worked (laid L) _ (sym lays ∙ (then_made field _ _ a.1).given) in
            let n = walks.next _ _ g.here m.part m.given in
            record {
              sum = a.0;
              stands = a.2;
              fields = g.others;
              end = l.end;
              reads = subst (λ (p : ℕ). read (many (left - 1) (field_at ed names)) s p ≡ done g.others l.end) (sym n) g.rest;
              ends = l.ends;
              totals = λ fs d q R H. sym (onward a.1 R H) ∙ l.totals fs d q R H;
            }

        pub field_over : {o : Operation} → step ≡ Step.Over o → (fs : List Field) (e : ℕ) → Whole fs e → (R : Resolver) → Means R
            → Over o ≡ fields_size L R fs
        unfolding then
        field_over o fs e q R H = sym (onward (stopped l.sum l.stands field adds.0 adds.1 o) R H) ∙ l.totals fs e q R H

    module _ (h : left ≤ 0) (fs : List Field) (e : ℕ) (q : Whole fs e) where
      pub fields_end_lem : here ≡ e
      fields_end_lem = (none_left (field_at ed names) s left here h l.fields l.end l.reads).1 ∙ l.ends fs e q

      pub fields_sum : {z : Size} → z ≡ size_of total → (R : Resolver) → Means R → Sized z ≡ fields_size L R fs
      fields_sum c R H =
          ap Sized (c ∙ ap size_of l.stands ∙ size_back l.sum)
          ∙ sym (total_done L R l.sum (none_left (field_at ed names) s left here h l.fields l.end l.reads).0) ∙ l.totals fs e q R H

-- the fields behind their count
pub fields_behind : (s : List ℕ) (ed : Edition) (names at : ℕ) {count first : ℕ} → below 65537 s at ≡ done count first → {fs : List Field} {e : ℕ}
    → read (fields_at ed names) s at ≡ done fs e → read (many count (field_at ed names)) s first ≡ done fs e
fields_behind s ed names at b q = sym (counted_on (field_at ed names) s at _ _ b) ∙ q

-- the count is there
pub count_read : {A : Type 0} (g : Grammar A) (s : List ℕ) (at : ℕ) {xs : List A} {e : ℕ} → read (counted g) s at ≡ done xs e
    → (c : ℕ) × (n : ℕ) × (below 65537 s at ≡ done c n)
unfolding counted
count_read g s at q = let a = read_done (number count 65537) (λ c. many c g) s at _ _ q in (a.first, a.middle, sym (read_number count 65537 s at) ∙ a.here)
