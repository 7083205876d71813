-- Variants by the code's turns, for any meanings of names. Assumes nothing.
use Prim.Native.Nat.{ℕ, ◌-◌, ◌≤◌, ◌<◌}
use mathlib.Core.Path.{◌≡◌, refl, sym, ap, subst, ◌∙◌}
use mathlib.Core.List.{List, [], ◌∷◌}
use mathlib.Core.Bool.{Bool, true, false}
use native.Mathlib.Omega.{arith}
use lib.ListN.{length}
use Rattle.number.specs.Grammar.{Grammar, give, ◌>>=◌, many, counted, done, below, read}
use Rattle.number.proofs.Reading.{Front, read_bind, then_on, counted_on, many_length}
use Rattle.slot.specs.Field.{Field, field_at, fields_at}
use Rattle.slot.specs.declared.Edition.{Edition}
use Rattle.sizes.specs.declared.Layout.{Layout}
use Rattle.sizes.specs.declared.Size.{Size}
use Rattle.sizes.specs.declared.Size.TheVariants.{Bounded}
use Rattle.sizes.specs.declared.Operation.{Operation}
use Rattle.sizes.specs.declared.Worked.{Worked}
use Rattle.sizes.specs.declared.Worked.TheVariants.{Sized, Over}
use Rattle.sizes.specs.Sizes.{then, limited_sum, Resolver, fields_size, mark, add_variants, union_size, widened, raised}
use Rattle.sizes.proofs.Steps.{over_not}
use Rattle.total.specs.Totals.{size_of, total_of}
use Rattle.wiresize.specs.declared.Varied.{Varied}
use Rattle.wiresize.specs.Asked.{WorksOut, Varies, extremes_in, last_in}
use Rattle.wiresize.proofs.Fields.{none_left, first_of, same_thing, fields_behind, FieldsLeft, fields_start, fields_end_lem, fields_sum}

pub clash : {b c : Bool} → b ≡ true → b ≡ c → c ≡ false → ⊥
clash p q r = let z : true ≡ false = cc in let n : ◌≡◌ {A = ℕ} 0 1 = cc in omega arith

extremes_on : (L : Layout) (R : Resolver) (extremes : Size) (v : List Field) (vs : List (List Field)) {z : Size} → Sized z ≡ fields_size L R v
    → add_variants L R extremes (v ∷ vs) ≡ add_variants L R (widened extremes z) vs
unfolding add_variants then
extremes_on L R extremes v vs e = rw (← e)

extremes_over : (L : Layout) (R : Resolver) (extremes : Size) (v : List Field) (vs : List (List Field)) → (o : Operation) → Over o ≡ fields_size L R v → add_variants L R extremes (v ∷ vs) ≡ Over o
unfolding add_variants then
extremes_over L R extremes v vs o e = rw (← e)

extremes_done : (L : Layout) (R : Resolver) (extremes : Size) {vs : List (List Field)} → [] ≡ vs → add_variants L R extremes vs ≡ Sized extremes
unfolding add_variants
extremes_done L R extremes e = rw (← e)

union_over : (L : Layout) (R : Resolver) (vs : List (List Field)) (o : Operation) → add_variants L R (Bounded mark 0) vs ≡ Over o → Over o ≡ union_size L R vs
unfolding union_size add_variants then
union_over L R [] o e = over_not (sym e)
union_over L R (v ∷ vs) o e = rw e

union_sized : (L : Layout) (R : Resolver) (vs : List (List Field)) → 0 < length vs → {x : Size} {r : Worked} → add_variants L R (Bounded mark 0) vs ≡ Sized x
    → r ≡ limited_sum (raised 8 x) → r ≡ union_size L R vs
unfolding union_size then
union_sized L R [] h e q = absurd (omega arith)
union_sized L R (v ∷ vs) h e q = q ∙ rw e

-- a union without variants, by itself
pub union_none : (L : Layout) (R : Resolver) (vs : List (List Field)) → length vs ≡ 0 → Sized (Bounded 8 8) ≡ union_size L R vs
unfolding union_size
union_none L R [] h = refl
union_none L R (v ∷ vs) h = absurd (omega arith)

module _ (Means : Resolver → Type 0) (L : Layout) (s : List ℕ) (ed : Edition) (names count first : ℕ) where
  abbrev pub Whole : List (List Field) → ℕ → Type 0
  Whole vs e = read (many count (fields_at ed names)) s first ≡ done vs e

  -- the variants from `here` on widen the extremes to those of all variants; one alone stands there, or was read last
  pub record VariantsLeft (left here : ℕ) (extremes last : Size) : Type 0 where
    pub variants : List (List Field)
    pub end : ℕ
    pub reads : read (many left (fields_at ed names)) s here ≡ done variants end
    pub widens : (vs : List (List Field)) (e : ℕ) → Whole vs e → (R : Resolver) → Means R
        → add_variants L R extremes variants ≡ add_variants L R (Bounded mark 0) vs
    pub most : left ≤ count
    pub place : count ≡ 1 → 0 < left → here ≡ first
    pub alone : count ≡ 1 → left ≤ 0 → WorksOut Means (fields_at ed names) (fields_size L) s first (Sized last)

  pub variants_start : (vs : List (List Field)) (e : ℕ) → Whole vs e → (last : Size) → VariantsLeft count first (Bounded mark 0) last
  variants_start vs e q last = record {
    variants = vs;
    end = e;
    reads = q;
    widens = λ xs d p R H. ap (add_variants L R (Bounded mark 0)) (same_thing q p).0;
    most = omega arith;
    place = λ c h. refl;
    alone = λ c h. absurd (omega arith);
  }

  module _ {left here : ℕ} {extremes last : Size} (l : VariantsLeft left here extremes last) where
    module _ (h : 0 < left) where
      pub next_variant : Front (fields_at ed names) s (left - 1) here l.variants l.end
      next_variant = first_of (fields_at ed names) s left here h l.variants l.end l.reads

      module _ {fields after : ℕ} (b : below 65537 s here ≡ done fields after) where
        pub variant_fields : read (many fields (field_at ed names)) s after ≡ done next_variant.first next_variant.middle
        variant_fields = fields_behind s ed names here b next_variant.here

        pub variant_start : {total : List ℕ} → total ≡ total_of (Size.Fixed 0) → FieldsLeft Means L s ed names fields after fields after total
        variant_start i = fields_start Means L s ed names fields after _ _ variant_fields i

        -- the fields of one alone
        lone_fields : count ≡ 1 → {fs : List Field} {e : ℕ} → read (fields_at ed names) s first ≡ done fs e
            → read (many fields (field_at ed names)) s after ≡ done fs e
        lone_fields c {fs} {e} q =
            fields_behind s ed names here b (subst (λ (p : ℕ). read (fields_at ed names) s p ≡ done fs e) (sym (l.place c h)) q)

        pub variant_turn : {more at : ℕ} {total : List ℕ} {z wider : Size} → FieldsLeft Means L s ed names fields after more at total → more ≤ 0
            → z ≡ size_of total → wider ≡ widened extremes z → VariantsLeft (left - 1) at wider z
        variant_turn i m c d =
            let g = next_variant in
            let n = fields_end_lem Means L s ed names fields after i m _ _ variant_fields in
            record {
              variants = g.others;
              end = l.end;
              reads = subst (λ (p : ℕ). read (many (left - 1) (fields_at ed names)) s p ≡ done g.others l.end) (sym n) g.rest;
              widens = λ vs e q R H.
                  ap (λ (x : Size). add_variants L R x g.others) d
                  ∙ sym (ap (add_variants L R extremes) g.whole
                  ∙ extremes_on L _ extremes g.first g.others (fields_sum Means L s ed names fields after i m _ _ variant_fields c R H))
                  ∙ l.widens vs e q R H;
              most = omega (arith, l.most);
              place = λ u p. absurd (omega (arith, l.most));
              alone = λ u p. record { worked = λ fs e q R H. fields_sum Means L s ed names fields after i m _ _ (lone_fields u q) c R H };
            }

        pub variant_over : (o : Operation) → ((fs : List Field) (e : ℕ) → read (many fields (field_at ed names)) s after ≡ done fs e → (R : Resolver) → Means R
            → Over o ≡ fields_size L R fs) → Varies Means L s ed names count first (Varied.Over o)
        variant_over o k = record {
          extremes = record {
            worked = λ vs e q R H.
                let g = next_variant in
                sym (extremes_over L _ extremes g.first g.others o (k _ _ variant_fields R H))
                ∙ sym (ap (add_variants L R extremes) g.whole) ∙ l.widens vs e q R H;
          };
          alone = λ u. record { worked = λ fs e q R H. k fs e (lone_fields u q) R H };
        }

    pub variants_end : left ≤ 0 → Varies Means L s ed names count first (Varied.Sized extremes last)
    variants_end h = record {
      extremes = record {
        worked = λ vs e p R H.
            sym (extremes_done L _ extremes (none_left (fields_at ed names) s left here h l.variants l.end l.reads).0) ∙ l.widens vs e p R H;
      };
      alone = λ u. l.alone u h;
    }

-- one variant by itself
pub one_variant : {A : Type 0} (g : Grammar A) (s : List ℕ) (at : ℕ) {x : A} {e : ℕ} → read g s at ≡ done x e → read (many 1 g) s at ≡ done (x ∷ []) e
unfolding many read ◌>>=◌
one_variant g s at q = read_bind g (λ y. give (y ∷ [])) s at ∙ then_on (read g s at) _ q

-- a message: the last of one
pub message_told : (Means : Resolver → Type 0) (L : Layout) (s : List ℕ) (ed : Edition) (names at : ℕ) {r : Varied} → Varies Means L s ed names 1 at r → {t : Worked} → last_in r ≡ t
    → WorksOut Means (fields_at ed names) (fields_size L) s at t
message_told Means L s ed names at v e = record { worked = λ fs d q R H. sym e ∙ (v.alone refl).worked fs d q R H }

-- the variants behind their count
pub variants_behind : (s : List ℕ) (ed : Edition) (names at : ℕ) {count first : ℕ} → below 65537 s at ≡ done count first → {vs : List (List Field)} {e : ℕ}
    → read (counted (fields_at ed names)) s at ≡ done vs e → read (many count (fields_at ed names)) s first ≡ done vs e
variants_behind s ed names at b q = sym (counted_on (fields_at ed names) s at _ _ b) ∙ q

-- a union: the extremes of all behind their count, and a tag
module _ (Means : Resolver → Type 0) (L : Layout) (s : List ℕ) (ed : Edition) (names at : ℕ) {count first : ℕ} (b : below 65537 s at ≡ done count first) {r : Varied}
    (v : Varies Means L s ed names count first r) where
  pub union_ended : {o : Operation} → r ≡ Varied.Over o → WorksOut Means (counted (fields_at ed names)) (union_size L) s at (Over o)
  union_ended e = record {
    worked = λ vs d q R H. union_over L _ vs _ (sym (v.extremes.worked vs d (variants_behind s ed names at b q) R H) ∙ ap extremes_in e);
  }

  pub union_tagged : {x z : Size} → r ≡ Varied.Sized x z → 0 < count → {t : Worked} → t ≡ limited_sum (raised 8 x)
      → WorksOut Means (counted (fields_at ed names)) (union_size L) s at t
  union_tagged e c k = record {
    worked = λ vs d q R H.
        let p = variants_behind s ed names at b q in
        union_sized L _ vs (let n = many_length (fields_at ed names) s count first vs d p in omega arith)
        (sym (v.extremes.worked vs d p R H) ∙ ap extremes_in e) k;
  }
