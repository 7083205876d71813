-- Fields and variants by the code's turns: the nodes that were met. Assumes nothing.
use Prim.Native.Nat.{ℕ, ◌+◌, ◌-◌, ◌≤◌, ◌<◌}
use mathlib.Core.Path.{◌≡◌, refl, sym, ap, ◌∙◌}
use mathlib.Core.List.{List, [], ◌∷◌}
use native.Mathlib.Omega.{arith}
use lib.ListN.{length}
use Rattle.number.specs.Grammar.{many, done, below, read}
use Rattle.number.proofs.Reading.{Front}
use Rattle.number.proofs.InRange.{below_is}
use Rattle.slot.specs.Field.{Field, field_at, fields_at}
use Rattle.slot.specs.declared.Edition.{Edition}
use Rattle.sizes.specs.declared.Layout.{Layout}
use Rattle.sizes.specs.declared.Size.{Size}
use Rattle.sizes.specs.declared.Size.TheVariants.{Fixed, Bounded}
use Rattle.sizes.specs.declared.Operation.{Operation}
use Rattle.sizes.specs.declared.Worked.{Worked}
use Rattle.sizes.specs.declared.Worked.TheVariants.{Sized, Over}
use Rattle.sizes.specs.Sizes.{then, laid, Resolver, field_alone, fields_size, mark, widened}
use Rattle.sizes.proofs.Steps.{then_made}
use Rattle.sizes.specs.Nodes.{field_nodes, fields_nodes, variants_nodes}
use Rattle.total.specs.Totals.{size_of, total_of, sum_of, total_after, step_of}
use Rattle.total.specs.declared.Step.{Step}
use Rattle.total.proofs.Totals.{stepped}
use Rattle.view.proofs.Onward.{goes_on}
use Rattle.view.proofs.Places.{at_place}
use Rattle.settling.proofs.Nodes.{field_nodes_lem}
use Rattle.wiresize.specs.Asked.{Walks}
use Rattle.wiresize.proofs.Fields.{none_left, same_thing, FieldsLeft, next_field, field_turn, fields_end_lem}
use Rattle.wiresize.proofs.Variants.{VariantsLeft, variants_start, next_variant, variant_fields, variant_start, variant_turn, variant_over, variants_end}
use Rattle.level.specs.declared.Leveled.{Leveled}
use Rattle.level.specs.declared.Tallied.{Tallied}
use Rattle.level.specs.Level.{Levels, Just, Tallies}

-- ## Nodes of lists

pub one_variant_nodes : (v : List Field) → variants_nodes (v ∷ []) ≡ fields_nodes v
unfolding variants_nodes
one_variant_nodes v = omega arith

pub no_variant_nodes : (vs : List (List Field)) → length vs ≡ 0 → 0 ≡ variants_nodes vs
unfolding variants_nodes
no_variant_nodes [] h = refl
no_variant_nodes (v ∷ vs) h = absurd (omega arith)

fields_split : {fs xs : List Field} {x : Field} → fs ≡ x ∷ xs → fields_nodes fs ≡ field_nodes x + fields_nodes xs
unfolding fields_nodes
fields_split e = ap fields_nodes e

fields_none : {fs : List Field} → [] ≡ fs → fields_nodes fs ≡ 0
unfolding fields_nodes
fields_none e = sym (ap fields_nodes e)

variants_split : {vs xs : List (List Field)} {x : List Field} → vs ≡ x ∷ xs → variants_nodes vs ≡ fields_nodes x + variants_nodes xs
unfolding variants_nodes
variants_split e = ap variants_nodes e

variants_none : {vs : List (List Field)} → [] ≡ vs → variants_nodes vs ≡ 0
unfolding variants_nodes
variants_none e = sym (ap variants_nodes e)

-- ## Fields

-- a field, as it is walked over
pub walks : (R : Resolver) (s : List ℕ) (ed : Edition) (names : ℕ) {at : ℕ} (r : Leveled) → Levels (field_at ed names) field_alone field_nodes R s at r
    → Walks (Just R) (field_at ed names) field_alone s at (record { worked = r.worked; next = r.next })
walks R s ed names r l = record { next = l.next; works = record { worked = λ x end q Q e. l.worked x end q ∙ ap (λ (P : Resolver). field_alone P x) (sym e) } }

module _ (R : Resolver) (L : Layout) (s : List ℕ) (ed : Edition) (names : ℕ) where
  -- the fields from `here` on: what they come to, that their nodes and those met are those met before and those of all fields; and each node
  -- that was met, from `start` on, has a byte
  pub record InFields (field_count first start before left here visits : ℕ) (total : List ℕ) : Type 0 where
    pub fields : FieldsLeft (Just R) L s ed names field_count first left here total
    pub tally : (fs : List Field) (e : ℕ) → read (many field_count (field_at ed names)) s first ≡ done fs e → visits + fields_nodes fields.fields ≡ before + fields_nodes fs
    pub bytes : start + visits ≤ here
    pub within : here ≤ length s

  module _ {field_count first start before left here visits : ℕ} {total : List ℕ} (i : InFields field_count first start before left here visits total) (h : 0 < left)
      (r : Leveled) (levels : Levels (field_at ed names) field_alone field_nodes R s here r) {field : Worked} (lays : field ≡ then r.worked (laid L))
      {total' : List ℕ} {step : Step} (adds : (total' ≡ total_after total (sum_of total field)) × (step ≡ step_of (sum_of total field))) where
    module _ (on : step ≡ Step.On) where
      -- what was added has a size
      sized : (z : Size) × (r.worked ≡ Sized z)
      sized =
          let a = stepped i.fields.sum i.fields.stands field adds.0 adds.1 on in
          let m = then_made r.worked (laid L) _ (sym lays ∙ (then_made field _ _ a.1).given) in
          (m.part, m.given)

      front_of : Front (field_at ed names) s (left - 1) here i.fields.fields i.fields.end
      front_of = next_field (Just R) L s ed names field_count first i.fields h

      met : r.visits ≡ field_nodes front_of.first
      met = let g = front_of in levels.visits _ _ g.here sized.0 sized.1

      ends : r.next ≡ front_of.middle
      ends = let g = front_of in levels.next _ _ g.here sized.0 sized.1

      -- the nodes that were met are few
      pub visits_few : (start + (visits + r.visits) ≤ r.next) × (r.next ≤ length s)
      visits_few =
          let g = front_of in
          let w = (goes_on (field_at ed names) s here g.here).within i.within in
          (omega (arith, i.bytes, field_nodes_lem names s ed here g.first g.middle g.here, met, ends), omega (arith, w, ends))

      pub fields_turn : InFields field_count first start before (left - 1) r.next (visits + r.visits) total'
      fields_turn =
          let g = front_of in
          let l = field_turn (Just R) L s ed names field_count first i.fields h (record { worked = r.worked; next = r.next }) (walks R s ed names r levels) lays adds on in
          let o = (same_thing l.reads (at_place (many (left - 1) (field_at ed names)) s g.rest ends)).0 in
          record {
            fields = l;
            tally = λ fs e q. omega (arith, i.tally fs e q, fields_split g.whole, met, ap fields_nodes o);
            bytes = visits_few.0;
            within = visits_few.1;
          }

  -- ## Variants

  -- the variants from `here` on
  pub record InVariants (count first left here visits : ℕ) (extremes last : Size) : Type 0 where
    pub variants : VariantsLeft (Just R) L s ed names count first left here extremes last
    pub tally : (vs : List (List Field)) (e : ℕ) → read (many count (fields_at ed names)) s first ≡ done vs e → visits + variants_nodes variants.variants ≡ variants_nodes vs
    pub bytes : first + visits ≤ here

  pub in_start : (count first : ℕ) (vs : List (List Field)) (e : ℕ) → read (many count (fields_at ed names)) s first ≡ done vs e → (last : Size)
      → InVariants count first count first 0 (Bounded mark 0) last
  in_start count first vs e q last =
      let l = variants_start (Just R) L s ed names count first vs e q last in
      record { variants = l; tally = λ xs d p. omega (arith, ap variants_nodes (same_thing l.reads p).0); bytes = omega arith }

  module _ {count first left here visits : ℕ} {extremes last : Size} (i : InVariants count first left here visits extremes last) where
    module _ (h : 0 < left) {fields after : ℕ} (b : below 65537 s here ≡ done fields after) where
      pub in_variant : {total : List ℕ} → total ≡ total_of (Fixed 0) → InFields fields after first visits fields after visits total
      in_variant t =
          let l = variant_start (Just R) L s ed names count first i.variants h b t in
          let k = below_is s here 65537 fields after b in
          record {
            fields = l;
            tally = λ fs e q. omega (arith, ap fields_nodes (same_thing l.reads q).0);
            bytes = omega (arith, i.bytes, k.after);
            within = k.within;
          }

      pub variants_turn : {more at visits' : ℕ} {total : List ℕ} {z wider : Size} → InFields fields after first visits more at visits' total → more ≤ 0
          → z ≡ size_of total → wider ≡ widened extremes z → InVariants count first (left - 1) at visits' wider z
      variants_turn {more} {at} {visits'} j m c d =
          let g = next_variant (Just R) L s ed names count first i.variants h in
          let f = variant_fields (Just R) L s ed names count first i.variants h b in
          let l = variant_turn (Just R) L s ed names count first i.variants h b j.fields m c d in
          let n = fields_end_lem (Just R) L s ed names fields after j.fields m _ _ f in
          let o = (same_thing l.reads (at_place (many (left - 1) (fields_at ed names)) s g.rest n)).0 in
          let none = (none_left (field_at ed names) s more at m j.fields.fields j.fields.end j.fields.reads).0 in
          record {
            variants = l;
            tally = λ vs e q. omega (arith, i.tally vs e q, variants_split g.whole, j.tally _ _ f, fields_none none, ap variants_nodes o);
            bytes = j.bytes;
          }

    pub in_end : left ≤ 0 → {n : ℕ} → n ≡ visits → Tallies R L s ed names count first (Tallied.Sized extremes last n)
    in_end h {n} e = record {
      varies = variants_end (Just R) L s ed names count first i.variants h;
      visits = λ vs end q x l k f.
          let same : n ≡ k = cc in
          let none = (none_left (fields_at ed names) s left here h i.variants.variants i.variants.end i.variants.reads).0 in
          omega (arith, i.tally vs end q, variants_none none);
    }

    pub in_over : 0 < left → {fields after : ℕ} → below 65537 s here ≡ done fields after → (o : Operation)
        → ((fs : List Field) (e : ℕ) → read (many fields (field_at ed names)) s after ≡ done fs e → (Q : Resolver) → Just R Q → Over o ≡ fields_size L Q fs)
        → Tallies R L s ed names count first (Tallied.Over o)
    in_over h b o k = record {
      varies = variant_over (Just R) L s ed names count first i.variants h b o k;
      visits = λ vs end q x l n f. let z : ◌≡◌ {A = ℕ} 0 1 = cc in absurd (omega arith);
    }
