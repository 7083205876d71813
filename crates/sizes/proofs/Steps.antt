-- What is known of a size that was worked out in steps.
use Rattle.std.specs.Prelude.{◌≡◌, refl, ℕ, min, max, ◌≤◌, Bool, true, false, cond, ◌||◌, List, [], ◌∷◌, ltb}
use Rattle.std.proofs.Common.{ap, arith, ltb-false}
use Rattle.std.proofs.Math.Option.{Option, none, some}
use Rattle.slot.specs.Field.{Field}
use Rattle.sizes.specs.Sizes.{Layout, Size, Fixed, Bounded, Open, Operation, Sum, Worked, Sized, Over, smallest, largest, variable, both, limit, passes, limited, then, widened, Resolver, field_size, added, add_fields, fields_size, mark, add_variants}

pub sized_inj : {s s' : Size} → Sized s ≡ Sized s' → s ≡ s'
sized_inj e = cc

pub over_not : {A : Type 0} {o : Operation} {s : Size} → Over o ≡ Sized s → A
over_not e = let z : ◌≡◌ {A = ℕ} 0 1 = cc in absurd (omega arith)

-- what was made of a size
pub record Made (w : Worked) (next : Size → Worked) (s : Size) : Type 0 where
  pub part : Size
  pub given : w ≡ Sized part
  pub made : next part ≡ Sized s

pub then_made : (w : Worked) (next : Size → Worked) (s : Size) → then w next ≡ Sized s → Made w next s
unfolding then
then_made (Sized p) next s e = record { part = p; given = refl; made = e }
then_made (Over o) next s e = over_not e

or_left : (a b : Bool) → (a || b) ≡ false → a ≡ false
or_left false b e = refl
or_left true b e = e

low_within : (s : Size) → passes s ≡ false → smallest s ≤ limit
low_within (Fixed b) e = ltb-false limit b e
low_within (Bounded l h) e = ltb-false limit l (or_left (ltb limit l) (ltb limit h) e)
low_within (Open l) e = ltb-false limit l e

-- a size within the limit
pub record Kept (s s' : Size) : Type 0 where
  pub same : s ≡ s'
  pub small : smallest s ≤ limit

pub limited_kept : (o : Operation) (s s' : Size) → limited o s ≡ Sized s' → Kept s s'
unfolding limited
limited_kept o s s' e = go (passes s) refl e
  where
    go : (b : Bool) → passes s ≡ b → cond b (Over o) (Sized s) ≡ Sized s' → Kept s s'
    go true p q = over_not q
    go false p q = record { same = sized_inj q; small = low_within s p }

-- one operation on one size
pub record Step (w : Worked) (op : Size → Size) (s : Size) : Type 0 where
  pub part : Size
  pub given : w ≡ Sized part
  pub same : op part ≡ s

pub step_made : (o : Operation) (w : Worked) (op : Size → Size) (s : Size) → then w (λ x. limited o (op x)) ≡ Sized s → Step w op s
step_made o w op s e =
    let m = then_made w (λ x. limited o (op x)) s e in
    record { part = m.part; given = m.given; same = (limited_kept o (op m.part) s m.made).same }

-- ## Adding fields and variants

-- a field that was added to a running total, and what its other fields came to
pub record FieldAdded (L : Layout) (r : Resolver) (total : Size) (f : Field) (fs : List Field) (s : Size) : Type 0 where
  pub size : Size
  pub worked : field_size L r f ≡ Sized size
  pub small : smallest (added total size) ≤ limit
  pub rest : add_fields L r (added total size) fs ≡ Sized s

pub field_added : (L : Layout) (r : Resolver) (total : Size) (f : Field) (fs : List Field) (s : Size) →
    add_fields L r total (f ∷ fs) ≡ Sized s → FieldAdded L r total f fs s
unfolding add_fields
field_added L r total f fs s q =
    let m = then_made (field_size L r f) (λ x. then (limited Sum (added total x)) (λ total'. add_fields L r total' fs)) s q in
    let m' = then_made (limited Sum (added total m.part)) (λ total'. add_fields L r total' fs) s m.made in
    let k = limited_kept Sum (added total m.part) m'.part m'.given in
    record { size = m.part; worked = m.given; small = k.small; rest = rw k.same m'.made }

-- the fields of a variant, and what the other variants came to
abbrev pub VariantAdded : Layout → Resolver → (extremes : Size) → List Field → List (List Field) → Size → Type 0
VariantAdded L r extremes v vs s = Made (fields_size L r v) (λ x. add_variants L r (widened extremes x) vs) s

pub variant_added : (L : Layout) (r : Resolver) (extremes : Size) (v : List Field) (vs : List (List Field)) (s : Size) →
    add_variants L r extremes (v ∷ vs) ≡ Sized s → VariantAdded L r extremes v vs s
unfolding add_variants
variant_added L r extremes v vs s q = then_made (fields_size L r v) (λ x. add_variants L r (widened extremes x) vs) s q

-- ## The union's mark

add_small : (L : Layout) (r : Resolver) (fs : List Field) (total s : Size) → smallest total ≤ limit →
    add_fields L r total fs ≡ Sized s → smallest s ≤ limit
unfolding add_fields
add_small L r [] total s le q = rw (sized_inj q) at le
add_small L r (f ∷ fs) total s le q =
    let a = field_added L r total f fs s q in
    add_small L r fs (added total a.size) s a.small a.rest

pub fields_small : (L : Layout) (r : Resolver) (fs : List Field) (s : Size) → fields_size L r fs ≡ Sized s → smallest s ≤ limit
fields_small L r fs s q = add_small L r fs (Fixed 0) s (omega arith) q

max_largest : (h : Option ℕ) → both max (some 0) h ≡ h
max_largest (some h) = ap some (omega arith)
max_largest none = refl

pub first_variant : (s : Size) → smallest s ≤ limit → widened (Bounded mark 0) s ≡ variable (smallest s) (largest s)
first_variant s le =
    let e : min mark (smallest s) ≡ smallest s = omega arith in
    rw (e, max_largest (largest s))
