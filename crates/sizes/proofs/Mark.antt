-- The union's start mark is never left where there is a variant, so the step that document 01 has for it changes no answer.
use mathlib.Core.Path.{◌≡◌, refl, ap, fun_ext}
use Prim.Native.Nat.{ℕ, min, max, ◌≤◌}
use native.Mathlib.Omega.{arith}
use mathlib.Core.Bool.{Bool, true, false, cond}
use mathlib.Core.List.{List, [], ◌∷◌}
use mathlib.Core.Option.{Option, none, some}
use lib.Dec.{eqb}
use borrow.Author.Tests.{eqb-true}
use Rattle.slot.specs.Field.{Field}
use Rattle.sizes.specs.Sizes.{Layout, Size, Fixed, Bounded, Open, Worked, Sized, Over, smallest, largest, variable, both, limit, limited, limited_sum, then, widened, raised, Resolver, mark, add_variants, union_size}
use Rattle.sizes.proofs.Steps.{sized_inj, variant_added, fields_small}

-- ## The mark does not stay

low_variable : (l : ℕ) (h : Option ℕ) → smallest (variable l h) ≡ l
low_variable l (some h) = refl
low_variable l none = refl

widened_small : (s s' : Size) → smallest s' ≤ limit → smallest (widened s s') ≤ limit
widened_small s s' le = rw (low_variable (min (smallest s) (smallest s')) (both max (largest s) (largest s'))) (omega arith)

-- with a variant, whatever names come to, from any start: the least that was worked out is within the limit
pub least_small : (L : Layout) (r : Resolver) (start : Size) (v : List Field) (vs : List (List Field)) (s : Size) →
    add_variants L r start (v ∷ vs) ≡ Sized s → smallest s ≤ limit
unfolding add_variants
least_small L r start v [] s q =
    let a = variant_added L r start v [] s q in
    rw (sized_inj a.made) at (widened_small start a.part (fields_small L r v a.part a.given))
least_small L r start v (w ∷ vs) s q =
    let a = variant_added L r start v (w ∷ vs) s q in
    least_small L r (widened start a.part) w vs s a.made

-- so it is never the mark
pub never_mark : (L : Layout) (r : Resolver) (v : List Field) (vs : List (List Field)) (s : Size) →
    add_variants L r (Bounded mark 0) (v ∷ vs) ≡ Sized s → ¬ (smallest s ≡ mark)
never_mark L r v vs s q e = let le = least_small L r (Bounded mark 0) v vs s q in omega arith

-- ## Document 01's rule answers the same

-- a smallest that is still the mark at the end becomes 0
abbrev unmarked : Size → Size
unmarked s = variable (cond (eqb (smallest s) mark) 0 (smallest s)) (largest s)

-- 8 plus the extremes over variants, also where there is none
unfoldable pub union_size_by_mark : Layout → Resolver → List (List Field) → Worked
union_size_by_mark L r vs = then (add_variants L r (Bounded mark 0) vs) (λ s. limited_sum (raised 8 (unmarked s)))

below_mark : (l : ℕ) → l ≤ limit → cond (eqb l mark) 0 l ≡ l
below_mark l le = go (eqb l mark) refl
  where
    go : (b : Bool) → eqb l mark ≡ b → cond b 0 l ≡ l
    go true e = let z : l ≡ mark = eqb-true l mark e in absurd (omega arith)
    go false e = refl

raised_loose : (s : Size) → raised 8 (variable (smallest s) (largest s)) ≡ raised 8 s
raised_loose (Fixed b) = refl
raised_loose (Bounded l h) = refl
raised_loose (Open l) = refl

pub by_mark : (L : Layout) (r : Resolver) (vs : List (List Field)) → union_size_by_mark L r vs ≡ union_size L r vs
unfolding union_size_by_mark union_size add_variants then limited
by_mark L r [] = refl
by_mark L r (v ∷ vs) = go (add_variants L r (Bounded mark 0) (v ∷ vs)) refl
  where
    go : (w : Worked) → add_variants L r (Bounded mark 0) (v ∷ vs) ≡ w →
        then w (λ s. limited_sum (raised 8 (unmarked s))) ≡ then w (λ s. limited_sum (raised 8 s))
    go (Sized s) e = let z = below_mark (smallest s) (least_small L r (Bounded mark 0) v vs s e) in rw z (ap limited_sum (raised_loose s))
    go (Over o) e = refl

-- one rule for the other, in whatever is made of it: names, turns, refusals, the size table
pub same_rule : union_size_by_mark ≡ union_size
same_rule = fun_ext (λ L. fun_ext (λ r. fun_ext (λ vs. by_mark L r vs)))
