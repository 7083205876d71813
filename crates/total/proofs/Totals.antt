-- A running total stands for the definition's: what is added to one is added to the other. Assumes nothing.
use Prim.Native.Nat.{ℕ, zero, suc}
use mathlib.Core.Path.{◌≡◌, refl, sym, ap, ◌∙◌}
use mathlib.Core.List.{List}
use native.Mathlib.Omega.{arith}
use Rattle.sizes.specs.declared.Size.{Size}
use Rattle.sizes.specs.declared.Size.TheVariants.{Fixed, Bounded, Open}
use Rattle.sizes.specs.declared.Operation.{Operation}
use Rattle.sizes.specs.declared.Worked.{Worked}
use Rattle.sizes.specs.declared.Worked.TheVariants.{Sized, Over}
use Rattle.sizes.specs.Sizes.{then, limited_sum, added}
use Rattle.total.specs.Totals.{total_of, marked_size, size_of, sum_of, total_after, step_of}
use Rattle.total.specs.declared.Step.{Step}

pub size_back : (s : Size) → size_of (total_of s) ≡ s
unfolding size_of
size_back (Fixed b) = refl
size_back (Bounded l h) = refl
size_back (Open l) = refl

pub open_rest : (m l h : ℕ) → (m ≡ 0 → ⊥) → (m ≡ 1 → ⊥) → Open l ≡ marked_size m l h
open_rest zero l h a b = absurd (a refl)
open_rest (suc zero) l h a b = absurd (b refl)
open_rest (suc (suc m)) l h a b = refl

-- the sum by the code's steps
pub summed : (t : List ℕ) (field : Worked) {z : Size} {w w' : Worked} → z ≡ size_of t → w ≡ then field (λ s. limited_sum (added z s)) → w ≡ w' → sum_of t field ≡ w'
summed t field e f g = ap (λ (x : Size). then field (λ s. limited_sum (added x s))) (sym e) ∙ sym f ∙ g

-- what a step answers, by the size that its total stands for
module _ (s : Size) {t : List ℕ} (stands : t ≡ total_of s) (field : Worked) {t' : List ℕ} {r : Step} (total : t' ≡ total_after t (sum_of t field)) (step : r ≡ step_of (sum_of t field)) where
  abbrev sum : Worked
  sum = then field (λ z. limited_sum (added s z))

  sums : sum_of t field ≡ sum
  sums = ap (λ (x : Size). then field (λ z. limited_sum (added x z))) (ap size_of stands ∙ size_back s)

  pub stepped : r ≡ Step.On → (y : Size) × (sum ≡ Sized y) × (t' ≡ total_of y)
  unfolding total_after
  stepped h = go sum (sym h ∙ step ∙ ap step_of sums) (total ∙ ap (total_after t) sums)
    where
      go : (w : Worked) → Step.On ≡ step_of w → t' ≡ total_after t w → (y : Size) × (w ≡ Sized y) × (t' ≡ total_of y)
      go (Sized y) e f = (y, refl, f)
      go (Over o) e f = let z : ◌≡◌ {A = ℕ} 0 1 = cc in absurd (omega arith)

  pub stopped : {o : Operation} → r ≡ Step.Over o → sum ≡ Over o
  stopped {o} h = go sum (sym h ∙ step ∙ ap step_of sums)
    where
      go : (w : Worked) → Step.Over o ≡ step_of w → w ≡ Over o
      go (Sized y) e = let z : ◌≡◌ {A = ℕ} 0 1 = cc in absurd (omega arith)
      go (Over p) e = cc
