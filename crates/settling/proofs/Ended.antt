-- A reading that the code took a step of ends where the thing that stands there ends. Assumes nothing.
use Prim.Native.Nat.{ℕ}
use mathlib.Core.Path.{◌≡◌, sym, ap, ◌∙◌}
use native.Mathlib.Omega.{arith}
use Rattle.number.specs.Grammar.{Outcome, done, refused}
use Rattle.number.specs.Answers.{next}
use Rattle.number.specs.declared.Next.{Next}
use Rattle.number.proofs.Reading.{given}
use Rattle.sizes.specs.declared.Size.{Size}
use Rattle.sizes.specs.declared.Operation.{Operation}
use Rattle.sizes.specs.declared.Worked.{Worked}
use Rattle.sizes.specs.declared.Worked.TheVariants.{Sized, Over}
use Rattle.sizes.specs.Sizes.{then, limited_product, multiplied, without_largest}

module _ {A : Type 0} (m : Outcome A) {x : Next} {a : A} {e : ℕ} (step : x ≡ next m) (whole : m ≡ done a e) where
  pub reached : x ≡ Next.At e
  reached = step ∙ ap next whole

  pub at_end : {n : ℕ} → x ≡ Next.At n → n ≡ e
  at_end q = let p = reached in cc

  pub not_stopped : {r p : ℕ} → x ≡ Next.Refused r p → ⊥
  not_stopped q = let p = reached in let z : ◌≡◌ {A = ℕ} 0 1 = cc in omega arith

pub not_refused : {A : Type 0} {m : Outcome A} {a : A} {e r p : ℕ} → m ≡ refused r p → m ≡ done a e → ⊥
not_refused f d = let z : ◌≡◌ {A = ℕ} 0 1 = cc in omega arith

pub not_over : {w : Worked} {o : Operation} {z : Size} → w ≡ Over o → w ≡ Sized z → ⊥
not_over f d = let z : ◌≡◌ {A = ℕ} 0 1 = cc in omega arith

pub at_count : {m : Outcome ℕ} {v n count end : ℕ} → m ≡ done v n → m ≡ done count end → n ≡ end
at_count p q = cc

-- a fixed array whose element has a size
pub counted_as : {w r : Worked} {y : Size} {m : Outcome ℕ} {v n count end : ℕ} → w ≡ Sized y → m ≡ done v n → ((z : Size) → w ≡ Sized z → m ≡ done count end)
    → r ≡ limited_product (multiplied v (without_largest y)) → r ≡ then w (λ z. limited_product (multiplied count (without_largest z)))
unfolding then
counted_as {y = y} e p q f = let b = (given (sym p ∙ q y e)).0 in rw (e, ← b) f
