-- Reading goes forward. Assumes nothing.
use Prim.Native.Nat.{ℕ, ◌≤◌}
use mathlib.Core.Path.{◌≡◌}
use mathlib.Core.List.{List}
use native.Mathlib.Omega.{arith}
use lib.ListN.{length}
use Rattle.number.specs.Grammar.{Grammar, give, take, place, refuse, done, below, read}
use Rattle.number.proofs.Reading.{then_done, given}
use Rattle.number.proofs.InRange.{below_is}

pub record Onward (s : List ℕ) (at n : ℕ) : Type 0 where
  pub forward : at ≤ n
  pub within : at ≤ length s → n ≤ length s

pub goes_on : {A : Type 0} (g : Grammar A) (s : List ℕ) (at : ℕ) {a : A} {n : ℕ} → read g s at ≡ done a n → Onward s at n
unfolding read
goes_on (give b) s at e = let q = (given e).1 in record { forward = omega arith; within = λ h. omega arith }
goes_on (take role limit k) s at e =
    let t = then_done (below limit s at) _ e in
    let b = below_is s at limit t.0 t.1 t.2 in
    let r = goes_on (k t.0) s t.1 t.3 in
    record { forward = omega (arith, b.after, r.forward); within = λ h. r.within b.within }
goes_on (place k) s at e = goes_on (k at) s at e
goes_on (refuse r p) s at e = let z : ◌≡◌ {A = ℕ} 0 1 = cc in absurd (omega arith)
