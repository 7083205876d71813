-- A text that has room is whole in the buffer. Assumes nothing.
use Prim.Native.Nat.{ℕ, zero, suc, ◌-◌, ◌≤◌}
use mathlib.Core.Path.{◌≡◌, refl, ap, ◌∙◌}
use mathlib.Core.List.{List, [], ◌∷◌}
use native.Mathlib.Omega.{arith}
use lib.ListN.{length, take, drop}
use Rattle.table.specs.Fitted.{fitted}
use Rattle.table.proofs.Fitting.{fitted_length}
use Rattle.lines.specs.Lines.{Written}

taken : (p : ℕ) (text : List ℕ) → length text ≤ p → take (length text) (fitted p text) ≡ text
unfolding fitted
taken p [] h = refl
taken zero (x ∷ l) h = absurd (omega arith)
taken (suc p) (x ∷ l) h = ap (λ (k : List ℕ). x ∷ k) (taken p l (omega arith))

-- what the answer counts of 180,000 places or more is the text
pub written_whole : (p r : ℕ) (text out : List ℕ) → Written p text out r → 180000 ≤ p → take (r - 0) (drop 0 out) ≡ text
written_whole p r text out h l =
    let q = h.holds.position in
    let m = h.most in
    let e : r - 0 ≡ length text = omega arith in
    rw (h.holds.content, e) (taken p text (omega arith))

pub used_within : (p r : ℕ) (text out : List ℕ) → Written p text out r → r ≤ length out
used_within p r text out h = let k = ap length h.holds.content ∙ fitted_length p text in omega (arith, h.holds.position)
