-- Findings written into the table. Assumes nothing.
use Prim.Native.Nat.{ℕ, zero, suc, ◌+◌, ◌*◌, ◌<◌}
use mathlib.Core.Path.{◌≡◌, refl, sym, ap, ◌∙◌}
use mathlib.Core.List.{List, [], ◌∷◌, ◌++◌}
use native.Mathlib.Omega.{arith}
use native.Mathlib.Numerals.{unary_clauses}
use lib.ListN.{length, set, get_or, take}
use lib.Seq.{sets}
use Rattle.table.specs.Fitted.{fitted}
use Rattle.table.proofs.Fitting.{written_on}
use Rattle.findings.specs.Finding.{rows_of, noted}
use Rattle.findings.specs.declared.Finding.{Finding}

pub rows_length : (l : List Finding) → length (rows_of l) ≡ 6 * length l
unfolding rows_of
rows_length [] = refl
rows_length (f ∷ l) = let e = rows_length l in omega arith

pub rows_append : (l k : List Finding) → rows_of (l ++ k) ≡ rows_of l ++ rows_of k
unfolding rows_of
rows_append [] k = refl
rows_append (f ∷ l) k = ap (λ (r : List ℕ). f.class ∷ f.slot ∷ f.offset ∷ f.length ∷ f.a ∷ f.b ∷ r) (rows_append l k)

-- one number after the other
pub sets_next : (t r : List ℕ) (at i : ℕ) → i < length r → sets t at (take (i + 1) r) ≡ set (sets t at (take i r)) (at + i) (get_or r i 0)
sets_next t [] at i h = absurd (omega arith)
sets_next t (x ∷ r) at zero h = simp unary_clauses
sets_next t (x ∷ r) at (suc i) h =
    let e : suc i + 1 ≡ suc (i + 1) = omega arith in
    let f : suc at + i ≡ at + suc i = omega arith in
    rw (e, ← f) (sets_next (set t at x) r (suc at) i (omega arith))

-- findings behind those that a table holds
pub noted_on : (p : ℕ) (l more : List Finding) → sets (noted p l) (6 * length l) (rows_of more) ≡ noted p (l ++ more)
noted_on p l more =
    ap (λ (i : ℕ). sets (noted p l) i (rows_of more)) (sym (rows_length l)) ∙ written_on p (rows_of l) (rows_of more) ∙ ap (fitted p) (sym (rows_append l more))
