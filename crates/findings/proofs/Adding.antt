-- Findings added one after the other. Assumes nothing.
use Prim.Native.Nat.{ℕ, ◌+◌, ◌*◌, ◌≤◌}
use mathlib.Core.Path.{◌≡◌, refl, sym, ap, ap₂, ◌∙◌}
use mathlib.Core.List.{List, [], ◌∷◌, ◌++◌}
use mathlib.Core.Bool.{Bool, true, false, cond}
use native.Mathlib.Omega.{arith}
use lib.ListN.{length, length-append}
use lib.Seq.{sets, length-sets}
use Rattle.table.proofs.Fitting.{sets_append}
use Rattle.findings.specs.Finding.{rows_of, noted}
use Rattle.findings.specs.Adding.{Adds}
use Rattle.findings.specs.declared.Finding.{Finding}
use Rattle.findings.proofs.Noting.{rows_length, rows_append, noted_on}

pub adds_none : (most : ℕ) (t : List ℕ) (n : ℕ) → Adds most t t n n []
unfolding rows_of
adds_none most t n = record { answer = omega arith; few = omega arith; table = refl }

pub adds_one : (t u : List ℕ) (n : ℕ) (f : Finding) → u ≡ sets t (6 * n) (rows_of (f ∷ [])) → Adds 1 t u n (n + 1) (f ∷ [])
adds_one t u n f h = record { answer = omega arith; few = omega arith; table = h }

-- one more unless it was found
module _ (t : List ℕ) (n : ℕ) (found : Bool) (f : Finding) where
  pub found_none : found ≡ true → Adds 1 t t n n (cond found [] (f ∷ []))
  found_none e = rw e (adds_none 1 t n)

  pub lacks_one : found ≡ false → (u : List ℕ) → u ≡ sets t (6 * n) (rows_of (f ∷ [])) → Adds 1 t u n (n + 1) (cond found [] (f ∷ []))
  lacks_one e u h = rw e (adds_one t u n f h)

pub adds_then : {m k n a b : ℕ} {t u v : List ℕ} {xs ys : List Finding} (c : ℕ) → Adds m t u n a xs → Adds k u v a b ys → m + k ≤ c → Adds c t v n b (xs ++ ys)
adds_then {m} {k} {n} {a} {b} {t} {u} {v} {xs} {ys} c x y h =
    record {
      answer = omega (arith, x.answer, y.answer, length-append xs ys);
      few = omega (arith, x.few, y.few);
      table = y.table
          ∙ ap₂ (λ (l : List ℕ) (i : ℕ). sets l i (rows_of ys)) x.table (omega (arith, x.answer, rows_length xs))
          ∙ sym (sets_append (rows_of xs) (rows_of ys) t (6 * n))
          ∙ ap (sets t (6 * n)) (sym (rows_append xs ys));
    }

-- a greater bound, and the same findings by another name
pub adds_same : {m n a : ℕ} {t u : List ℕ} {xs ys : List Finding} (c : ℕ) → m ≤ c → ys ≡ xs → Adds m t u n a xs → Adds c t u n a ys
adds_same c h e x = rw e (record { answer = x.answer; few = omega (arith, x.few); table = x.table })

module _ {m n a : ℕ} {t u : List ℕ} {xs : List Finding} (x : Adds m t u n a xs) where
  pub adds_kept : length u ≡ length t
  adds_kept = ap length x.table ∙ length-sets t (6 * n) (rows_of xs)

  -- behind the findings that the table held
  pub adds_noted : (p : ℕ) (l : List Finding) → length l ≡ n → t ≡ noted p l → u ≡ noted p (l ++ xs)
  adds_noted p l e h = x.table ∙ ap₂ (λ (k : List ℕ) (i : ℕ). sets k (6 * i) (rows_of xs)) h (sym e) ∙ noted_on p l xs
