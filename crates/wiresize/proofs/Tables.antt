-- The rows of the size table. Assumes nothing.
use Prim.Native.Nat.{ℕ, zero, suc}
use mathlib.Core.Path.{◌≡◌, refl}
use Rattle.wiresize.specs.Rows.{row_by}
use Rattle.wiresize.specs.declared.Row.{Row}

pub row_rest : (k a b : ℕ) → (k ≡ 1 → ⊥) → (k ≡ 2 → ⊥) → (k ≡ 3 → ⊥) → (k ≡ 4 → ⊥) → (k ≡ 5 → ⊥) → Row.None ≡ row_by k a b
unfolding row_by
row_rest zero a b p q r t u = refl
row_rest (suc zero) a b p q r t u = absurd (p refl)
row_rest (suc (suc zero)) a b p q r t u = absurd (q refl)
row_rest (suc (suc (suc zero))) a b p q r t u = absurd (r refl)
row_rest (suc (suc (suc (suc zero)))) a b p q r t u = absurd (t refl)
row_rest (suc (suc (suc (suc (suc zero))))) a b p q r t u = absurd (u refl)
row_rest (suc (suc (suc (suc (suc (suc k)))))) a b p q r t u = refl
