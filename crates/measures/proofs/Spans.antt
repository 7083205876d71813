-- Types without parts, by their numbers. Assumes nothing.
use mathlib.Core.Path.{◌≡◌, refl, sym, ap}
use mathlib.Core.List.{[], ◌∷◌}
use Prim.Native.Nat.{ℕ, zero, suc, ◌≤◌}
use native.Mathlib.Omega.{arith}
use native.Mathlib.Decide.{ℕ_discrete}
use mathlib.Core.Logic.{by_cases}
use lib.ListN.{get_or-eq_default}
use Rattle.sizes.specs.declared.Size.TheVariants.{Fixed, Open}
use Rattle.sizes.specs.Sizes.{primitive_bits, semantic_bits, fixed_or_open}

-- a number that is not the least it may be
pub up : {n k : ℕ} → k ≤ n → (n ≡ k → ⊥) → suc k ≤ n
up h d = omega arith

pub primitive_rest : (n : ℕ) → 13 ≤ n → Fixed 0 ≡ Fixed (primitive_bits n)
unfolding primitive_bits
primitive_rest n h =
    by_cases (ℕ_discrete n 13) (λ e. ap (λ (x : ℕ). Fixed (primitive_bits x)) (sym e))
    (λ d. ap Fixed (sym (get_or-eq_default (1 ∷ 8 ∷ 16 ∷ 32 ∷ 64 ∷ 8 ∷ 16 ∷ 32 ∷ 64 ∷ 32 ∷ 64 ∷ 32 ∷ 64 ∷ 0 ∷ []) 0 {n = n} (omega arith))))

pub semantic_rest : (n : ℕ) → (n ≡ 2 → ⊥) → (n ≡ 3 → ⊥) → (n ≡ 4 → ⊥) → (n ≡ 5 → ⊥) → Open 0 ≡ fixed_or_open (semantic_bits n)
unfolding semantic_bits
semantic_rest zero a b c d = refl
semantic_rest (suc zero) a b c d = refl
semantic_rest (suc (suc zero)) a b c d = absurd (a refl)
semantic_rest (suc (suc (suc zero))) a b c d = absurd (b refl)
semantic_rest (suc (suc (suc (suc zero)))) a b c d = absurd (c refl)
semantic_rest (suc (suc (suc (suc (suc zero))))) a b c d = absurd (d refl)
semantic_rest (suc (suc (suc (suc (suc (suc n)))))) a b c d = refl
