-- A number of at most 64 bits is below two to its bit length, and, unless it is 0, not below half of that: so the 64
-- halvings of `bit_length` are no part of it. Assumes nothing.
use Prim.Native.Nat.{ℕ, zero, suc, ◌*◌, ◌/◌, ◌^◌, ◌≤◌, ◌<◌}
use mathlib.Core.Path.{◌≡◌, refl, ap, ◌∙◌}
use mathlib.Core.Logic.{by_cases}
use native.Mathlib.Omega.{arith}
use native.Mathlib.Decide.{dec_lt}
use native.Mathlib.Nat.{pow-suc}
use Rattle.sizes.specs.Widths.{digits, bit_length}

digits_hold : (k n : ℕ) → n < 2 ^ k → n < 2 ^ digits k n
unfolding digits
digits_hold zero n h = h
digits_hold (suc k) zero h = omega arith
digits_hold (suc k) (suc n) h =
    let e = digits_hold k (suc n / 2) (omega (arith, pow-suc 2 k)) in
    omega (arith, pow-suc 2 (digits k (suc n / 2)))

digits_none : (k : ℕ) → digits k 0 ≡ 0
unfolding digits
digits_none zero = refl
digits_none (suc k) = refl

digits_needed : (k n : ℕ) → 0 < n → 2 ^ digits k n ≤ 2 * n
unfolding digits
digits_needed zero n h = omega arith
digits_needed (suc k) zero h = absurd (omega arith)
digits_needed (suc k) (suc n) h =
    let double = pow-suc 2 (digits k (suc n / 2)) in
    by_cases (dec_lt 0 (suc n / 2))
    (λ l. let e = digits_needed k (suc n / 2) l in omega arith)
    (λ l. let z : suc n / 2 ≡ 0 = omega arith in
    let e : 2 ^ digits k (suc n / 2) ≡ 1 = ap (λ (d : ℕ). 2 ^ digits k d) z ∙ ap (λ (d : ℕ). 2 ^ d) (digits_none k) in
    omega arith)

pub bits_hold : (n : ℕ) → n < 2 ^ 64 → n < 2 ^ bit_length n
unfolding bit_length
bits_hold n h = digits_hold 64 n h

pub bits_needed : (n : ℕ) → 0 < n → 2 ^ bit_length n ≤ 2 * n
unfolding bit_length
bits_needed n h = digits_needed 64 n h
