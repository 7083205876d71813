-- A number's text has the fewest digits that hold it. Assumes nothing.
use Prim.Native.Nat.{ℕ, zero, suc, ◌-◌, ◌/◌, ◌^◌, ◌≤◌, ◌<◌}
use mathlib.Core.Path.{◌≡◌, refl, ap}
use mathlib.Core.Logic.{by_cases}
use native.Mathlib.Omega.{arith}
use native.Mathlib.Decide.{dec_lt}
use native.Mathlib.Nat.{pow-suc, one-le-pow, div-add-mod, mod-lt}
use borrow.Author.Tests.{lt-ltb, le-ltb}
use Rattle.io.specs.Digits.{last_digits, IsDigitCount}
use Rattle.lines.specs.Lines.{places_by, number_text}

places_one : (fuel n : ℕ) → n < 10 → 1 ≡ places_by fuel n
unfolding places_by
places_one zero n h = refl
places_one (suc fuel) n h = simp (lt-ltb n 10 h)

places_more : (fuel n : ℕ) → 10 ≤ n → places_by (suc fuel) n ≡ suc (places_by fuel (n / 10))
unfolding places_by
places_more fuel n h = simp (le-ltb n 10 h)

-- the least number of so many digits
low : (j n : ℕ) → IsDigitCount 10 1 n (suc (suc j)) → 10 ^ suc j ≤ n
low j n f = let e : suc (suc j) - 1 ≡ suc j = omega arith in rw e at (f.2 (omega arith))

two_digits : (j n : ℕ) → 10 ^ suc j ≤ n → 10 ≤ n
two_digits j n h = omega (arith, pow-suc 10 j, one-le-pow j 10 (omega arith))

-- a digit less
shorter : (j n : ℕ) → IsDigitCount 10 1 n (suc (suc j)) → IsDigitCount 10 1 (n / 10) (suc j)
shorter j n f =
    let h = low j n f in
    let top : n < 10 ^ suc (suc j) = f.1 in
    let a = pow-suc 10 j in
    let b = pow-suc 10 (suc j) in
    let d = div-add-mod n 10 in
    let m = mod-lt n {m = 10} (omega arith) in
    (omega arith, omega arith, λ l. let e : suc j - 1 ≡ j = omega arith in rw e (omega arith))

places_are : (fuel n k : ℕ) → n ≤ fuel → IsDigitCount 10 1 n k → k ≡ places_by fuel n
places_are fuel n zero h f = absurd (omega arith)
places_are fuel n (suc zero) h f = places_one fuel n f.1
places_are zero n (suc (suc j)) h f = let ten = two_digits j n (low j n f) in absurd (omega arith)
places_are (suc fuel) n (suc (suc j)) h f =
    let ten = two_digits j n (low j n f) in
    let d = div-add-mod n 10 in
    rw (places_more fuel n ten) (ap suc (places_are fuel (n / 10) (suc j) (omega arith) (shorter j n f)))

-- what `io::decimal` writes is the number's text
pub decimal_text : (n k : ℕ) → IsDigitCount 10 1 n k → last_digits 10 k n ≡ number_text n
unfolding number_text
decimal_text n k f = ap (λ (m : ℕ). last_digits 10 m n) (places_are n n k (omega arith) f)

places_zero : (n : ℕ) → places_by zero n ≡ 1
unfolding places_by
places_zero n = refl

-- a number below 10 ^ m has at most m digits
pub places_most : (fuel n m : ℕ) → n < 10 ^ suc m → places_by fuel n ≤ suc m
places_most fuel n zero h = let e = places_one fuel n h in omega arith
places_most zero n (suc m) h = let e = places_zero n in omega arith
places_most (suc fuel) n (suc m) h =
    by_cases (dec_lt n 10)
    (λ l. let e = places_one (suc fuel) n l in omega arith)
    (λ l. let a = pow-suc 10 (suc m) in let d = div-add-mod n 10 in
    let i = places_most fuel (n / 10) m (omega arith) in
    rw (places_more fuel n (omega arith)) (omega arith))
