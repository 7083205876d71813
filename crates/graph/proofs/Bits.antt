-- The bits of a word, and where a place of a row stands. Assumes nothing.
use Prim.Native.Nat.{ℕ, zero, suc, ◌+◌, ◌*◌, ◌-◌, ◌/◌, ◌%◌, ◌^◌, ◌<◌}
use native.Mathlib.Nat.{mod-lt, div_self, div-lt_iff_lt-mul, pow-succ', div-eq_of_lt, mul-div_cancel, mul-mod_left, one-mul, pow-suc, zero-lt-suc}
use native.Mathlib.Decide.{dec_lt, ℕ_discrete}
use native.Mathlib.Omega.{arith}
use mathlib.Core.Path.{◌≡◌, refl, sym, ap, ◌∙◌}
use mathlib.Core.Logic.{by_cases}
use mathlib.Core.Bool.{Bool, true, false, ◌&&◌, ◌||◌, and-false}
use borrow.Author.Tests.{eq-eqb, ne_eqb, eqb-false}
use lib.Bits.{bit_or, or_shr, or_mod}
use lib.Dec.{eqb}
use lib.Pow.{pow_pos, pow-lt, pow-add, shl_exact}
use Rattle.graph.specs.Table.{bit}

one_digit : (p q : ℕ) → p < 2 → q < 2 → eqb (bit_or p q) 1 ≡ (eqb p 1 || eqb q 1)
one_digit zero q h k = refl
one_digit (suc zero) zero h k = refl
one_digit (suc zero) (suc zero) h k = refl
one_digit (suc zero) (suc (suc q)) h k = absurd (omega arith)
one_digit (suc (suc p)) q h k = absurd (omega arith)

pub bit_or_lem : (x y j : ℕ) → bit (bit_or x y) j ≡ (bit x j || bit y j)
unfolding bit
bit_or_lem x y j =
    ap (λ (z : ℕ). eqb (z % 2) 1) (or_shr x y j)
    ∙ ap (λ (z : ℕ). eqb z 1) (or_mod (x / 2 ^ j) (y / 2 ^ j) 1)
    ∙ one_digit _ _ (mod-lt (x / 2 ^ j) (zero-lt-suc 1)) (mod-lt (y / 2 ^ j) (zero-lt-suc 1))

power_above : (d j : ℕ) → 2 ^ (suc d + j) / 2 ^ j % 2 ≡ 0
power_above d j = rw (pow-add 2 (suc d) j, mul-div_cancel (2 ^ suc d) (pow_pos j), pow-suc 2 d) (mul-mod_left (2 ^ d) 2)

bit_power : (k j : ℕ) → bit (2 ^ k) j ≡ eqb j k
unfolding bit
bit_power k j =
    by_cases (ℕ_discrete j k) (λ e. rw (e, div_self (pow_pos k)) (sym (eq-eqb k k refl)))
    (λ n. rw (ne_eqb j k n)
    (by_cases (dec_lt k j) (λ l. rw (div-eq_of_lt (pow-lt l)))
    (λ l. let z : k ≡ suc (k - suc j) + j = omega arith in ap (λ (x : ℕ). eqb (2 ^ x / 2 ^ j % 2) 1) z ∙ rw (power_above (k - suc j) j))))

-- the word that the code makes for bit k
pub bit_shifted : (k j : ℕ) → k < 64 → bit (1 * 2 ^ k % 2 ^ 64) j ≡ eqb j k
bit_shifted k j h = rw (shl_exact {a = 1} 1 k 64 (omega arith) (omega arith), one-mul) (bit_power k j)

-- a number without a bit is 0
pub no_bits : (k w : ℕ) → w < 2 ^ k → ((j : ℕ) → j < k → bit w j ≡ false) → w ≡ 0
unfolding bit
no_bits zero w l h = omega arith
no_bits (suc k) w l h =
    let q : w / 2 ^ k < 2 = (div-lt_iff_lt-mul (pow_pos k)).1 (rw pow-succ' at l) in
    let n : w / 2 ^ k % 2 ≡ 1 → ⊥ = eqb-false _ _ (h k (omega arith)) in
    let z : w / 2 ^ k < 1 = by_cases (dec_lt (w / 2 ^ k) 1) (λ d. d) (λ d. absurd (n (omega arith))) in
    no_bits k w (rw one-mul at ((div-lt_iff_lt-mul (pow_pos k)).0 z)) (λ j m. h j (omega arith))

-- two places of a row are one where word and bit are
pub same_place : (t : Bool) (y b : ℕ) → (eqb (y / 64) (b / 64) && (t && eqb (y % 64) (b % 64))) ≡ (t && eqb y b)
same_place false y b = and-false (eqb (y / 64) (b / 64))
same_place true y b =
    by_cases (ℕ_discrete y b) (λ e. rw (e, eq-eqb b b refl, eq-eqb (b / 64) (b / 64) refl, eq-eqb (b % 64) (b % 64) refl))
    (λ n. rw (ne_eqb y b n)
    (by_cases (ℕ_discrete (y / 64) (b / 64))
    (λ f. rw (ne_eqb (y % 64) (b % 64) (λ g. n (omega arith))) (and-false (eqb (y / 64) (b / 64))))
    (λ f. rw (ne_eqb (y / 64) (b / 64) f))))
