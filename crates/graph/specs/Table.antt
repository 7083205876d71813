-- A graph of up to 512 numbers as a table of bits, and what the code makes of it.
use Rattle.std.specs.Prelude.{ℕ, zero, suc, ◌+◌, ◌*◌, ◌/◌, ◌%◌, ◌^◌, ◌<◌, ◌≤◌, ◌≡◌, refl, List, Bool, false, cond, ◌&&◌, ◌||◌, length, get_or, replicate, eqb, ltb}
use Rattle.std.proofs.Math.Nat.{zero-div}
use Rattle.graph.specs.Ways.{Leads, via}

-- bit j of a word
unfoldable pub bit : (word j : ℕ) → Bool
bit w j = eqb (w / 2 ^ j % 2) 1

-- eight words a row, 64 places a word
unfoldable pub grid : List ℕ → Leads
grid m a b = bit (get_or m (a * 8 + b / 64) 0) (b % 64)

-- the table with more places set
pub record Grown (before : List ℕ) (more : Leads) (after : List ℕ) : Type 0 where
  pub long : length after ≡ length before
  pub places : (a b : ℕ) → a * 8 + 8 ≤ length before → b < 512 → grid after a b ≡ (grid before a b || more a b)

-- with one place set
abbrev pub Marked : List ℕ → (a b : ℕ) → List ℕ → Type 0
Marked m a b m' = Grown m (λ x y. eqb x a && eqb y b) m'

-- with what row k has set in row i
abbrev pub Joined : List ℕ → (i k : ℕ) → List ℕ → Type 0
Joined m i k m' = Grown m (λ a b. eqb a i && grid m k b) m'

-- with what row k has set in each row below n that has k
abbrev pub Round : List ℕ → (k n : ℕ) → List ℕ → Type 0
Round m k n m' = Grown m (λ a b. ltb a n && (grid m a k && grid m k b)) m'

-- the rows below n have the ways through numbers below k; the others are as they were
pub record Closed (before : List ℕ) (k n : ℕ) (after : List ℕ) : Type 0 where
  pub long : length after ≡ length before
  pub places : (a b : ℕ) → a * 8 + 8 ≤ length before → b < 512 → grid after a b ≡ cond (ltb a n) (via (grid before) k a b) (grid before a b)

-- is each place of a row unmarked
abbrev pub Unmarked : List ℕ → (a : ℕ) → Type 0
Unmarked m a = (b : ℕ) → b < 512 → grid m a b ≡ false

zeros_at : (n i : ℕ) → get_or (replicate n zero) i zero ≡ zero
zeros_at zero i = refl
zeros_at (suc n) zero = refl
zeros_at (suc n) (suc i) = zeros_at n i

pub bit_zero : (j : ℕ) → bit 0 j ≡ false
unfolding bit
bit_zero j = rw zero-div

pub blank : (n a b : ℕ) → grid (replicate n 0) a b ≡ false
unfolding grid
blank n a b = rw (zeros_at n (a * 8 + b / 64)) (bit_zero (b % 64))

-- a table of zeros leads nowhere
pub grid_zeros : (a b : ℕ) → grid (replicate 4096 0) a b ≡ false
grid_zeros a b = blank 4096 a b
