-- How many groups of seven bits a number takes in its shortest form.
use Rattle.std.specs.Prelude.{ℕ, zero, suc, ◌/◌, cond, ltb}

-- where so many groups more may follow the first
unfoldable pub groups_within : (more number : ℕ) → ℕ
groups_within zero n = 1
groups_within (suc more) n = cond (ltb n 128) 1 (suc (groups_within more (n / 128)))

-- ten hold each number below 2^64
unfoldable pub groups_of : ℕ → ℕ
groups_of n = groups_within 9 n
