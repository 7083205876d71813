-- The groups of a number are the bytes that it takes in an image. Assumes nothing.
use Prim.Native.Nat.{ℕ, zero, suc, ◌+◌, ◌/◌, ◌%◌, ◌^◌, ◌≤◌, ◌<◌}
use mathlib.Core.Path.{◌≡◌, refl, ap}
use mathlib.Core.List.{List}
use mathlib.Core.Bool.{Bool, true, false, cond}
use mathlib.Core.Logic.{by_cases}
use native.Mathlib.Decide.{dec_lt}
use native.Mathlib.Nat.{pow-succ'}
use native.Mathlib.Omega.{arith}
use lib.ListN.{length, get_or}
use lib.Dec.{ltb, leb}
use borrow.Author.Tests.{lt-ltb, le-ltb, ltb-true, leb-true}
use Rattle.number.specs.Number.{after, groups_at, number_at}
use Rattle.number.specs.Shortest.{groups_within, groups_of}
use Rattle.number.specs.declared.Number.{Number}
use Rattle.number.specs.declared.Number.TheVariants.{Value, Refused}

-- ## One group more

pub groups_one : (more n : ℕ) → n < 128 → groups_within more n ≡ 1
unfolding groups_within
groups_one zero n h = refl
groups_one (suc more) n h = rw (lt-ltb n 128 h)

pub groups_more : (more n : ℕ) → 128 ≤ n → groups_within (suc more) n ≡ suc (groups_within more (n / 128))
unfolding groups_within
groups_more more n h = rw (le-ltb n 128 h)

-- there is one, and no more than may follow; a greater number has no fewer
pub groups_some : (more n : ℕ) → 1 ≤ groups_within more n
unfolding groups_within
groups_some zero n = omega arith
groups_some (suc more) n = go (ltb n 128)
  where
    go : (b : Bool) → 1 ≤ cond b 1 (suc (groups_within more (n / 128)))
    go true = omega arith
    go false = omega arith

pub groups_few : (more n : ℕ) → groups_within more n ≤ suc more
unfolding groups_within
groups_few zero n = omega arith
groups_few (suc more) n = go (ltb n 128) (groups_few more (n / 128))
  where
    go : (b : Bool) → groups_within more (n / 128) ≤ suc more → cond b 1 (suc (groups_within more (n / 128))) ≤ suc (suc more)
    go true h = omega arith
    go false h = omega arith

pub groups_rise : (more n k : ℕ) → n ≤ k → groups_within more n ≤ groups_within more k
unfolding groups_within
groups_rise zero n k h = omega arith
groups_rise (suc more) n k h =
    by_cases (dec_lt n 128)
    (λ l. rw (lt-ltb n 128 l) (go (ltb k 128)))
    (λ l. rw (le-ltb n 128 (omega arith), le-ltb k 128 (omega arith)) (omega (arith, groups_rise more (n / 128) (k / 128) (omega arith))))
  where
    go : (b : Bool) → 1 ≤ cond b 1 (suc (groups_within more (k / 128)))
    go true = omega arith
    go false = omega arith

-- ## Numbers that are read

abbrev Reads : Number → (at more : ℕ) → Type 0
Reads x at more = (v n : ℕ) → x ≡ Value v n → n ≡ at + groups_within more v

abbrev Some : Number → Type 0
Some x = (v n : ℕ) → x ≡ Value v n → 1 ≤ v

no_value : {A : Type 0} {r v n : ℕ} → Refused r ≡ Value v n → A
no_value e = let z : ◌≡◌ {A = ℕ} 0 1 = cc in absurd (omega arith)

value_is_lem : {x y n m : ℕ} → Value x n ≡ Value y m → (x ≡ y) × (n ≡ m)
value_is_lem e = (cc, cc)

module _ (s : List ℕ) where
  -- a later group is not empty
  some_after : (g : ℕ) (x : Number) → Some x → Some (after g x)
  unfolding after
  some_after g (Value w m) h v n e = let a = h w m refl in let b = (value_is_lem e).0 in omega arith
  some_after g (Refused r) h v n e = no_value e

  some_read : (more at : ℕ) → Some (groups_at more 1 s at)
  unfolding groups_at
  some_read zero at = go (ltb at (length s)) (leb 1 (get_or s at 0)) (leb (get_or s at 0) 1) refl
    where
      go : (a b c : Bool) → leb 1 (get_or s at 0) ≡ b → Some (cond a (cond b (cond c (Value (get_or s at 0) (at + 1)) (Refused 3)) (Refused 3)) (Refused 2))
      go true true true l v n e = let b = (value_is_lem e).0 in omega (arith, leb-true 1 (get_or s at 0) l)
      go true true false l v n e = no_value e
      go true false c l v n e = no_value e
      go false b c l v n e = no_value e
  some_read (suc more) at = go (some_read more (at + 1)) (ltb at (length s)) (leb 1 (get_or s at 0)) (ltb (get_or s at 0) 128) refl
    where
      go : Some (groups_at more 1 s (at + 1)) → (a b c : Bool) → leb 1 (get_or s at 0) ≡ b
          → Some (cond a (cond b (cond c (Value (get_or s at 0) (at + 1)) (after (get_or s at 0 % 128) (groups_at more 1 s (at + 1)))) (Refused 3)) (Refused 2))
      go k true true true l v n e = let b = (value_is_lem e).0 in omega (arith, leb-true 1 (get_or s at 0) l)
      go k true true false l v n e = some_after _ (groups_at more 1 s (at + 1)) k v n e
      go k true false c l v n e = no_value e
      go k false b c l v n e = no_value e

  -- a group in front of a number that is not 0
  reads_after : (g at more : ℕ) → g < 128 → (x : Number) → Some x → Reads x (at + 1) more → Reads (after g x) at (suc more)
  unfolding after
  reads_after g at more l (Value w m) some h v n e =
      let a = some w m refl in
      let b = h w m refl in
      let c = value_is_lem e in
      let d = groups_more more v (omega arith) in
      let q : v / 128 ≡ w = omega arith in
      let f = ap (groups_within more) q in
      omega arith
  reads_after g at more l (Refused r) some h v n e = no_value e

  reads_groups : (more least at : ℕ) → Reads (groups_at more least s at) at more
  unfolding groups_at
  reads_groups zero least at = go (ltb at (length s)) (leb least (get_or s at 0)) (leb (get_or s at 0) 1) refl
    where
      go : (a b c : Bool) → leb (get_or s at 0) 1 ≡ c → Reads (cond a (cond b (cond c (Value (get_or s at 0) (at + 1)) (Refused 3)) (Refused 3)) (Refused 2)) at 0
      go true true true l v n e =
          let b = value_is_lem e in
          let c = leb-true (get_or s at 0) 1 l in
          let d = groups_one 0 v (omega arith) in
          omega arith
      go true true false l v n e = no_value e
      go true false c l v n e = no_value e
      go false b c l v n e = no_value e
  reads_groups (suc more) least at = go (reads_groups more 1 (at + 1)) (ltb at (length s)) (leb least (get_or s at 0)) (ltb (get_or s at 0) 128) refl
    where
      go : Reads (groups_at more 1 s (at + 1)) (at + 1) more → (a b c : Bool) → ltb (get_or s at 0) 128 ≡ c
          → Reads (cond a (cond b (cond c (Value (get_or s at 0) (at + 1)) (after (get_or s at 0 % 128) (groups_at more 1 s (at + 1)))) (Refused 3)) (Refused 2)) at (suc more)
      go k true true true l v n e =
          let b = value_is_lem e in
          let c = ltb-true (get_or s at 0) 128 l in
          let d = groups_one (suc more) v (omega arith) in
          omega arith
      go k true true false l v n e =
          reads_after _ at more (omega arith) (groups_at more 1 s (at + 1)) (some_read more (at + 1)) k v n e
      go k true false c l v n e = no_value e
      go k false b c l v n e = no_value e

pub ten_groups : (n : ℕ) → groups_of n ≤ 10
unfolding groups_of
ten_groups n = groups_few 9 n

-- a number that is read takes as many bytes as it has groups
pub groups_read : (s : List ℕ) (at v n : ℕ) → number_at s at ≡ Value v n → n ≡ at + groups_of v
unfolding number_at groups_of
groups_read s at v n e = reads_groups s 9 0 at v n e

-- ## Group by group

-- the groups so far and those of what is left, where one is counted twice
pub record Left (number groups rest : ℕ) : Type 0 where
  pub more : ℕ
  pub all : groups + more ≡ 10
  pub small : rest < 128 ^ suc more
  pub same : groups + groups_within more rest ≡ suc (groups_of number)

pub left_start : (number : ℕ) → number < 2 ^ 64 → Left number 1 number
unfolding groups_of
left_start n h = record { more = 9; all = refl; small = omega arith; same = omega arith }

pub left_on : (number groups rest : ℕ) → Left number groups rest → 128 ≤ rest → Left number (groups + 1) (rest / 128)
left_on n g r l h = go l.more l.all l.small l.same
  where
    go : (m : ℕ) → g + m ≡ 10 → r < 128 ^ suc m → g + groups_within m r ≡ suc (groups_of n) → Left n (g + 1) (r / 128)
    go zero a b c = absurd (omega arith)
    go (suc m) a b c =
        let p = pow-succ' 128 (suc m) in
        let e = groups_more m r h in
        record { more = m; all = omega arith; small = omega arith; same = omega arith }

pub left_end : (number groups rest : ℕ) → Left number groups rest → rest < 128 → groups ≡ groups_of number
left_end n g r l h = let e = groups_one l.more r h in let c = l.same in omega arith
