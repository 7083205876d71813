-- Widths, case by case. Assumes nothing.
use Prim.Native.Nat.{ℕ, suc, ◌-◌, ◌≤◌, ◌<◌, max}
use mathlib.Core.Path.{◌≡◌, sym, ap, ap₂, ◌∙◌}
use mathlib.Core.List.{[], ◌∷◌}
use native.Mathlib.Omega.{arith}
use borrow.Author.Tests.{le-leb, lt-leb}
use lib.Count.{count_leading_zeros}
use lib.ListN.{get_or, get_or-eq_default}
use Rattle.slot.specs.Slot.{Enum}
use Rattle.sizes.specs.Widths.{top_of, least_bits, bit_length, ordinal_bits, enum_bits, bytes_to, bit_length_is}

module _ (n : ℕ) where
  pub one_byte : n ≤ 7 → 1 ≡ bytes_to n
  unfolding bytes_to
  one_byte a = simp (le-leb _ _ a)

  pub two_bytes : 7 < n → n ≤ 15 → 2 ≡ bytes_to n
  unfolding bytes_to
  two_bytes a b = simp (lt-leb _ _ a, le-leb _ _ b)

  pub four_bytes : 15 < n → n ≤ 31 → 4 ≡ bytes_to n
  unfolding bytes_to
  four_bytes a b = let z : 7 < n = omega arith in simp (lt-leb _ _ z, lt-leb _ _ a, le-leb _ _ b)

  pub eight_bytes : 31 < n → 8 ≡ bytes_to n
  unfolding bytes_to
  eight_bytes a = let z : 7 < n = omega arith in let y : 15 < n = omega arith in simp (lt-leb _ _ z, lt-leb _ _ y, lt-leb _ _ a)

-- an enum without a backing
pub by_ordinals : (x top least r : ℕ) → least ≡ least_bits x → r ≡ max least (64 - count_leading_zeros 64 top)
    → (e : Enum) → e.backing ≡ 0 → e.non_exhaustive ≡ x → top_of e.ordinals ≡ top → r ≡ enum_bits e
unfolding enum_bits ordinal_bits
by_ordinals x top least r p q e b n h =
    let l : 64 - count_leading_zeros 64 top ≡ bit_length top = omega (arith, bit_length_is top) in
    q ∙ ap₂ max (p ∙ ap least_bits (sym n)) (l ∙ ap bit_length (sym h)) ∙ rw b

-- an enum with a backing: U8, U16, U32, U64
pub by_backing : (k r : ℕ) → r ≡ get_or (8 ∷ 16 ∷ 32 ∷ 64 ∷ []) k 0 → (e : Enum) → e.backing ≡ suc k → r ≡ enum_bits e
unfolding enum_bits
by_backing k r q e b = q ∙ rw b

-- there are no others
pub no_backing : (b : ℕ) → 5 ≤ b → (e : Enum) → e.backing ≡ b → 0 ≡ enum_bits e
unfolding enum_bits
no_backing b h e q = rw q (sym (get_or-eq_default (ordinal_bits e.non_exhaustive e.ordinals ∷ 8 ∷ 16 ∷ 32 ∷ 64 ∷ []) 0 {n = b} h))
