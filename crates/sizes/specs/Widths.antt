-- Widths of enums, in bits, and of flags, in bytes.
use Rattle.std.specs.Prelude.{◌≡◌, refl, ℕ, zero, suc, ◌+◌, max, ◌/◌, cond, List, [], ◌∷◌, get_or, leb}
use Rattle.std.proofs.Common.{arith}
use Rattle.std.specs.Int.Count.{count_leading_zeros}
use Rattle.slot.specs.Slot.{Ordinals, Enum, Flags}
unfoldable pub use Rattle.graph.specs.Ways.{has}
use Rattle.image.specs.Schema.{Schema}

-- the highest of a list and a start value
unfoldable pub highest : (start : ℕ) → List ℕ → ℕ
highest start [] = start
highest start (n ∷ ns) = highest (max start n) ns

-- the highest of the live and the retired together, 0 if there is none; edition one has none retired
unfoldable pub top_of : Ordinals → ℕ
top_of o = highest (highest 0 o.live) o.retired

-- how often a number can be halved before it is 0, `most` times at most
unfoldable pub digits : (most number : ℕ) → ℕ
digits zero n = 0
digits (suc k) zero = 0
digits (suc k) (suc n) = suc (digits k (suc n / 2))

-- the bit length of a number of at most 64 bits
unfoldable pub bit_length : ℕ → ℕ
bit_length n = digits 64 n

-- an enum has at least 1 bit, and at least 8 if it is non_exhaustive
abbrev pub least_bits : (non_exhaustive : ℕ) → ℕ
least_bits zero = 1
least_bits (suc x) = 8

-- without a backing the bit length of the highest ordinal, but at least these bits
unfoldable pub ordinal_bits : (non_exhaustive : ℕ) → Ordinals → ℕ
ordinal_bits x os = max (least_bits x) (bit_length (top_of os))

-- by the backing: none, U8, U16, U32, U64
unfoldable pub enum_bits : Enum → ℕ
enum_bits e = get_or (ordinal_bits e.non_exhaustive e.ordinals ∷ 8 ∷ 16 ∷ 32 ∷ 64 ∷ []) e.backing 0

-- highest bit 0 to 7 gives 1 byte, 8 to 15 gives 2, 16 to 31 gives 4, above gives 8
unfoldable pub bytes_to : (bit : ℕ) → ℕ
bytes_to n = cond (leb n 7) 1 (cond (leb n 15) 2 (cond (leb n 31) 4 8))

-- none gives 1, as bit 0 does
unfoldable pub flags_bytes : Flags → ℕ
flags_bytes f = bytes_to (top_of f.bits)

-- declared slots only: the stored width if the slot is undeclared
unfoldable pub enum_bits_at : Schema → (slot : ℕ) → Enum → ℕ
enum_bits_at S i e = cond (has i S.declared) (enum_bits e) e.stored_bits

unfoldable pub flags_bytes_at : Schema → (slot : ℕ) → Flags → ℕ
flags_bytes_at S i f = cond (has i S.declared) (flags_bytes f) f.stored_bytes

-- ## The language's own count

leading_digits : (k n : ℕ) → count_leading_zeros k n + digits k n ≡ k
unfolding count_leading_zeros digits
leading_digits zero n = refl
leading_digits (suc k) zero = omega arith
leading_digits (suc k) (suc n) = omega (arith, leading_digits k (suc n / 2))

-- the bit length is 64 less the leading zeros
pub bit_length_is : (n : ℕ) → count_leading_zeros 64 n + bit_length n ≡ 64
unfolding bit_length
bit_length_is n = leading_digits 64 n
