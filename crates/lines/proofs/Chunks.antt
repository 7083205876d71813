-- A list that is gone over in chunks of n numbers. Assumes nothing.
use Prim.Native.Nat.{ℕ, ◌+◌, ◌*◌, ◌/◌, ◌<◌, min}
use native.Mathlib.Nat.{mul-suc}
use native.Mathlib.Numerals.{add-one}
use mathlib.Core.Path.{◌≡◌, sym, ap, ◌∙◌}
use mathlib.Core.List.{List, [], ◌++◌, append_assoc}
use mathlib.Core.Logic.{by_cases}
use native.Mathlib.Decide.{dec_lt}
use native.Mathlib.Omega.{arith}
use lib.ListN.{length, get_or, length-append, get_or-append}
use lib.Seq.{get_or-append-add}

-- what is left after i chunks
pub record Left (n : ℕ) (all : List ℕ) (i : ℕ) (rest : List ℕ) : Type 0 where
  pub gone : List ℕ
  pub whole : all ≡ gone ++ rest
  pub long : length gone ≡ n * i

pub none_gone : (n : ℕ) (all rest : List ℕ) → rest ≡ all → Left n all 0 rest
none_gone n all rest e = record { gone = []; whole = sym e; long = omega arith }

module _ {n : ℕ} {all : List ℕ} {i : ℕ} {rest : List ℕ} (l : Left n all i rest) where
  -- one chunk more
  pub one_gone : (x rest' : List ℕ) → rest ≡ x ++ rest' → length x ≡ n → Left n all (i + 1) rest'
  one_gone x rest' e len =
      record {
        gone = l.gone ++ x;
        whole = l.whole ∙ rw e (sym (append_assoc l.gone x rest'));
        long = omega (arith, length-append l.gone x, l.long, len, ap (λ (k : ℕ). n * k) (add-one i), mul-suc n i);
      }

  -- its numbers
  pub chunk_at : (x rest' : List ℕ) → rest ≡ x ++ rest' → length x ≡ n → (k j : ℕ) → k < n → j ≡ n * i + k → get_or x k 0 ≡ get_or all j 0
  chunk_at x rest' e len k j h q =
      let low : k < length x = omega (arith, len) in
      sym (rw (q, l.whole, ← l.long, e) (get_or-append-add l.gone (x ++ rest') k 0 ∙ get_or-append x rest' 0 k low))

  pub length_all : length all ≡ n * i + length rest
  length_all = ap length l.whole ∙ omega (arith, length-append l.gone rest, l.long)

-- n more would be taken, and there are no more than `rest` numbers
pub all_taken : (taken n count rest long : ℕ) → taken + n ≡ count → long ≡ 6 * taken + rest → (0 < n → rest < 6) → taken ≡ min count (long / 6)
all_taken taken n count rest long s l h = by_cases (dec_lt 0 n) (λ p. omega (arith, h p)) (λ p. omega arith)
