-- How long the texts are at most: 180,000 bytes have room for each. Assumes nothing.
use Prim.Native.Nat.{ℕ, zero, suc, ◌+◌, ◌*◌, ◌/◌, ◌^◌, ◌≤◌, ◌<◌, min}
use mathlib.Core.Path.{◌≡◌, refl}
use mathlib.Core.Bool.{Bool, true, false, cond}
use mathlib.Core.List.{List, [], ◌∷◌}
use native.Mathlib.Omega.{arith}
use lib.ListN.{length, get_or, length-append}
use Rattle.io.specs.Digits.{last_digits}
use Rattle.lines.proofs.Decimal.{places_most}
use Rattle.lines.specs.Lines.{places_by, number_text, spaced, line, size_word, found_word, end_word, refused_word, all_zero, size_line, size_lines, finding_at, found_lines, end_line, refused_text, accepted_text}

digits_length : (k n : ℕ) → length (last_digits 10 k n) ≡ k
digits_length zero n = refl
digits_length (suc k) n = let e = digits_length k (n / 10) in simp length-append (omega arith)

number_most : (n : ℕ) → n < 2 ^ 64 → length (number_text n) ≤ 20
unfolding number_text
number_most n h = let e = digits_length (places_by n n) n in let m = places_most n n 19 (omega arith) in omega arith

-- every number of a list is a u64
pub record Small (l : List ℕ) : Type 0 where
  pub at : (i : ℕ) → get_or l i 0 < 2 ^ 64

front : (n : ℕ) (ns : List ℕ) → Small (n ∷ ns) → n < 2 ^ 64
front n ns h = h.at 0

rest : (n : ℕ) (ns : List ℕ) → Small (n ∷ ns) → Small ns
rest n ns h = record { at = λ i. h.at (suc i) }

spaced_most : (ns : List ℕ) → Small ns → length (spaced ns) ≤ 21 * length ns
unfolding spaced
spaced_most [] h = omega arith
spaced_most (n ∷ ns) h =
    let i = spaced_most ns (rest n ns h) in
    let m = number_most n (front n ns h) in
    simp length-append (omega arith)

line_most : (word ns : List ℕ) → Small ns → length (line word ns) ≤ length word + 21 * length ns + 1
unfolding line
line_most word ns h = let i = spaced_most ns h in simp length-append (omega arith)

none_small : Small []
none_small = record { at = λ i. omega arith }

more_small : (n : ℕ) (ns : List ℕ) → n < 2 ^ 64 → Small ns → Small (n ∷ ns)
more_small n ns h k = record { at = each }
  where
    each : (i : ℕ) → get_or (n ∷ ns) i 0 < 2 ^ 64
    each zero = h
    each (suc i) = k.at i

unless_most : (b : Bool) (l : List ℕ) (m : ℕ) → length l ≤ m → length (cond b [] l) ≤ m
unless_most true l m h = omega arith
unless_most false l m h = h

size_most : (slot a b c : ℕ) → Small (slot ∷ a ∷ b ∷ c ∷ []) → length (size_line slot a b c) ≤ 89
unfolding size_line
size_most slot a b c h = unless_most (all_zero a b c) _ 89 (line_most size_word _ h)

sizes_most : (n : ℕ) (s : List ℕ) → n ≤ 2 ^ 64 → Small s → length (size_lines n s) ≤ 89 * n
unfolding size_lines
sizes_most zero s h k = omega arith
sizes_most (suc n) s h k =
    let i = sizes_most n s (omega arith) k in
    let m = size_most n (get_or s (3 * n) 0) (get_or s (3 * n + 1) 0) (get_or s (3 * n + 2) 0)
    (more_small _ _ (omega arith) (more_small _ _ (k.at _) (more_small _ _ (k.at _) (more_small _ _ (k.at _) none_small)))) in
    simp length-append (omega arith)

finding_small : (f : List ℕ) (i : ℕ) → Small f → Small (finding_at f i)
unfolding finding_at
finding_small f i k =
    more_small _ _ (k.at _) (more_small _ _ (k.at _) (more_small _ _ (k.at _) (more_small _ _ (k.at _) (more_small _ _ (k.at _) (more_small _ _ (k.at _) none_small)))))

finding_length : (f : List ℕ) (i : ℕ) → length (finding_at f i) ≡ 6
unfolding finding_at
finding_length f i = refl

findings_most : (n : ℕ) (f : List ℕ) → Small f → length (found_lines n f) ≤ 132 * n
unfolding found_lines
findings_most zero f k = omega arith
findings_most (suc n) f k =
    let i = findings_most n f k in
    let m = line_most found_word (finding_at f n) (finding_small f n k) in
    let e = finding_length f n in
    simp length-append (omega arith)

end_most : (count : ℕ) → count < 2 ^ 64 → length (end_line count) ≤ 25
unfolding end_line
end_most count h = line_most end_word (count ∷ []) (more_small _ _ h none_small)

pub refused_most : (number place : ℕ) → number < 2 ^ 64 → place < 2 ^ 64 → length (refused_text number place) ≤ 180000
unfolding refused_text
refused_most number place h k =
    let m = line_most refused_word (number ∷ place ∷ []) (more_small _ _ h (more_small _ _ k none_small)) in
    simp length-append (omega arith)

-- 512 slots and 1,000 findings
pub accepted_most : (s f : List ℕ) (count : ℕ) → Small s → Small f → length s ≤ 1536 → count ≤ 1000 → length (accepted_text s f count) ≤ 180000
unfolding accepted_text
accepted_most s f count h k l m =
    let a = sizes_most (length s / 3) s (omega arith) h in
    let b = findings_most (min count (length f / 6)) f k in
    let c = end_most count (omega arith) in
    simp length-append (omega arith)
