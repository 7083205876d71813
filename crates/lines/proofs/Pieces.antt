-- The pieces of a line. Assumes nothing.
use Prim.Native.Nat.{ℕ, ◌+◌, ◌*◌, ◌/◌, ◌<◌, min}
use mathlib.Core.Path.{◌≡◌, refl, ◌∙◌}
use mathlib.Core.List.{List, [], ◌∷◌, ◌++◌, append_assoc, append-nil}
use native.Mathlib.Omega.{arith}
use native.Mathlib.Numerals.{add-one}
use lib.ListN.{length, take, get_or}
use lib.Seq.{take-suc}
use Rattle.io.specs.Digits.{last_digits, IsDigitCount}
use mathlib.Core.Bool.{true, false}
use Rattle.lines.specs.Lines.{number_text, spaced, line, header, size_word, found_word, end_word, refused_word, all_zero, size_line, size_lines, finding_at, found_lines, end_line, refused_text, accepted_text, Holds}
use Rattle.lines.specs.Growing.{Grows}
use Rattle.lines.specs.declared.Text.{Text}
use Rattle.lines.proofs.Decimal.{decimal_text}
use Rattle.lines.proofs.Growing.{nothing, then}
use Rattle.lines.proofs.Chunks.{Left, chunk_at}

-- a number's digits, from the front of an array
pub number_put : {a b : Text} (array : List ℕ) (n k : ℕ) → IsDigitCount 10 1 n k → take k array ≡ last_digits 10 k n → Grows a (take k array) b → Grows a (number_text n) b
number_put array n k f e h = rw (e ∙ decimal_text n k f) at h

spaced_more : (l : List ℕ) (n : ℕ) → spaced (l ++ (n ∷ [])) ≡ spaced l ++ (32 ∷ []) ++ number_text n
unfolding spaced
spaced_more [] n = append-nil _
spaced_more (m ∷ l) n = rw (spaced_more l n) (simp append_assoc)

pub none_spaced : (t : Text) → Grows t (spaced []) t
unfolding spaced
none_spaced t = nothing t

pub number_more : {a b c d : Text} (numbers : List ℕ) (i : ℕ) → i < length numbers → Grows a (spaced (take i numbers)) b
    → Grows b (32 ∷ []) c → Grows c (number_text (get_or numbers i 0)) d → Grows a (spaced (take (i + 1) numbers)) d
number_more numbers i h f g k = rw (add-one, take-suc numbers i 0, spaced_more) (then (then f g) k)

pub line_put : {a b c d : Text} {word : List ℕ} (ns : List ℕ) → Grows a word b → Grows b (spaced ns) c → Grows c (10 ∷ []) d → Grows a (line word ns) d
unfolding line
line_put ns f g h = then (then f g) h

pub no_line : (t : Text) (slot a b c : ℕ) → all_zero a b c ≡ true → Grows t (size_line slot a b c) t
unfolding size_line
no_line t slot a b c e = rw e (nothing t)

pub size_put : {t u : Text} (slot a b c : ℕ) → all_zero a b c ≡ false → Grows t (line size_word (slot ∷ a ∷ b ∷ c ∷ [])) u → Grows t (size_line slot a b c) u
unfolding size_line
size_put slot a b c e h = rw e h

pub no_sizes_lem : (s : List ℕ) (t : Text) → Grows t (size_lines 0 s) t
unfolding size_lines
no_sizes_lem s t = nothing t

-- a slot more: its numbers are the next chunk
pub size_more : {a b c : Text} {s rest : List ℕ} {i : ℕ} (slot : ℕ) (x rest' : List ℕ) → Left 3 s i rest → rest ≡ x ++ rest' → length x ≡ 3 → slot ≡ i
    → Grows a (size_lines i s) b → Grows b (size_line slot (get_or x 0 0) (get_or x 1 0) (get_or x 2 0)) c → Grows a (size_lines (i + 1) s) c
unfolding size_lines
size_more {i = i} slot x rest' l e n q f g =
    let at = chunk_at l x rest' e n in
    rw (add-one i) (then f (rw (q, at 0 (3 * i) (omega arith) (omega arith), at 1 _ (omega arith) refl, at 2 _ (omega arith) refl) at g))

pub no_findings : (l : List ℕ) (t : Text) → Grows t (found_lines 0 l) t
unfolding found_lines
no_findings l t = nothing t

-- a finding more: its numbers are the next chunk
pub finding_more : {a b c : Text} {l rest : List ℕ} {i : ℕ} (x rest' numbers : List ℕ) → Left 6 l i rest → rest ≡ x ++ rest' → length x ≡ 6
    → numbers ≡ get_or x 0 0 ∷ get_or x 1 0 ∷ get_or x 2 0 ∷ get_or x 3 0 ∷ get_or x 4 0 ∷ get_or x 5 0 ∷ []
    → Grows a (found_lines i l) b → Grows b (line found_word numbers) c → Grows a (found_lines (i + 1) l) c
unfolding found_lines finding_at
finding_more {i = i} x rest' numbers l e n q f g =
    let at = chunk_at l x rest' e n in
    rw (add-one i) (then f
    (rw (q, at 0 (6 * i) (omega arith) (omega arith), at 1 _ (omega arith) refl, at 2 _ (omega arith) refl, at 3 _ (omega arith) refl, at 4 _ (omega arith) refl, at 5 _ (omega arith) refl) at g))

pub end_put : {a b : Text} (count : ℕ) → Grows a (line end_word (count ∷ [])) b → Grows a (end_line count) b
unfolding end_line
end_put count f = f

pub refused_text_lem : {a b : Text} {p : ℕ} (number place : ℕ) → Holds p header a.out.now a.used → Grows a (line refused_word (number ∷ place ∷ [])) b
    → Holds p (refused_text number place) b.out.now b.used
unfolding refused_text
refused_text_lem {p = p} number place h f = f.grown p header h

pub accepted_text_lem : {a b c d : Text} {p : ℕ} (s l : List ℕ) (count : ℕ) → Holds p header a.out.now a.used → Grows a (size_lines (length s / 3) s) b
    → Grows b (found_lines (min count (length l / 6)) l) c → Grows c (end_line count) d → Holds p (accepted_text s l count) d.out.now d.used
unfolding accepted_text
accepted_text_lem {p = p} s l count h f g k = k.grown p _ (g.grown p _ (f.grown p header h))
