-- The text that the program writes, as ASCII codes.
use Rattle.std.specs.Prelude.{ℕ, zero, suc, ◌+◌, ◌*◌, ◌/◌, ◌≤◌, min, ◌≡◌, Bool, cond, ◌&&◌, List, [], ◌∷◌, ◌++◌, eqb, ltb, length, get_or}
use Rattle.io.specs.Digits.{last_digits}
use Rattle.table.specs.Fitted.{fitted}

-- how many decimal digits a number has, by as many divisions as the fuel allows
unfoldable pub places_by : (fuel n : ℕ) → ℕ
places_by zero n = 1
places_by (suc fuel) n = cond (ltb n 10) 1 (suc (places_by fuel (n / 10)))

-- a number in decimal; n divisions are enough for n
unfoldable pub number_text : ℕ → List ℕ
number_text n = last_digits 10 (places_by n n) n

-- a space before each number
unfoldable pub spaced : List ℕ → List ℕ
spaced [] = []
spaced (n ∷ ns) = (32 ∷ number_text n) ++ spaced ns

-- a word, its numbers, and the line's end
unfoldable pub line : (word numbers : List ℕ) → List ℕ
line word ns = word ++ spaced ns ++ (10 ∷ [])

-- "vexil-typeck 1\n"
abbrev pub header : List ℕ
header = 118 ∷ 101 ∷ 120 ∷ 105 ∷ 108 ∷ 45 ∷ 116 ∷ 121 ∷ 112 ∷ 101 ∷ 99 ∷ 107 ∷ 32 ∷ 49 ∷ 10 ∷ []

-- "size", "found", "end", "refused"
abbrev pub size_word : List ℕ
size_word = 115 ∷ 105 ∷ 122 ∷ 101 ∷ []

abbrev pub found_word : List ℕ
found_word = 102 ∷ 111 ∷ 117 ∷ 110 ∷ 100 ∷ []

abbrev pub end_word : List ℕ
end_word = 101 ∷ 110 ∷ 100 ∷ []

abbrev pub refused_word : List ℕ
refused_word = 114 ∷ 101 ∷ 102 ∷ 117 ∷ 115 ∷ 101 ∷ 100 ∷ []

unfoldable pub all_zero : (a b c : ℕ) → Bool
all_zero a b c = eqb a 0 && (eqb b 0 && eqb c 0)

-- a slot's line; a slot with nothing in the table has none
unfoldable pub size_line : (slot a b c : ℕ) → List ℕ
size_line slot a b c = cond (all_zero a b c) [] (line size_word (slot ∷ a ∷ b ∷ c ∷ []))

-- the lines of the slots below n, of a table with three numbers a slot
unfoldable pub size_lines : (n : ℕ) (sizes : List ℕ) → List ℕ
size_lines zero s = []
size_lines (suc n) s = size_lines n s ++ size_line n (get_or s (3 * n) 0) (get_or s (3 * n + 1) 0) (get_or s (3 * n + 2) 0)

-- the i-th finding's six numbers
unfoldable pub finding_at : (findings : List ℕ) (i : ℕ) → List ℕ
finding_at f i = get_or f (6 * i) 0 ∷ get_or f (6 * i + 1) 0 ∷ get_or f (6 * i + 2) 0 ∷ get_or f (6 * i + 3) 0 ∷ get_or f (6 * i + 4) 0 ∷ get_or f (6 * i + 5) 0 ∷ []

-- the lines of the first n findings
unfoldable pub found_lines : (n : ℕ) (findings : List ℕ) → List ℕ
found_lines zero f = []
found_lines (suc n) f = found_lines n f ++ line found_word (finding_at f n)

unfoldable pub end_line : (count : ℕ) → List ℕ
end_line count = line end_word (count ∷ [])

unfoldable pub refused_text : (number place : ℕ) → List ℕ
refused_text number place = header ++ line refused_word (number ∷ place ∷ [])

-- every slot of the size table; of the findings the first `count`, as far as they lie whole in their table
unfoldable pub accepted_text : (sizes findings : List ℕ) (count : ℕ) → List ℕ
accepted_text s f count = header ++ size_lines (length s / 3) s ++ found_lines (min count (length f / 6)) f ++ end_line count

-- a buffer of so many places that holds a text as far as it reaches, zeros after it, and how much of it is used
pub record Holds (places : ℕ) (text out : List ℕ) (used : ℕ) : Type 0 where
  pub content : out ≡ fitted places text
  pub position : used ≡ min places (length text)

-- the same of a text that 180,000 places hold whole
pub record Written (places : ℕ) (text out : List ℕ) (used : ℕ) : Type 0 where
  pub holds : Holds places text out used
  pub most : length text ≤ 180000
