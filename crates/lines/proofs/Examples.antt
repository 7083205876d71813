-- The text of document 01's example, byte for byte.
use mathlib.Core.Path.{◌≡◌, refl}
use mathlib.Core.List.{[], ◌∷◌}
use Rattle.lines.specs.Lines.{places_by, number_text, spaced, line, all_zero, size_line, size_lines, finding_at, found_lines, end_line, accepted_text}

-- vexil-typeck 1, size 0 4 3 0, size 1 2 11 43, end 0
pub example : accepted_text (4 ∷ 3 ∷ 0 ∷ 2 ∷ 11 ∷ 43 ∷ []) [] 0
    ≡ 118 ∷ 101 ∷ 120 ∷ 105 ∷ 108 ∷ 45 ∷ 116 ∷ 121 ∷ 112 ∷ 101 ∷ 99 ∷ 107 ∷ 32 ∷ 49 ∷ 10
    ∷ 115 ∷ 105 ∷ 122 ∷ 101 ∷ 32 ∷ 48 ∷ 32 ∷ 52 ∷ 32 ∷ 51 ∷ 32 ∷ 48 ∷ 10
    ∷ 115 ∷ 105 ∷ 122 ∷ 101 ∷ 32 ∷ 49 ∷ 32 ∷ 50 ∷ 32 ∷ 49 ∷ 49 ∷ 32 ∷ 52 ∷ 51 ∷ 10
    ∷ 101 ∷ 110 ∷ 100 ∷ 32 ∷ 48 ∷ 10 ∷ []
unfolding places_by number_text spaced line all_zero size_line size_lines finding_at found_lines end_line accepted_text
example = refl
