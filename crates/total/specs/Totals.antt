-- A running total: three numbers, and the size that they stand for.
use Rattle.std.specs.Prelude.{ℕ, zero, suc, List, [], ◌∷◌, get_or}
use Rattle.sizes.specs.declared.Size.{Size}
use Rattle.sizes.specs.declared.Size.TheVariants.{Fixed, Bounded, Open}
use Rattle.sizes.specs.declared.Worked.{Worked}
use Rattle.sizes.specs.declared.Worked.TheVariants.{Sized, Over}
use Rattle.sizes.specs.Sizes.{then, limited_sum, added}
use Rattle.total.specs.declared.Step.{Step}

-- smallest; largest, 0 if there is none; and the mark: 0 Fixed, 1 variable with a largest, 2 without
abbrev pub total_of : Size → List ℕ
total_of (Fixed b) = b ∷ b ∷ 0 ∷ []
total_of (Bounded l h) = l ∷ h ∷ 1 ∷ []
total_of (Open l) = l ∷ 0 ∷ 2 ∷ []

abbrev pub marked_size : (mark smallest largest : ℕ) → Size
marked_size zero l h = Fixed l
marked_size (suc zero) l h = Bounded l h
marked_size (suc (suc m)) l h = Open l

unfoldable pub size_of : (total : List ℕ) → Size
size_of t = marked_size (get_or t 2 0) (get_or t 0 0) (get_or t 1 0)

-- with one field more, by the definition's sum
abbrev pub sum_of : (total : List ℕ) → (field : Worked) → Worked
sum_of t field = then field (λ s. limited_sum (added (size_of t) s))

-- a total that comes to a sum, or is as it was
unfoldable pub total_after : (total : List ℕ) → (sum : Worked) → List ℕ
total_after t (Sized s) = total_of s
total_after t (Over o) = t

-- the next field, or what passed the limit
abbrev pub step_of : (sum : Worked) → Step
step_of (Sized s) = Step.On
step_of (Over o) = Step.Over o
