-- A finding's six numbers, and the findings table.
use Rattle.std.specs.Prelude.{ℕ, List, [], ◌∷◌}
use Rattle.table.specs.Fitted.{fitted}
use Rattle.slot.specs.Field.{Span}
use Rattle.findings.specs.declared.Finding.{Finding}

-- class, slot, span and the two numbers of a class
abbrev pub finding : (class slot : ℕ) → Span → (a b : ℕ) → Finding
finding c i p a b = record { class = c; slot = i; offset = p.offset; length = p.length; a = a; b = b }

unfoldable pub rows_of : List Finding → List ℕ
rows_of [] = []
rows_of (f ∷ fs) = f.class ∷ f.slot ∷ f.offset ∷ f.length ∷ f.a ∷ f.b ∷ rows_of fs

-- the findings table: six numbers a finding, as far as it reaches, and zeros after
abbrev pub noted : (places : ℕ) → List Finding → List ℕ
noted places fs = fitted places (rows_of fs)
