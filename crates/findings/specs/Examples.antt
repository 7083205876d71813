-- A finding written into tables that hold other numbers: its six places change, and no others.
use Rattle.std.specs.Prelude.{◌≡◌, refl, [], ◌∷◌}
use Rattle.std.proofs.lemmas.List.Edits.{sets}
use Rattle.findings.specs.Finding.{finding, rows_of}
use Rattle.findings.specs.declared.Finding.{Finding}

abbrev one : Finding
one = finding 4 3 (record { offset = 5; length = 7 }) 2 0

pub others_stay : sets (9 ∷ 9 ∷ 9 ∷ 9 ∷ 9 ∷ 9 ∷ 9 ∷ 8 ∷ []) 0 (rows_of (one ∷ [])) ≡ 4 ∷ 3 ∷ 5 ∷ 7 ∷ 2 ∷ 0 ∷ 9 ∷ 8 ∷ []
unfolding rows_of
others_stay = refl

-- behind one finding; what has no place is left out
pub cut_at_end : sets (9 ∷ 9 ∷ 9 ∷ 9 ∷ 9 ∷ 9 ∷ 9 ∷ 8 ∷ []) 6 (rows_of (one ∷ [])) ≡ 9 ∷ 9 ∷ 9 ∷ 9 ∷ 9 ∷ 9 ∷ 4 ∷ 3 ∷ []
unfolding rows_of
cut_at_end = refl
