-- What a comparison says.
use Rattle.std.specs.Prelude.{ℕ, ◌≡◌, List}
use Rattle.report.specs.Text.{text_for}
use Rattle.replay.specs.declared.Outcome.{Outcome}

-- a recorded text is the same exactly if it is the text for the image
unfoldable pub Compared : (image text : List ℕ) → Outcome → Type 0
Compared image text (Outcome.Same number) = text_for image ≡ text
Compared image text Outcome.Differs = text_for image ≡ text → ⊥
