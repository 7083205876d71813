-- What the program makes of its input: how many bytes it brought or that a read failed, and the text for each.
use Rattle.std.specs.Prelude.{ℕ, ◌+◌, ◌≡◌, ◌⊎◌, List, length, cond, eqb, Option, None, Some, IfSome, Result, Ok, Err, take, ⊤}
use Rattle.lines.specs.Lines.{refused_text}
use Rattle.report.specs.Text.{text_for}

-- a failed read fails the whole, one without bytes is the end, and from any other it goes on behind its bytes
unfoldable pub step_of : {E : Type 0} → (at : ℕ) → Result ℕ E → Result (Option ℕ) E
step_of at (Err e) = Err e
step_of at (Ok n) = Ok (cond (eqb n 0) None (Some (at + n)))

-- the text for an image that was read, and for a read that failed
unfoldable pub text_of_input : {E : Type 0} → Result ℕ E → (buffer : List ℕ) → List ℕ
text_of_input (Ok n) buffer = text_for (take n buffer)
text_of_input (Err e) buffer = refused_text 0 0

-- ## A reader whose bytes are known

-- all bytes stand at the front of the buffer, as far as it has places, unless a read failed
abbrev pub TookAll : {E : Type 0} → (left : Option (List ℕ)) → Result ℕ E → (buffer : List ℕ) → Type 0
TookAll left (Ok n) buffer = IfSome left (λ bytes. take n buffer ≡ take (length buffer) bytes)
TookAll left (Err e) buffer = ⊤

-- the text for all bytes as one image, or for a read that failed
abbrev pub AnswersInput : (left : Option (List ℕ)) → (text : List ℕ) → Type 0
AnswersInput left text = IfSome left (λ bytes. (text ≡ text_for bytes) ⊎ (text ≡ refused_text 0 0))
