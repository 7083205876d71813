-- Where what a slot is made of stands, behind its kind: a message's fields and a union's variants, each from their count
-- on, a newtype's terminal type, an alias's target.
use Rattle.std.specs.Prelude.{ℕ, List, [], ◌∷◌, get_or}
use Rattle.number.specs.Grammar.{name, number, counted, below, read}
use Rattle.number.specs.Answers.{next, follow}
use Rattle.slot.specs.Field.{type_at, span_at, stored_at}
use Rattle.view.specs.Part.{part_at}
use Rattle.view.specs.Take.{place_of, taken_of}
use Rattle.view.specs.declared.Part.{Part}

-- an image's first number: how many names it has
unfoldable pub name_count : List ℕ → ℕ
name_count s = (taken_of (below 4097 s 0)).value

-- behind a span and a stored size
unfoldable pub fields_place : List ℕ → (body : ℕ) → ℕ
fields_place s body = place_of (follow (next (read span_at s body)) (λ n. next (read stored_at s n)))

-- behind a stored size
unfoldable pub variants_place : List ℕ → (body : ℕ) → ℕ
variants_place s body = place_of (next (read stored_at s body))

-- behind the inner type
unfoldable pub terminal_place : List ℕ → (body : ℕ) → ℕ
terminal_place s body = place_of (next (read (type_at (name_count s)) s body))

-- behind the parameters
unfoldable pub target_place : List ℕ → (body : ℕ) → ℕ
target_place s body = place_of (next (read (counted (number name (name_count s))) s body))

-- by the kind, from kind 0 on; of any other kind the body itself
abbrev pub inside_table : List ℕ → (body : ℕ) → List ℕ
inside_table s body = body ∷ fields_place s body ∷ body ∷ body ∷ variants_place s body ∷ terminal_place s body ∷ body ∷ target_place s body ∷ []

unfoldable pub inside_of : List ℕ → Part → ℕ
inside_of s (Part.At kind body) = get_or (inside_table s body) kind body
inside_of s Part.Missing = 0

-- of slot k, by the table of where the slots start; 0 where there is none
unfoldable pub inside_at : (s starts : List ℕ) → (slot : ℕ) → ℕ
inside_at s starts k = inside_of s (part_at s starts k)
