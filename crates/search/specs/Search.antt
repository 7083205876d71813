-- What the search for a trait field asks for, and what it answers.
use Rattle.std.specs.Prelude.{ℕ, ◌≤◌, ◌≡◌, List, Bool, length}
use Rattle.number.specs.Grammar.{many, done, read}
use Rattle.tree.specs.Tree.{Tree}
use Rattle.slot.specs.Field.{type_at, expression_at, limit_at, Field, field_at}
use Rattle.image.specs.Schema.{Schema}
use Rattle.image.specs.declared.Frame.{Frame}
use Rattle.reader.specs.Reading.{schema_of}
use Rattle.findings.specs.Meaning.{meaning_of}
use Rattle.findings.specs.Conformance.{is_field, has_field}
use Rattle.meanings.specs.Occurs.{occurs}
use Rattle.meanings.specs.Places.{AtNames, argument_place, looked_up, Known, Sound, Bound, LookAsked}
use Rattle.meanings.specs.Scopes.{Ready}
use Rattle.search.specs.declared.FieldHead.{FieldHead}

-- a trait field's expression, whose names were looked up, where parameters stand for arguments
pub record Expressed (names : ℕ) (s places : List ℕ) (at : ℕ) : Type 0 where
  pub parameters : List ℕ
  pub arguments : List Tree
  pub sound : Sound names s parameters arguments places
  pub tree : Tree
  pub end : ℕ
  pub reads : read (expression_at names) s at ≡ done tree end
  pub known : AtNames (Known places) tree

abbrev pub meaning_in : Schema → {names : ℕ} {s places : List ℕ} {at : ℕ} → Expressed names s places at → Tree
meaning_in S x = meaning_of S x.parameters x.arguments x.tree

-- a field's name, and where its type stands; behind the type its limit
abbrev pub Heads : Frame → (s : List ℕ) → (at : ℕ) → FieldHead → Type 0
Heads f s at h =
    (x : Field) (end : ℕ) → read (field_at f.edition f.names) s at ≡ done x end
    → (x.field_name ≡ h.name) × (behind : ℕ) × (read (type_at f.names) s h.place ≡ done x.type behind)
    × (read (limit_at f.edition) s behind ≡ done x.limit end)

-- a type stands at a place, and the trait field's expression at another
pub record FieldAsked (s starts : List ℕ) (f : Frame) (finds places : List ℕ) (place expression : ℕ) : Type 0 where
  pub ready : Ready s starts f finds
  pub type : Tree
  pub type_end : ℕ
  pub type_read : read (type_at f.names) s place ≡ done type type_end
  pub expressed : Expressed f.names s places expression

abbrev pub IsField : Frame → (s places : List ℕ) → FieldHead → (name expression : ℕ) → Bool → Type 0
IsField f s places h name expression r =
    (x : Field) (end : ℕ) → x.field_name ≡ h.name → read (type_at f.names) s h.place ≡ done x.type end
    → (y : Expressed f.names s places expression) → r ≡ is_field x name (meaning_in (schema_of f.edition s) y)

-- the fields of a message, and the trait field's expression
pub record SearchAsked (s starts : List ℕ) (f : Frame) (finds places : List ℕ) (fields count expression : ℕ) : Type 0 where
  pub ready : Ready s starts f finds
  pub list : List Field
  pub list_end : ℕ
  pub list_read : read (many count (field_at f.edition f.names)) s fields ≡ done list list_end
  pub expressed : Expressed f.names s places expression

-- whether one of the fields has the name and the type that the expression means
abbrev pub HasField : Frame → (s places : List ℕ) → (fields count name expression : ℕ) → Bool → Type 0
HasField f s places fields count name expression r =
    (fs : List Field) (end : ℕ) (ps : List ℕ) (ts : List Tree) (e : Tree) (n : ℕ)
    → read (many count (field_at f.edition f.names)) s fields ≡ done fs end → Sound f.names s ps ts places
    → read (expression_at f.names) s expression ≡ done e n → AtNames (Known places) e
    → r ≡ has_field fs name (meaning_of (schema_of f.edition s) ps ts e)

-- a trait field that is searched: its expression, the trait's parameters and what they stand for, the fields of the message; and a table of
-- places with room for every name, in which nothing wrong stands
pub record FieldSought (s starts : List ℕ) (f : Frame) (finds places : List ℕ) (list start arguments fields count expression : ℕ) : Type 0 where
  pub ready : Ready s starts f finds
  pub room : f.names ≤ length places
  pub looks : LookAsked f.names 32 s expression list start arguments
  pub sound : Sound f.names s looks.parameters looks.types places
  pub own : List Field
  pub own_end : ℕ
  pub own_read : read (many count (field_at f.edition f.names)) s fields ≡ done own own_end

-- found exactly if the message has the field
abbrev pub FoundIf : Frame → (s : List ℕ) → (list start arguments fields count name expression : ℕ) → Bool → Type 0
FoundIf f s list start arguments fields count name expression r =
    (fs : List Field) (m : ℕ) → read (many count (field_at f.edition f.names)) s fields ≡ done fs m
    → (ps : List ℕ) (ts : List Tree) → Bound f.names s list start arguments ps ts
    → (e : Tree) (end : ℕ) → read (expression_at f.names) s expression ≡ done e end
    → r ≡ has_field fs name (meaning_of (schema_of f.edition s) ps ts e)

-- one look-up for each plain name of the expression, and the position after it: whatever the message's fields, and however many are tried
abbrev pub LooksUp : (names : ℕ) → (s : List ℕ) → (expression look_ups next : ℕ) → Type 0
LooksUp names s expression look_ups next =
    (e : Tree) (end : ℕ) → read (expression_at names) s expression ≡ done e end → (look_ups ≡ occurs e) × (next ≡ end)

-- the table with those names looked up
abbrev pub PlacesHold : (names : ℕ) → (s : List ℕ) → (list start arguments expression : ℕ) → (before after : List ℕ) → Type 0
PlacesHold names s list start arguments expression before after =
    (ps : List ℕ) (ts : List Tree) → Bound names s list start arguments ps ts
    → (e : Tree) (end : ℕ) → read (expression_at names) s expression ≡ done e end
    → after ≡ looked_up (argument_place names s ps start arguments) e before
