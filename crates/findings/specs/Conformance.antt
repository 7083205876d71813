-- Trait fields: `check_impl_conformance` and `check_trait_fields`. Classes 2, 3 and 4.
use Rattle.std.specs.Prelude.{ℕ, suc, List, [], ◌∷◌, ◌++◌, Bool, true, false, cond, eqb, length}
use Rattle.std.proofs.Math.Option.{Option, none, some}
use Rattle.tree.specs.Tree.{Tree}
use Rattle.slot.specs.Field.{Span, Field}
use Rattle.slot.specs.Slot.{Slot, empty, Message, message, enum, flags, union, newtype, config, alias, Trait, TraitField, trait, Impl, impl, slot_kind}
use Rattle.image.specs.Schema.{Schema, slot_of}
use Rattle.findings.specs.Finding.{finding}
use Rattle.findings.specs.Meaning.{slot_found, value_of, meaning_of}
use Rattle.findings.specs.Compatible.{same_tree}
use Rattle.findings.specs.declared.Finding.{Finding}
use Rattle.findings.specs.declared.Value.{Value}
use Rattle.findings.specs.declared.Value.TheVariants.{Id, NotName}

-- whether a field has a name and a type
unfoldable pub is_field : Field → (name : ℕ) → Tree → Bool
is_field f name x = cond (eqb f.field_name name) (same_tree f.type x) false

-- whether one of the fields has both
unfoldable pub has_field : List Field → (name : ℕ) → Tree → Bool
has_field [] name x = false
has_field (f ∷ fs) name x = cond (is_field f name x) true (has_field fs name x)

-- class 4 for each trait field, by its index, that no field of the message has with its name and the type it means
unfoldable pub lacking : Schema → (slot : ℕ) → Impl → (parameters : List ℕ) → Message → (index : ℕ) → List TraitField → List Finding
lacking S i x ps m k [] = []
lacking S i x ps m k (f ∷ fs) =
    cond (has_field m.fields f.field_name (meaning_of S ps x.arguments f.type))
    (lacking S i x ps m (suc k) fs)
    (finding 4 i x.span k 0 ∷ lacking S i x ps m (suc k) fs)

-- by the slot that the target names: nothing where none is there, class 3 where it is no message
abbrev pub on_target : Schema → (slot : ℕ) → Impl → Trait → Slot → List Finding
on_target S i x t empty = []
on_target S i x t (message m) = lacking S i x t.parameters m 0 t.fields
on_target S i x t (enum e) = finding 3 i x.span 0 0 ∷ []
on_target S i x t (flags f) = finding 3 i x.span 0 0 ∷ []
on_target S i x t (union u) = finding 3 i x.span 0 0 ∷ []
on_target S i x t (newtype n) = finding 3 i x.span 0 0 ∷ []
on_target S i x t config = finding 3 i x.span 0 0 ∷ []
on_target S i x t (alias a) = finding 3 i x.span 0 0 ∷ []
on_target S i x t (trait u) = finding 3 i x.span 0 0 ∷ []
on_target S i x t (impl y) = finding 3 i x.span 0 0 ∷ []

-- a target that is no name: nothing
abbrev pub on_value : Schema → (slot : ℕ) → Impl → Trait → Value → List Finding
on_value S i x t (Id j) = on_target S i x t (slot_of S j)
on_value S i x t NotName = []

-- the trait's span if it is given, else the impl's
abbrev pub span_or : Option Span → Span → Span
span_or (some p) q = p
span_or none q = q

-- class 2 if the arity differs, and the impl is done
unfoldable pub conforming : Schema → (slot : ℕ) → Impl → Trait → List Finding
conforming S i x t =
    cond (eqb (length t.parameters) (length x.arguments))
    (on_value S i x t (value_of x.target))
    (finding 2 i (span_or x.trait_span x.span) (length t.parameters) (length x.arguments) ∷ [])

-- by the slot that the impl gives as its trait: skipped where no trait is there
abbrev pub on_trait : Schema → (slot : ℕ) → Impl → Slot → List Finding
on_trait S i x (trait t) = conforming S i x t
on_trait S i x empty = []
on_trait S i x (message m) = []
on_trait S i x (enum e) = []
on_trait S i x (flags f) = []
on_trait S i x (union u) = []
on_trait S i x (newtype n) = []
on_trait S i x config = []
on_trait S i x (alias a) = []
on_trait S i x (impl y) = []

abbrev pub impl_findings : Schema → (slot : ℕ) → Slot → List Finding
impl_findings S i (impl x) = on_trait S i x (slot_found S x.trait_id)
impl_findings S i empty = []
impl_findings S i (message m) = []
impl_findings S i (enum e) = []
impl_findings S i (flags f) = []
impl_findings S i (union u) = []
impl_findings S i (newtype n) = []
impl_findings S i config = []
impl_findings S i (alias a) = []
impl_findings S i (trait t) = []

-- all impl slots in order
unfoldable pub conformance_of : Schema → (slot : ℕ) → List Slot → List Finding
conformance_of S i [] = []
conformance_of S i (x ∷ xs) = impl_findings S i x ++ conformance_of S (suc i) xs

-- whether one of the slots holds an impl
unfoldable pub has_impl : List Slot → Bool
has_impl [] = false
has_impl (x ∷ xs) = cond (eqb (slot_kind x) 9) true (has_impl xs)
