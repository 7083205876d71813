-- What the code takes out of the image, and where the rest of an impl and of a trait stands.
use Rattle.std.specs.Prelude.{ℕ, ◌≤◌, ◌≡◌, List, length}
use Rattle.std.proofs.Math.Option.{Option}
use Rattle.number.specs.Grammar.{name, number, many, counted, done, read}
use Rattle.slot.specs.Field.{type_at, Span}
use Rattle.slot.specs.Slot.{trait_field_at, Trait, Impl, trait_span_at}
use Rattle.findings.specs.Conformance.{span_or}
use Rattle.conformance.specs.declared.TraitSpan.{TraitSpan}
use Rattle.conformance.specs.declared.ImplDef.{ImplDef}
use Rattle.conformance.specs.declared.TraitDef.{TraitDef}

abbrev pub span_of : (offset length : ℕ) → Span
span_of o l = record { offset = o; length = l }

-- the span that stands there, or else the one that is brought
abbrev pub SpanIs : List ℕ → (at offset length : ℕ) → TraitSpan → Type 0
SpanIs s at o l r =
    (p : Option Span) (end : ℕ) → read trait_span_at s at ≡ done p end → (span_of r.offset r.length ≡ span_or p (span_of o l)) × (r.next ≡ end)

pub record ImplIs (names : ℕ) (s : List ℕ) (d : ImplDef) (x : Impl) : Type 0 where
  pub span : span_of d.offset d.length ≡ x.span
  pub trait_id : d.trait_id ≡ x.trait_id
  pub trait_span : span_of d.trait_offset d.trait_length ≡ span_or x.trait_span x.span
  pub arguments_end : ℕ
  pub arguments : read (many d.type_arg_count (type_at names)) s d.type_args ≡ done x.arguments arguments_end
  pub target_end : ℕ
  pub target : read (type_at names) s d.target_type ≡ done x.target target_end

pub record TraitIs (names : ℕ) (s : List ℕ) (d : TraitDef) (t : Trait) : Type 0 where
  pub parameters_end : ℕ
  pub parameters : read (counted (number name names)) s d.type_params ≡ done t.parameters parameters_end
  pub parameter_count : d.type_param_count ≡ length t.parameters
  pub fields_end : ℕ
  pub fields : read (many d.field_count (trait_field_at names)) s d.fields ≡ done t.fields fields_end
  pub few : d.field_count ≤ 65536
