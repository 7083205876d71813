-- The ten kinds of slots.
use Rattle.std.specs.Prelude.{ℕ, ◌^◌, List, [], ◌∷◌, get_or}
use Rattle.std.proofs.Math.Option.{Option, none, some}
use Rattle.number.specs.Grammar.{kind, name, slot, value, Grammar, give, ◌>>=◌, number, counted}
use Rattle.tree.specs.Tree.{Tree}
use Rattle.tree.specs.TreeAt.{no_kind}
use Rattle.slot.specs.declared.Edition.{Edition}
use Rattle.slot.specs.declared.Edition.TheVariants.{One, Two}
use Rattle.slot.specs.Field.{type_at, expression_at, Span, span_at, Stored, stored_at, Field, fields_at}

pub record Message : Type 0 where
  pub span : Span
  pub stored : Stored
  pub fields : List Field

unfoldable pub message_at : Edition → (names : ℕ) → Grammar Message
message_at ed names = do
  p ← span_at
  z ← stored_at
  fs ← fields_at ed names
  give (record { span = p; stored = z; fields = fs })

-- the ordinals of an enum, or the bits of a flags type
pub record Ordinals : Type 0 where
  pub live : List ℕ
  pub retired : List ℕ

-- edition one has none
unfoldable pub retired_at : Edition → Grammar (List ℕ)
retired_at One = give []
retired_at Two = counted (number value (2 ^ 32))

unfoldable pub ordinals_at : Edition → Grammar Ordinals
ordinals_at ed = do
  os ← counted (number value (2 ^ 32))
  rs ← retired_at ed
  give (record { live = os; retired = rs })

-- the backing is 0 for none and 1 to 4 for U8 to U64; non_exhaustive is 0 or 1
pub record Enum : Type 0 where
  pub backing : ℕ
  pub non_exhaustive : ℕ
  pub stored_bits : ℕ
  pub ordinals : Ordinals

unfoldable pub enum_at : Edition → Grammar Enum
enum_at ed = do
  b ← number value 5
  x ← number value 2
  w ← number value 256
  os ← ordinals_at ed
  give (record { backing = b; non_exhaustive = x; stored_bits = w; ordinals = os })

pub record Flags : Type 0 where
  pub stored_bytes : ℕ
  pub bits : Ordinals

unfoldable pub flags_at : Edition → Grammar Flags
flags_at ed = do
  w ← number value 256
  bs ← ordinals_at ed
  give (record { stored_bytes = w; bits = bs })

pub record Union : Type 0 where
  pub stored : Stored
  pub variants : List (List Field)

unfoldable pub union_at : Edition → (names : ℕ) → Grammar Union
union_at ed names = do
  z ← stored_at
  vs ← counted (fields_at ed names)
  give (record { stored = z; variants = vs })

pub record Newtype : Type 0 where
  pub inner : Tree
  pub terminal : Tree

unfoldable pub newtype_at : (names : ℕ) → Grammar Newtype
newtype_at names = do
  i ← type_at names
  t ← type_at names
  give (record { inner = i; terminal = t })

-- a generic alias
pub record Alias : Type 0 where
  pub parameters : List ℕ
  pub target : Tree

unfoldable pub alias_at : (names : ℕ) → Grammar Alias
alias_at names = do
  ps ← counted (number name names)
  e ← expression_at names
  give (record { parameters = ps; target = e })

pub record TraitField : Type 0 where
  pub field_name : ℕ
  pub type : Tree

unfoldable pub trait_field_at : (names : ℕ) → Grammar TraitField
trait_field_at names = do
  n ← number name names
  e ← expression_at names
  give (record { field_name = n; type = e })

pub record Trait : Type 0 where
  pub parameters : List ℕ
  pub fields : List TraitField

unfoldable pub trait_at : (names : ℕ) → Grammar Trait
trait_at names = do
  ps ← counted (number name names)
  fs ← counted (trait_field_at names)
  give (record { parameters = ps; fields = fs })

-- the trait is 0 for none, else a slot + 1
pub record Impl : Type 0 where
  pub span : Span
  pub trait_id : ℕ
  pub trait_span : Option Span
  pub arguments : List Tree
  pub target : Tree

-- 0, or 1 and then a span
unfoldable pub trait_span_at : Grammar (Option Span)
trait_span_at = do
  k ← number kind 2
  get_or (give none ∷ (do p ← span_at; give (some p)) ∷ []) k no_kind

unfoldable pub impl_at : (names : ℕ) → Grammar Impl
impl_at names = do
  p ← span_at
  i ← number slot (2 ^ 32)
  q ← trait_span_at
  ts ← counted (type_at names)
  t ← type_at names
  give (record { span = p; trait_id = i; trait_span = q; arguments = ts; target = t })

pub data Slot : Type 0 where
  empty : Slot
  message : Message → Slot
  enum : Enum → Slot
  flags : Flags → Slot
  union : Union → Slot
  newtype : Newtype → Slot
  config : Slot
  alias : Alias → Slot
  trait : Trait → Slot
  impl : Impl → Slot

-- a slot of one kind
abbrev pub made : {A : Type 0} → (A → Slot) → Grammar A → Grammar Slot
made f g = do
  x ← g
  give (f x)

-- what each kind holds, from kind 0 on
abbrev pub slot_table : Edition → (names : ℕ) → List (Grammar Slot)
slot_table ed names =
    give empty
    ∷ made message (message_at ed names)
    ∷ made enum (enum_at ed)
    ∷ made flags (flags_at ed)
    ∷ made union (union_at ed names)
    ∷ made newtype (newtype_at names)
    ∷ give config
    ∷ made alias (alias_at names)
    ∷ made trait (trait_at names)
    ∷ made impl (impl_at names)
    ∷ []

unfoldable pub slot_body_at : Edition → (names k : ℕ) → Grammar Slot
slot_body_at ed names k = get_or (slot_table ed names) k no_kind

unfoldable pub slot_at : Edition → (names : ℕ) → Grammar Slot
slot_at ed names = do
  k ← number kind 10
  slot_body_at ed names k

-- a slot's kind in the image
abbrev pub slot_kind : Slot → ℕ
slot_kind empty = 0
slot_kind (message m) = 1
slot_kind (enum e) = 2
slot_kind (flags f) = 3
slot_kind (union u) = 4
slot_kind (newtype n) = 5
slot_kind config = 6
slot_kind (alias a) = 7
slot_kind (trait t) = 8
slot_kind (impl i) = 9
