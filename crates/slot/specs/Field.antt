-- Spans, stored sizes and fields in the image.
use Rattle.std.specs.Prelude.{ℕ, ◌^◌, List, [], ◌∷◌, get_or}
use Rattle.number.specs.Grammar.{kind, name, value, Grammar, give, ◌>>=◌, number, counted}
use Rattle.tree.specs.Tree.{Tree}
use Rattle.tree.specs.TreeAt.{tree_at, no_kind}
use Rattle.tree.specs.Encoding.{Encoding, encoding_at}
use Rattle.tree.specs.declared.Sort.TheVariants.{Resolved, Expression}
use Rattle.slot.specs.declared.Edition.{Edition}
use Rattle.slot.specs.declared.Edition.TheVariants.{One, Two}

-- a type, and an expression, of 32 levels at most
abbrev pub type_at : (names : ℕ) → Grammar Tree
type_at names = tree_at Resolved names 32

abbrev pub expression_at : (names : ℕ) → Grammar Tree
expression_at names = tree_at Expression names 32

pub record Span : Type 0 where
  pub offset : ℕ
  pub length : ℕ

unfoldable pub span_at : Grammar Span
span_at = do
  o ← number value (2 ^ 32)
  l ← number value (2 ^ 32)
  give (record { offset = o; length = l })

-- the size that an image brings for a message or a union
pub data Stored : Type 0 where
  none : Stored
  fixed : (bits : ℕ) → Stored
  -- variable, without a largest
  from : (smallest : ℕ) → Stored
  bounded : (smallest largest : ℕ) → Stored

-- what each kind of stored size holds, from kind 0 on; each number is at most 2^63 − 1
abbrev pub stored_table : List (Grammar Stored)
stored_table =
    give none
    ∷ (do b ← number value (2 ^ 63); give (fixed b))
    ∷ (do m ← number value (2 ^ 63); give (from m))
    ∷ (do m ← number value (2 ^ 63); x ← number value (2 ^ 63); give (bounded m x))
    ∷ []

unfoldable pub stored_at : Grammar Stored
stored_at = do
  k ← number kind 4
  get_or stored_table k no_kind

-- a field of a message or of a variant
pub record Field : Type 0 where
  pub field_name : ℕ
  pub encoding : Encoding
  pub type : Tree
  -- how many elements it may have at most, 0 for no limit
  pub limit : ℕ

-- edition one has no limits
unfoldable pub limit_at : Edition → Grammar ℕ
limit_at One = give 0
limit_at Two = number value (2 ^ 32)

unfoldable pub field_at : Edition → (names : ℕ) → Grammar Field
field_at ed names = do
  n ← number name names
  e ← encoding_at 32
  t ← type_at names
  l ← limit_at ed
  give (record { field_name = n; encoding = e; type = t; limit = l })

abbrev pub fields_at : Edition → (names : ℕ) → Grammar (List Field)
fields_at ed names = counted (field_at ed names)
