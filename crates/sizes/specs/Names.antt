-- What a name comes to, from the sizes that are stored and the slots that are being worked out.
use Rattle.std.specs.Prelude.{◌≡◌, ℕ, zero, suc, ◌*◌, Bool, false, cond, ◌||◌, List, length, eqb}
use Rattle.std.proofs.Math.Option.{Option, none, some}
use Rattle.tree.specs.Tree.{Tree}
use Rattle.slot.specs.Field.{Field}
use Rattle.slot.specs.Slot.{Slot, empty, message, enum, flags, union, newtype, config, alias, trait, impl}
use Rattle.image.specs.Schema.{Schema, slot_of}
use Rattle.sizes.specs.Widths.{enum_bits_at, flags_bytes_at}
use Rattle.sizes.specs.Sizes.{Size, Fixed, Open, Layout, Worked, Sized, Resolver, type_size, fields_size, union_size}

-- what a slot is to a name of it
pub data Content : Type 0 where
  -- a message
  fields : List Field → Content
  -- a union, by the fields of each variant
  variants : List (List Field) → Content
  -- an enum or flags, Fixed at so many bits
  bits : ℕ → Content
  -- a newtype
  terminal : Tree → Content
  -- empty, missing and other slots
  anything : Content

unfoldable pub content_in : Schema → (slot : ℕ) → Slot → Content
content_in S i empty = anything
content_in S i (message m) = fields m.fields
content_in S i (enum e) = bits (enum_bits_at S i e)
content_in S i (flags f) = bits (8 * flags_bytes_at S i f)
content_in S i (union u) = variants u.variants
content_in S i (newtype n) = terminal n.terminal
content_in S i config = anything
content_in S i (alias a) = anything
content_in S i (trait t) = anything
content_in S i (impl m) = anything

unfoldable pub content_of : Schema → (slot : ℕ) → Content
content_of S i = content_in S i (slot_of S i)

-- the stored size of each slot
abbrev pub State : Type 0
State = ℕ → Option Size

-- which slots are being worked out
abbrev pub Working : Type 0
Working = ℕ → Bool

abbrev pub nothing : Working
nothing j = false

abbrev pub inserted : (slot : ℕ) → Working → Working
inserted i working j = eqb j i || working j

abbrev pub or_else : Option Size → Worked → Worked
or_else (some s) w = Sized s
or_else none w = w

-- a slot that is not being worked out: a message or union uses its stored size if any, else its fields are worked out, with
-- the slot being worked out inside; a newtype is its terminal
unfoldable pub content_size : Layout → (stored : Option Size) → (beside inside : Resolver) → Content → Worked
content_size L stored beside inside (fields fs) = or_else stored (fields_size L inside fs)
content_size L stored beside inside (variants vs) = or_else stored (union_size L inside vs)
content_size L stored beside inside (bits b) = Sized (Fixed b)
content_size L stored beside inside (terminal t) = type_size beside t
content_size L stored beside inside anything = Sized (Open 0)

-- the rule for a name, given what the names in its parts come to: an id being worked out is tested first
unfoldable pub name_rule : Layout → Schema → State → (Working → Resolver) → Working → Resolver
name_rule L S st names working i =
    cond (working i) (Sized (Open 0)) (content_size L (st i) (names working) (names (inserted i working)) (content_of S i))

-- the rule, so many times over
unfoldable pub name_within : Layout → Schema → State → (times : ℕ) → Working → Resolver
name_within L S st zero working i = Sized (Open 0)
name_within L S st (suc k) working i = name_rule L S st (name_within L S st k) working i

-- newtypes are passed again for each slot being worked out
abbrev pub enough : Schema → ℕ
enough S = suc (length S.slots) * suc (suc (length S.slots))

-- it obeys the rule, and nothing else does (`NamesObey`)
unfoldable pub name_size : Layout → Schema → State → Working → Resolver
name_size L S st working i = name_within L S st (enough S) working i

-- what goes by the rule for names, whatever is being worked out
abbrev pub GoesByRule : Layout → Schema → State → (Working → Resolver) → Type 0
GoesByRule L S st names = (working : Working) (i : ℕ) → names working i ≡ name_rule L S st names working i

-- whatever is stored, names go by the rule, and nothing else does: how many times over is no part of what a name comes to
pub record NamesObey (L : Layout) (S : Schema) : Type 0 where
  pub obey : (st : State) → GoesByRule L S st (name_size L S st)
  pub alone : (st : State) (names : Working → Resolver) → GoesByRule L S st names → (working : Working) (i : ℕ) →
      names working i ≡ name_size L S st working i
