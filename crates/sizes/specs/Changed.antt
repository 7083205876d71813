-- Changes of a schema that keep the highest of each list of ordinals or bits, and the size of each field. What they keep besides:
-- sizes/proofs/Changed.antt.
use Prim.Native.Nat.{ℕ}
use Rattle.std.specs.Prelude.{◌≡◌}
use mathlib.Core.List.{List, [], ◌∷◌}
use Rattle.std.proofs.Math.Option.{none}
use Rattle.slot.specs.Field.{Field}
use Rattle.slot.specs.Slot.{Ordinals}
use Rattle.image.specs.Schema.{Schema}
use Rattle.image.specs.Changed.{Change, field_changed}
use Rattle.sizes.specs.Elements.{limited_element}
use Rattle.sizes.specs.Widths.{top_of}
use Rattle.sizes.specs.Sizes.{Resolver, field_alone}
use Rattle.sizes.specs.Names.{Content, fields, variants, bits, terminal, anything, content_of}

-- a change that keeps each highest
abbrev pub KeepsTops : Change → Type 0
KeepsTops c = (o : Ordinals) → top_of (c.ordinals o) ≡ top_of o

-- each of a list
abbrev pub Each : {A : Type 0} → (A → Type 0) → List A → Type 0
Each P [] = Unit {0}
Each P (x ∷ xs) = P x × Each P xs

-- each field of a message, or of a union's variants
abbrev pub EachField : (Field → Type 0) → Content → Type 0
EachField P (fields fs) = Each P fs
EachField P (variants vs) = Each (Each P) vs
EachField P (bits b) = Unit {0}
EachField P (terminal t) = Unit {0}
EachField P anything = Unit {0}

abbrev pub EveryField : (Field → Type 0) → Schema → Type 0
EveryField P S = (i : ℕ) → EachField P (content_of S i)

-- no limit bears on anything
abbrev pub Unlimited : Schema → Type 0
Unlimited S = EveryField (λ f. limited_element f ≡ none) S

-- a field is the same size by itself
abbrev pub SizeKept : Change → Field → Type 0
SizeKept c f = (r : Resolver) → field_alone r (field_changed c f) ≡ field_alone r f

-- a change that keeps each highest and the size of each field
pub record Keeps (c : Change) (S : Schema) : Type 0 where
  pub tops : KeepsTops c
  pub sizes : EveryField (SizeKept c) S
