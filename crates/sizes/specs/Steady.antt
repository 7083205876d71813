-- The size of a slot by itself. When that is its size at every turn: sizes/proofs/Steady.antt.
use Prim.Native.Nat.{ℕ}
use Rattle.std.specs.Prelude.{◌≡◌, false}
use Rattle.std.proofs.Math.Option.{none, some}
use Rattle.image.specs.Schema.{Schema}
use Rattle.sizes.specs.Sizes.{Layout, Size, Sized, Resolver}
use Rattle.sizes.specs.Names.{State, Working, nothing, name_size}
use Rattle.sizes.specs.Lengths.{MadeOf}

-- nothing is stored
abbrev pub no_sizes : State
no_sizes j = none

-- the size of a slot by itself: nothing is stored, nothing is being worked out
unfoldable pub plain_size : Layout → Schema → Resolver
plain_size L S i = name_size L S no_sizes nothing i

-- each stored size of what the slot is made of is its size by itself
abbrev pub Settled : Layout → Schema → State → ℕ → Type 0
Settled L S st i = (j : ℕ) → MadeOf S i j → (s : Size) → st j ≡ some s → plain_size L S j ≡ Sized s

-- nothing that the slot is made of is being worked out
abbrev pub Apart : Schema → Working → ℕ → Type 0
Apart S w i = (j : ℕ) → MadeOf S i j → w j ≡ false
