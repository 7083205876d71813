-- The grammar of the image: which numbers stand in it, in order, each with its role and its limit, and what they make.
-- Reading is one use of it; whatever else goes through an image's numbers in order uses the same definitions.
use Rattle.std.specs.Prelude.{ℕ, zero, suc, List, [], ◌∷◌, cond, ltb}
use Rattle.number.specs.Number.{number_at}
use Rattle.number.specs.declared.Number.{Number}

-- what a number is for: the kind of what follows, a name, a slot, how many things follow, or a value
pub data Role : Type 0 where
  kind name slot count value : Role

pub data Grammar (A : Type 0) : Type 0 where
  -- nothing more: this was made
  give : A → Grammar A
  -- a number below a limit, and what follows it
  take : Role → (limit : ℕ) → (ℕ → Grammar A) → Grammar A
  -- what follows, given the position
  place : (ℕ → Grammar A) → Grammar A
  -- a refusal, with its place
  refuse : (number place : ℕ) → Grammar A

-- one thing after another
unfoldable pub ◌>>=◌ : {A B : Type 0} → Grammar A → (A → Grammar B) → Grammar B
◌>>=◌ (give a) f = f a
◌>>=◌ (take role limit k) f = take role limit (λ v. ◌>>=◌ (k v) f)
◌>>=◌ (place k) f = place (λ p. ◌>>=◌ (k p) f)
◌>>=◌ (refuse r p) f = refuse r p

-- a number below a limit
abbrev pub number : Role → (limit : ℕ) → Grammar ℕ
number role limit = take role limit give

-- the position
abbrev pub here : Grammar ℕ
here = place give

-- so many things of one kind, in order
unfoldable pub many : {A : Type 0} → ℕ → Grammar A → Grammar (List A)
many zero g = give []
many (suc n) g = do
  x ← g
  xs ← many n g
  give (x ∷ xs)

-- a count without a limit of its own, and so many things of one kind
unfoldable pub counted : {A : Type 0} → Grammar A → Grammar (List A)
counted g = do
  c ← number count 65537
  many c g

-- a kind where no level is left: refusal 5 at the kind
unfoldable pub too_deep : {A : Type 0} → (kinds : ℕ) → Grammar A
too_deep kinds = do
  at ← here
  k ← number kind kinds
  refuse 5 at

-- what nests: a head, whose kind is below `kinds`, and then what the head asks for, each part one level down
unfoldable pub nested : {H A : Type 0} → (kinds : ℕ) → Grammar H → (Grammar A → H → Grammar A) → (levels : ℕ) → Grammar A
nested kinds head fill zero = too_deep kinds
nested kinds head fill (suc levels) = do
  h ← head
  fill (nested kinds head fill levels) h

-- what reading gives: what was read with the position after it, or a refusal's number and place
pub data Outcome (A : Type 0) : Type 0 where
  done : A → (next : ℕ) → Outcome A
  refused : (number place : ℕ) → Outcome A

-- what follows a reading; a refusal ends it
unfoldable pub and_then : {A B : Type 0} → Outcome A → (A → ℕ → Outcome B) → Outcome B
and_then (done a next) f = f a next
and_then (refused r p) f = refused r p

-- a number that was read at `at` has to be below a limit: refusal 4 if it is not
unfoldable pub ranged : (at limit : ℕ) → Number → Outcome ℕ
ranged at limit (Number.Value v next) = cond (ltb v limit) (done v next) (refused 4 at)
ranged at limit (Number.Refused r) = refused r at

-- the number at a position, below a limit: refusals 2, 3 and 4 are tested in this order
unfoldable pub below : (limit : ℕ) → List ℕ → (at : ℕ) → Outcome ℕ
below limit s at = ranged at limit (number_at s at)

-- reading bytes from a position on
unfoldable pub read : {A : Type 0} → Grammar A → List ℕ → (at : ℕ) → Outcome A
read (give a) s at = done a at
read (take role limit k) s at = and_then (below limit s at) (λ v next. read (k v) s next)
read (place k) s at = read (k at) s at
read (refuse r p) s at = refused r p
