-- Contracts of inner functions: what the steps of marking say of a table of bits.
use Rattle.std.specs.Prelude.{ℕ, ◌≡◌, List}
use Rattle.number.specs.Grammar.{Grammar, done, read}
use Rattle.slot.specs.Field.{limit_at, Field, field_at}
use Rattle.slot.specs.declared.Edition.{Edition}
use Rattle.loops.specs.Marks.{Led}
use Rattle.bare.specs.Bare.{type_names}

-- what stands at a position was marked in a row, and `next` is the position after it
pub record Marks {A : Type 0} (g : Grammar A) (names : A → List ℕ) (s : List ℕ) (at row : ℕ) (before after : List ℕ) (next : ℕ) : Type 0 where
  pub marked : (x : A) (end : ℕ) → read g s at ≡ done x end → Led before row (names x) after × (next ≡ end)

-- a field's type was marked, and its limit stands at `next`
pub record Typed (names : ℕ) (s : List ℕ) (at row : ℕ) (before after : List ℕ) (next : ℕ) : Type 0 where
  pub marked : (ed : Edition) (x : Field) (end : ℕ) → read (field_at ed names) s at ≡ done x end
      → Led before row (type_names x.type) after × (read (limit_at ed) s next ≡ done x.limit end)
