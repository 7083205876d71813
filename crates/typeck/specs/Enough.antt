-- The limits inside the definitions of findings are no part of them: a larger one changes nothing.
use Rattle.std.specs.Prelude.{ℕ, ◌≤◌, ◌≡◌, Bool, length}
use Rattle.tree.specs.Tree.{Tree}
use Rattle.image.specs.Schema.{Schema}
use Rattle.findings.specs.Meaning.{applied}
use Rattle.findings.specs.Endless.{walk_name}
use Rattle.findings.specs.declared.RecursionState.{RecursionState}

pub record LimitsEnough (S : Schema) : Type 0 where
  -- a generic, through more than 512 aliases
  pub aliases : (chain : ℕ) → 512 ≤ chain → (name : ℕ) (t : Tree) → applied S chain name t ≡ applied S 512 name t
  -- a name, with more than 513 names within one another, from any state over 512 slots
  pub walks : (within : ℕ) → 513 ≤ within → (slot : ℕ) (direct : Bool) (st : RecursionState)
      → length st.path ≡ 512 → length st.visited ≡ 512 → walk_name S within slot direct st ≡ walk_name S 513 slot direct st
