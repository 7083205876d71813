-- How the text in a buffer grows.
use Rattle.std.specs.Prelude.{ℕ, ◌≡◌, List, ◌++◌, length}
use Rattle.lines.specs.Lines.{Holds}
use Rattle.lines.specs.declared.Text.{Text}

-- a text put behind the one that the buffer holds
pub record Grows (before : Text) (more : List ℕ) (after : Text) : Type 0 where
  pub same_buffer : after.out.ghost_name ≡ before.out.ghost_name
  pub long : length after.out.now ≡ length before.out.now
  pub grown : (places : ℕ) (text : List ℕ) → Holds places text before.out.now before.used → Holds places (text ++ more) after.out.now after.used
