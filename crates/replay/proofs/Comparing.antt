-- Recorded texts compared. Assumes nothing.
use Prim.Native.Nat.{ℕ, ◌-◌, ◌≤◌}
use mathlib.Core.Path.{◌≡◌, sym, ◌∙◌}
use mathlib.Core.List.{List}
use native.Mathlib.Omega.{arith}
use lib.ListN.{take}
use Rattle.lines.specs.Lines.{Written}
use Rattle.lines.proofs.Whole.{written_whole}
use Rattle.report.specs.Text.{text_for}
use Rattle.replay.specs.Compared.{Compared}
use Rattle.replay.specs.declared.Outcome.{Outcome}

module _ (p : ℕ) (image text out : List ℕ) (used : ℕ) (h : Written p (text_for image) out used) (l : 180000 ≤ p) where
  whole : take used out ≡ text_for image
  whole = let e : used - 0 ≡ used = omega arith in rw e at (written_whole p used (text_for image) out h l)

  pub same_said : (number : ℕ) → take used out ≡ text → Compared image text (Outcome.Same number)
  unfolding Compared
  same_said number e = sym whole ∙ e

  pub differs_said : (take used out ≡ text → ⊥) → Compared image text Outcome.Differs
  unfolding Compared
  differs_said e = λ q. e (whole ∙ q)
