-- The text for each outcome of the read. Assumes nothing.
use Prim.Native.Nat.{ℕ, ◌-◌, ◌≤◌}
use mathlib.Core.Path.{◌≡◌}
use mathlib.Core.List.{List}
use native.Mathlib.Omega.{arith}
use lib.ListN.{take}
use Rattle.std.specs.Prelude.{Result, Ok, Err}
use Rattle.lines.specs.Lines.{refused_text, Holds, Written}
use Rattle.lines.proofs.Bound.{refused_most}
use Rattle.lines.proofs.Whole.{written_whole}
use Rattle.report.specs.Text.{text_for}
use Rattle.vexcheck.specs.Input.{text_of_input}

module _ {E : Type 0} (p : ℕ) (room : 180000 ≤ p) (t : Result ℕ E) (buffer out : List ℕ) (r : ℕ) where
  pub failed_written : (e : E) → t ≡ Err e → Holds p (refused_text 0 0) out r → take r out ≡ text_of_input t buffer
  unfolding text_of_input
  failed_written e q h =
      let z : r - 0 ≡ r = omega arith in
      rw q (rw z at (written_whole p r (refused_text 0 0) out (record { holds = h; most = refused_most 0 0 (omega arith) (omega arith) }) room))

  pub image_written : (n : ℕ) → t ≡ Ok n → Written p (text_for (take n buffer)) out r → take r out ≡ text_of_input t buffer
  unfolding text_of_input
  image_written n q h = let z : r - 0 ≡ r = omega arith in rw q (rw z at (written_whole p r (text_for (take n buffer)) out h room))
