use mathlib.Core.Path.{sym}
use native.Mathlib.Omega.{arith}
use lib.Seq.{set_out}
use Rattle.image.proofs.note.Goals as goal

pub returns-else-i-starts : goal.returns-else-i-starts
returns-else-i-starts c = sym (set_out _ _ _ (omega arith))
