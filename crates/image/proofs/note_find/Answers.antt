use mathlib.Core.Path.{sym}
use native.Mathlib.Omega.{arith}
use lib.Seq.{set_out}
use Rattle.image.proofs.note_find.Goals as goal

pub returns-else-i-finds : goal.returns-else-i-finds
returns-else-i-finds c = sym (set_out _ _ _ (omega arith))
