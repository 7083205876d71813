use native.Mathlib.Omega.{arith}
use Rattle.vexcheck.proofs.Known.{answers_input}
use Rattle.vexcheck.proofs.answer.Goals as goal

pub returns : goal.returns
returns g c = answers_input _ _ _ _ (omega arith) c.take_all-taken.ensures.bytes c.text.ensures
