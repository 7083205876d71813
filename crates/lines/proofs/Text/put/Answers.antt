use mathlib.Core.Path.{refl}
use Rattle.lines.proofs.Growing.{placed, left_out}
use Rattle.lines.proofs.Text.put.Goals as goal

pub returns-then-self : goal.returns-then-self
returns-then-self c = placed _ _ _ c.if-self.true refl refl refl

pub returns-else-self : goal.returns-else-self
returns-else-self c = left_out _ _ c.if-self.false
