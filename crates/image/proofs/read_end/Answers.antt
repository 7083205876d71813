use mathlib.Core.Path.{sym, ◌∙◌}
use Rattle.image.specs.Image.{front_with}
use Rattle.image.proofs.Framing.{extra, complete, no_end}
use Rattle.image.proofs.read_end.Goals as goal

pub returns-then-end-image : goal.returns-then-end-image
returns-then-end-image c = λ fs ss. extra _ _ _ _ _ _ _ _ (sym c.in-Read.is ∙ c.read_declared.ensures) c.if-end-image.true

pub returns-else-end-image : goal.returns-else-end-image
returns-else-end-image c = λ fs ss. complete _ _ _ (front_with c.args.names c.args.finds fs c.args.slots) ss _ _ _ (sym c.in-Read.is ∙ c.read_declared.ensures) c.if-end-image.false

pub returns-in-Refused : goal.returns-in-Refused
returns-in-Refused c = λ fs ss. no_end _ _ _ _ _ _ _ (sym c.in-Refused.is ∙ c.read_declared.ensures)
