use mathlib.Core.Path.{sym, ap, ◌∙◌}
use Rattle.sizes.specs.declared.Worked.TheVariants.{Over}
use Rattle.level.specs.Level.{answer_row}
use Rattle.level.proofs.answer_row.Goals as goal

pub returns-in-Sized : goal.returns-in-Sized
unfolding answer_row
returns-in-Sized c = c.size_row.ensures ∙ ap answer_row (sym c.in-Sized.is)

pub returns-in-Sum : goal.returns-in-Sum
unfolding answer_row
returns-in-Sum c = ap answer_row (sym (c.in-Over.is ∙ ap Over c.in-Sum.is))

pub returns-in-Product : goal.returns-in-Product
unfolding answer_row
returns-in-Product c = ap answer_row (sym (c.in-Over.is ∙ ap Over c.in-Product.is))
