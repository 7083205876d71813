use mathlib.Core.Path.{sym, ◌∙◌}
use native.Mathlib.Omega.{arith}
use Rattle.reader.proofs.Judging.{first_places, seen, judged_said, refused_said}
use Rattle.reader.proofs.read_into.Goals as goal

pub slice_bounds-judge-end : goal.slice_bounds-judge-end
slice_bounds-judge-end c = omega (arith, (seen _ _ _ _ _ c.requires (sym c.in-Read.is ∙ c.read_image.ensures.answer) c.read_image.ensures.table).0)

pub judge-requires : goal.judge-requires
judge-requires c = rw first_places at (seen _ _ _ _ _ c.requires (sym c.in-Read.is ∙ c.read_image.ensures.answer) c.read_image.ensures.table).2

pub returns-in-Read : goal.returns-in-Read
returns-in-Read c = judged_said _ _ _ _ _ c.requires (sym c.in-Read.is ∙ c.read_image.ensures.answer) c.read_image.ensures.table _ c.judge.ensures

pub returns-in-Refused : goal.returns-in-Refused
returns-in-Refused c = refused_said _ _ _ _ _ _ (sym c.in-Refused.is ∙ c.read_image.ensures.answer) c.read_image.ensures.table
