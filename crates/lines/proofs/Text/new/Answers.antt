use mathlib.Core.Path.{refl}
use Rattle.lines.proofs.Growing.{started}
use Rattle.lines.proofs.Text.new.Goals as goal

pub returns-clause-text : goal.returns-clause-text
returns-clause-text c = started _ (c.fill.ensures.after (λ y h. h)) refl c.append.ensures
