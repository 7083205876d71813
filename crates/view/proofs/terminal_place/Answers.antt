use mathlib.Core.Path.{ap, ◌∙◌}
use Rattle.view.specs.Take.{place_of}
use Rattle.view.specs.Inside.{terminal_place}
use Rattle.view.proofs.terminal_place.Goals as goal

pub returns : goal.returns
unfolding terminal_place
returns c = rw (← c.name_count-names.ensures) (c.place_of.ensures ∙ ap place_of c.read_tree.ensures)
