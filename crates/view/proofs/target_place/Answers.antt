use mathlib.Core.Path.{ap, ◌∙◌}
use Rattle.number.specs.Grammar.{name}
use Rattle.number.specs.Answers.{follow}
use Rattle.view.specs.Take.{place_of}
use Rattle.view.specs.Inside.{target_place}
use Rattle.view.proofs.target_place.Goals as goal

pub returns : goal.returns
unfolding target_place follow
returns c = rw (← c.name_count-names.ensures) (c.place_of.ensures ∙ ap place_of (c.skip_counted.ensures name))
