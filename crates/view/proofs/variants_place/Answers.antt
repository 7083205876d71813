use mathlib.Core.Path.{ap, ◌∙◌}
use Rattle.number.specs.Answers.{follow}
use Rattle.view.specs.Take.{place_of}
use Rattle.view.specs.Inside.{variants_place}
use Rattle.view.proofs.variants_place.Goals as goal

pub returns : goal.returns
unfolding variants_place follow
returns c = c.place_of.ensures ∙ ap place_of c.skip_stored.ensures
