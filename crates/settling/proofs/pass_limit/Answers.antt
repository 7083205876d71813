use Rattle.settling.specs.Steps.{frame_of}
use Rattle.number.specs.Answers.{follow}
use Rattle.settling.proofs.Settling.{limit_to}
use mathlib.Core.Path.{refl, ap, ◌∙◌}
use Rattle.view.specs.Take.{place_of}
use Rattle.settling.proofs.pass_limit.Goals as goal

pub returns : goal.returns
unfolding follow
returns c = record { worked = refl; next = limit_to (frame_of c.args.scope) _ _ _ (c.place_of-next.ensures ∙ ap place_of c.skip_limit.ensures) }
