use mathlib.Core.Path.{ap, ◌∙◌}
use Rattle.number.specs.Grammar.{read}
use Rattle.number.specs.Answers.{next, follow}
use Rattle.number.specs.declared.Next.{Next}
use Rattle.slot.specs.Field.{stored_at}
use Rattle.view.specs.Take.{place_of}
use Rattle.view.specs.Inside.{fields_place}
use Rattle.view.proofs.fields_place.Goals as goal

pub returns : goal.returns
unfolding fields_place follow
returns c = c.place_of.ensures ∙ ap place_of (c.skip_stored.ensures ∙ ap (λ (a : Next). follow a (λ n. next (read stored_at c.args.image.now n))) c.skip_span-span.ensures)
