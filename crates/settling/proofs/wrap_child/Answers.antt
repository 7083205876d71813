use mathlib.Core.Path.{refl, sym, ap, ◌∙◌}
use Rattle.sizes.specs.Elements.{count_of}
use Rattle.sizes.specs.Sizes.{wrap_size}
use Rattle.measures.proofs.ByKind.{wrap_at}
use Rattle.settling.proofs.Ended.{not_over}
use Rattle.settling.proofs.Heads.{wrap_over}
use Rattle.settling.proofs.wrap_child.Goals as goal

pub returns-in-Sized : goal.returns-in-Sized
returns-in-Sized c = λ w e a b. record { next = refl; sized = λ z q. (_, c.in-Sized.is); worked = wrap_at w _ e c.wrap_wire_size.ensures ∙ ap (wrap_size (count_of w)) (sym c.in-Sized.is) }

pub returns-in-Over : goal.returns-in-Over
returns-in-Over c = λ w e a b. record { next = refl; sized = λ z q. absurd (not_over c.in-Over.is q); worked = c.in-Over.is ∙ wrap_over w (λ z. a (sym e ∙ z)) (λ z. b (sym e ∙ z)) _ ∙ ap (wrap_size (count_of w)) (sym c.in-Over.is) }
