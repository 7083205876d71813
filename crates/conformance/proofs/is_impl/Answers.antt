use Prim.Native.Nat.{ℕ}
use mathlib.Core.Path.{sym, ap, ◌∙◌}
use lib.Dec.{eqb}
use Rattle.reader.proofs.Fetching.{part_behind, not_missing}
use Rattle.conformance.proofs.is_impl.Goals as goal

pub returns-in-At : goal.returns-in-At
returns-in-At c = λ f p l. ap (λ (n : ℕ). eqb n 9) (sym (part_behind _ _ f p _ l _ _ (sym c.slot_part.ensures ∙ c.in-At.is)).kind_is)

pub returns-in-Missing : goal.returns-in-Missing
returns-in-Missing c = λ f p l. absurd (not_missing _ _ f p _ l (sym c.slot_part.ensures ∙ c.in-Missing.is))
