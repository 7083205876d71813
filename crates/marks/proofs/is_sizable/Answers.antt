-- By the slot's kind. Assumes nothing.
use native.Mathlib.Omega.{arith}
use mathlib.Core.Path.{sym, ◌∙◌}
use Rattle.reader.proofs.Fetching.{part_behind, not_missing}
use Rattle.marks.proofs.Starting.{sizable, not_sizable}
use Rattle.marks.proofs.is_sizable.Goals as goal

pub returns-in-1 : goal.returns-in-1
returns-in-1 c = sizable (part_behind _ _ _ c.requires.0 _ c.requires.1 _ _ (sym c.slot_part.ensures ∙ c.in-At.is)) c.in-1.is

pub returns-in_default : goal.returns-in_default
returns-in_default c = not_sizable (part_behind _ _ _ c.requires.0 _ c.requires.1 _ _ (sym c.slot_part.ensures ∙ c.in-At.is)) (λ e. grind arith) (λ e. grind arith)

pub returns-in-Missing : goal.returns-in-Missing
returns-in-Missing c = absurd (not_missing _ _ _ c.requires.0 _ c.requires.1 (sym c.slot_part.ensures ∙ c.in-Missing.is))
