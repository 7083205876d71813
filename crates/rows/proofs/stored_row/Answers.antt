use mathlib.Core.Path.{◌∙◌}
use native.Mathlib.Omega.{arith}
use Rattle.rows.proofs.Slots.{stored_fixed, stored_from, stored_bounded, stored_none}
use Rattle.rows.proofs.stored_row.Goals as goal

pub returns-in-1 : goal.returns-in-1
returns-in-1 c = λ z n e. c.size_row.ensures ∙ stored_fixed _ _ _ _ c.take-kind.ensures z n e _ _ c.take-bits.ensures c.in-1.is

pub returns-in-2 : goal.returns-in-2
returns-in-2 c = λ z n e. c.size_row-in-2.ensures ∙ stored_from _ _ _ _ c.take-kind.ensures z n e _ _ c.take-smallest.ensures c.in-2.is

pub returns-in-3 : goal.returns-in-3
returns-in-3 c = λ z n e. c.size_row-in-3.ensures ∙ stored_bounded _ _ _ _ c.take-kind.ensures z n e _ _ _ _ c.take-smallest-in-3.ensures c.take-largest.ensures c.in-3.is

pub returns-in_default : goal.returns-in_default
returns-in_default c = λ z n e. c.blank_row.ensures ∙ stored_none _ _ _ _ c.take-kind.ensures z n e (λ q. omega arith) (λ q. omega arith) (λ q. omega arith)
