use native.Mathlib.Omega.{arith}
use Rattle.tree.proofs.Ranges.{past}
use mathlib.Core.Path.{sym, ◌∙◌}
use Rattle.number.specs.Grammar.{value, read}
use Rattle.number.proofs.Reading.{told}
use Rattle.slot.specs.Field.{stored_table, fixed, from}
use Rattle.slot.proofs.Steps.{stored_on, stored_refused, one_number, two_numbers, past_table}
use Rattle.slot.proofs.read_stored.Goals as goal

pub returns-in-0 : goal.returns-in-0
unfolding read
returns-in-0 c = sym (stored_on _ _ _ _ (told c.read_below.ensures c.in-Value.is) ∙ rw c.in-0.is)

pub returns-in-1 : goal.returns-in-1
returns-in-1 c = sym (stored_on _ _ _ _ (told c.read_below.ensures c.in-Value.is) ∙ rw c.in-1.is (one_number _ _ fixed _ c.skip_below.ensures))

pub returns-in-2 : goal.returns-in-2
returns-in-2 c = sym (stored_on _ _ _ _ (told c.read_below.ensures c.in-Value.is) ∙ rw c.in-2.is (one_number _ _ from _ c.skip_below-in-2.ensures))

pub returns-in-3 : goal.returns-in-3
returns-in-3 c = sym (stored_on _ _ _ _ (told c.read_below.ensures c.in-Value.is) ∙ rw c.in-3.is (two_numbers _ _ _ _ c.skip_below-smallest.ensures (c.skip.ensures value)))

pub returns-in_default : goal.returns-in_default
returns-in_default c = let r = c.in_default.in_default-own.rest in sym (stored_on _ _ _ _ (told c.read_below.ensures c.in-Value.is) ∙ past_table _ _ stored_table _ (past 3 _ (past 2 _ (past 1 _ (past 0 _ (omega arith) r.0.0.0.1) r.0.0.1) r.0.1) r.1))

pub returns-in-Refused : goal.returns-in-Refused
returns-in-Refused c = sym (stored_refused _ _ _ _ (told c.read_below.ensures c.in-Refused.is))
