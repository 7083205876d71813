use native.Mathlib.Omega.{arith}
use Rattle.meanings.proofs.Aliases.{alias_none, alias_missing, alias_other, alias_at_lem, alias_cut}
use Rattle.meanings.proofs.alias_of.Goals as goal

pub returns-in_err-slot : goal.returns-in_err-slot
returns-in_err-slot c = rw c.from_residual.ensures (alias_none _ _ _ _ c.requires _ (omega (arith, c.find.ensures, c.in_err-slot.ensures)))

pub returns-in-At-skip_counted : goal.returns-in-At-skip_counted
returns-in-At-skip_counted c = alias_at_lem _ _ _ _ c.requires _ _ (omega (arith, c.in_ok-slot.ensures)) _ _ c.in-At-eq7-default.ensures c.in-At-eq7-default.field-0-test _ c.skip_counted.ensures _ c.in-At-skip_counted.is

pub returns-in-Refused : goal.returns-in-Refused
returns-in-Refused c = alias_cut _ _ _ _ c.requires _ _ (omega (arith, c.in_ok-slot.ensures)) _ _ c.in-At-eq7-default.ensures c.in-At-eq7-default.field-0-test _ c.skip_counted.ensures _ _ c.in-Refused.is _

pub returns-in-At : goal.returns-in-At
returns-in-At c = alias_other _ _ _ _ c.requires _ _ (omega (arith, c.in_ok-slot.ensures)) _ _ c.in-At.ensures c.in-At.field-0-test.1

pub returns-in-Missing : goal.returns-in-Missing
returns-in-Missing c = alias_missing _ _ _ _ c.requires _ _ (omega (arith, c.in_ok-slot.ensures)) c.in-Missing.ensures _
