use native.Mathlib.Omega.{arith}
use Rattle.rows.proofs.Widths.{one_byte, two_bytes, four_bytes, eight_bytes}
use Rattle.rows.proofs.compute_flags_wire_bytes.Goals as goal

pub returns-in-0-to-7 : goal.returns-in-0-to-7
returns-in-0-to-7 c = one_byte _ (omega arith)

pub returns-in-8-to-15 : goal.returns-in-8-to-15
returns-in-8-to-15 c = two_bytes _ (omega arith) (omega arith)

pub returns-in-16-to-31 : goal.returns-in-16-to-31
returns-in-16-to-31 c = four_bytes _ (omega arith) (omega arith)

pub returns-in_default : goal.returns-in_default
returns-in_default c = eight_bytes _ (omega arith)
