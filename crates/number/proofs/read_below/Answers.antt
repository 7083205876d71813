use mathlib.Core.Path.{sym}
use Rattle.number.proofs.InRange.{byte_in_range, byte_out_of_range}
use Rattle.number.proofs.read_below.Goals as goal

pub returns-then-b-limit : goal.returns-then-b-limit
returns-then-b-limit c = sym (byte_in_range _ _ _ _ c.wide-b.ensures c.if-at-image.true c.if-b-lt128.true c.if-b-limit.true)

pub returns-then-b-lt128 : goal.returns-then-b-lt128
returns-then-b-lt128 c = sym (byte_out_of_range _ _ _ _ c.wide-b.ensures c.if-at-image.true c.if-b-lt128.true c.if-b-limit.false)
