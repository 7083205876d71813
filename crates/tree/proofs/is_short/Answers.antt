use native.Mathlib.Omega.{arith}
use Rattle.tree.proofs.TwoBytes.{too_near, no_id, by_bytes}
use Rattle.tree.proofs.is_short.Goals as goal

pub returns-then-image-lt2 : goal.returns-then-image-lt2
returns-then-image-lt2 c = too_near _ _ _ (omega (arith, c.if-image-lt2.true))

pub returns-then-image-at : goal.returns-then-image-at
returns-then-image-at c = too_near _ _ _ (omega (arith, c.if-image-at.true))

pub returns-then-ids-v : goal.returns-then-ids-v
returns-then-ids-v c = no_id _ _ _ (omega (arith, c.if-image-at.false, c.if-image-lt2.false)) _ c.wide-v.ensures (omega (arith, c.if-ids-v.true))

pub returns : goal.returns
returns c = by_bytes _ _ _ (omega (arith, c.if-image-at.false, c.if-image-lt2.false)) _ _ c.wide-kind.ensures c.wide-v.ensures (omega (arith, c.if-ids-v.false)) _ c.short_limit.ensures
