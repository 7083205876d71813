use Rattle.slot.proofs.FourBytes.{too_near, by_bytes}
use native.Mathlib.Omega.{arith}
use Rattle.slot.proofs.short_field.Goals as goal

pub returns-then-image-lt4 : goal.returns-then-image-lt4
returns-then-image-lt4 c = too_near _ _ _ (omega (arith, c.if-image-lt4.true))

pub returns-then-image-at : goal.returns-then-image-at
returns-then-image-at c = too_near _ _ _ (omega (arith, c.if-image-at.true))

pub returns : goal.returns
returns c = by_bytes _ _ _ (omega (arith, c.if-image-at.false, c.if-image-lt4.false)) _ _ _ _ c.wide-name.ensures c.wide-encoding.ensures c.wide-kind.ensures c.wide-number.ensures _ c.short_of.ensures
