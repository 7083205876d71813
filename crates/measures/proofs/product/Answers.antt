use native.Mathlib.Omega.{arith}
use Rattle.measures.proofs.Cutting.{product_none, product_past, product_within, product_same}
use Rattle.measures.proofs.product.Goals as goal

pub overflow_mul-result : goal.overflow_mul-result
overflow_mul-result c = omega (arith, product_within _ _ c.if-count-eq0.false c.if-x-count.false)

pub returns-then-count-eq0 : goal.returns-then-count-eq0
returns-then-count-eq0 c = product_none _ _ c.if-count-eq0.true

pub returns-then-x-count : goal.returns-then-x-count
returns-then-x-count c = product_past _ _ c.if-count-eq0.false c.if-x-count.true

pub returns-else-x-count : goal.returns-else-x-count
returns-else-x-count c = product_same _ _ c.if-count-eq0.false c.if-x-count.false
