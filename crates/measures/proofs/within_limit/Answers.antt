use Rattle.measures.proofs.Cutting.{fixed_over, fixed_sized, low_over, high_over, bounded_sized, open_over, open_sized}
use Rattle.measures.proofs.within_limit.Goals as goal

pub returns-then-b-gt9223372036854775807 : goal.returns-then-b-gt9223372036854775807
returns-then-b-gt9223372036854775807 c = fixed_over _ c.in-Fixed.is c.if-b-gt9223372036854775807.true

pub returns-else-b-gt9223372036854775807 : goal.returns-else-b-gt9223372036854775807
returns-else-b-gt9223372036854775807 c = fixed_sized _ c.in-Fixed.is c.if-b-gt9223372036854775807.false

pub returns-then-l-gt9223372036854775807 : goal.returns-then-l-gt9223372036854775807
returns-then-l-gt9223372036854775807 c = low_over _ c.in-Bounded.is c.if-l-gt9223372036854775807.true

pub returns-then-h-gt9223372036854775807 : goal.returns-then-h-gt9223372036854775807
returns-then-h-gt9223372036854775807 c = high_over _ c.in-Bounded.is c.if-l-gt9223372036854775807.false c.if-h-gt9223372036854775807.true

pub returns-else-h-gt9223372036854775807 : goal.returns-else-h-gt9223372036854775807
returns-else-h-gt9223372036854775807 c = bounded_sized _ c.in-Bounded.is c.if-l-gt9223372036854775807.false c.if-h-gt9223372036854775807.false

pub returns-then-l-gt9223372036854775807-2 : goal.returns-then-l-gt9223372036854775807-2
returns-then-l-gt9223372036854775807-2 c = open_over _ c.in-Open.is c.if-l-gt9223372036854775807-2.true

pub returns-else-l-gt9223372036854775807-2 : goal.returns-else-l-gt9223372036854775807-2
returns-else-l-gt9223372036854775807-2 c = open_sized _ c.in-Open.is c.if-l-gt9223372036854775807-2.false
