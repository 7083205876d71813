use mathlib.Core.Path.{sym}
use Rattle.number.specs.Grammar.{value, read}
use Rattle.number.proofs.Reading.{follow_at}
use Rattle.slot.specs.Slot.{retired_at}
use Rattle.slot.proofs.skip_retired.Goals as goal

pub returns-in-One : goal.returns-in-One
unfolding retired_at read
returns-in-One c = rw c.in-One.is (sym (follow_at _))

pub returns-in-Two : goal.returns-in-Two
unfolding retired_at
returns-in-Two c = rw c.in-Two.is (c.skip_counted.ensures value)
