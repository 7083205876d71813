use borrow.Author.Tests.{lt-ltb, le-ltb}
use Rattle.level.specs.Level.{names_in}
use Rattle.level.proofs.answer_of.Goals as goal

pub returns-then-id-slots : goal.returns-then-id-slots
unfolding names_in
returns-then-id-slots c = simp (le-ltb _ _ c.if-id-slots.true)

pub returns : goal.returns
unfolding names_in
returns c = simp (lt-ltb _ _ c.if-id-slots.false) c.answer_at.ensures
