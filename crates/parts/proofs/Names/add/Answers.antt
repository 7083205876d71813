use Rattle.parts.proofs.Listing.{push_in, push_out}
use Rattle.parts.proofs.Names.add.Goals as goal

pub returns-then-self-clause-added : goal.returns-then-self-clause-added
returns-then-self-clause-added c = push_in _ _ _ c.if-self.true

pub returns-else-self-clause-added : goal.returns-else-self-clause-added
returns-else-self-clause-added c = push_out _ _ _ c.if-self.false
