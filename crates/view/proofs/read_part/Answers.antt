use Rattle.number.proofs.Reading.{told}
use Rattle.view.proofs.Fetching.{past, fetched, no_kind}
use Rattle.view.proofs.read_part.Goals as goal

pub returns-then-starts-k : goal.returns-then-starts-k
returns-then-starts-k c = past _ _ _ c.if-starts-k.true

pub returns-in-Value : goal.returns-in-Value
returns-in-Value c = fetched _ _ _ c.if-starts-k.false _ _ (told c.read_below.ensures c.in-Value.is)

pub returns-in-Refused : goal.returns-in-Refused
returns-in-Refused c = no_kind _ _ _ c.if-starts-k.false _ _ (told c.read_below.ensures c.in-Refused.is)
