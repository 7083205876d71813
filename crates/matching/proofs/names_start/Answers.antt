use Rattle.matching.proofs.Bits.{start_is, start_not}
use Rattle.matching.proofs.names_start.Goals as goal

pub returns-in-At : goal.returns-in-At
returns-in-At c = start_is _ _ _ _ c.skip_below-body.ensures c.skip.ensures _ c.in-At.is

pub returns-in-Refused : goal.returns-in-Refused
returns-in-Refused c = start_not _ _ _ _ c.skip_below-body.ensures c.skip.ensures _ _ _ c.in-Refused.is
