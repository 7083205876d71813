-- One bit is put out.
use Rattle.reach.proofs.Bits.{put_out}
use Rattle.reach.proofs.clear.Goals as goal

pub returns : goal.returns
returns c = let p = c.requires in put_out _ _ p.2 p.0 p.1
