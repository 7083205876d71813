use mathlib.Core.Path.{refl}
use Rattle.settling.specs.Steps.{frame_of}
use Rattle.settling.proofs.Elements.{plain_one}
use Rattle.settling.proofs.settle_plain.Goals as goal

pub returns-in-One : goal.returns-in-One
returns-in-One c = plain_one (frame_of c.args.scope) _ _ c.in-One.is

pub returns-in-Two : goal.returns-in-Two
returns-in-Two c = c.settle_limited.ensures (frame_of c.args.scope) refl c.in-Two.is
