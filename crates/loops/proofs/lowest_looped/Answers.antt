use mathlib.Core.Path.{refl}
use Rattle.loops.proofs.Finding.{used_loop}
use Rattle.loops.proofs.lowest_looped.Goals as goal

pub returns : goal.returns
returns c = λ ed p. used_loop _ _ _ _ _ c.requires.0 c.args.sort _ _ _ _ c.names_used-used.ensures c.read_finds.ensures refl (c.looped_in.ensures ed p)
