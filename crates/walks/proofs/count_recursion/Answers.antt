use Rattle.findings.specs.Endless.{start}
use Rattle.walks.proofs.Along.{start_fits, count_is, count_none}
use Rattle.walks.proofs.count_recursion.Goals as goal

pub returns-then-first-slot : goal.returns-then-first-slot
returns-then-first-slot c = count_none _ _ _ _ c.if-first-slot.true

pub walk_slot-after-requires : goal.walk_slot-after-requires
unfolding start
walk_slot-after-requires c = (record { schema = c.requires.schema; held = c.requires.held; fits = start_fits _ _ _ c.args.slot c.requires.schema c.requires.held }, c.requires.within)

pub returns : goal.returns
unfolding start
returns c = count_is _ _ _ _ _ c.requires.held _ c.walk_slot-after.ensures
