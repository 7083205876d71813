use native.Mathlib.Omega.{arith}
use Prim.Native.Nat.{◌*◌}
use mathlib.Core.Path.{refl, ap, ◌∙◌}
use lib.Seq.{sets}
use Rattle.rows.proofs.Table.{no_row, next_row, all_rows}
use Rattle.rows.proofs.put_rows.Goals as goal

pub loop-i-init : goal.loop-i-init
loop-i-init c = no_row _ _ _

pub loop-i-preserved : goal.loop-i-preserved
loop-i-preserved c = next_row _ _ _ _ _ c.loop-i.invariant _ (omega (arith, c.requires.promise.count)) (c.put_row.ensures ∙ ap (sets c.loop-i.rows (3 * c.loop-i.i)) (c.slot_row-row.ensures _ refl c.requires.promise (omega arith) (c.requires.declared _ c.loop-i-test.true)))

pub returns : goal.returns
returns c = all_rows _ _ _ _ _ c.loop-i.invariant (omega (arith, c.requires.promise.count))
