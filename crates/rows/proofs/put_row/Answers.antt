use Prim.Native.Nat.{◌*◌}
use Rattle.rows.proofs.Table.{three}
use native.Mathlib.Omega.{arith}
use lib.ListN.{length-set}
use Rattle.rows.proofs.put_row.Goals as goal

pub bounds-rows-at-2 : goal.bounds-rows-at-2
bounds-rows-at-2 c = simp length-set (omega arith)

pub bounds-rows-at-3 : goal.bounds-rows-at-3
bounds-rows-at-3 c = simp length-set (omega arith)

pub returns : goal.returns
returns c = three c.args.rows.now (3 * c.args.slot) c.args.row.kind c.args.row.a c.args.row.b
