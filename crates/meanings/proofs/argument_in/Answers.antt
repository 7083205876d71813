use native.Mathlib.Omega.{arith}
use Rattle.number.proofs.Reading.{told}
use Rattle.meanings.proofs.Arguments.{at_start, no_more, is_here, one_on, type_not, name_not}
use Rattle.meanings.proofs.argument_in.Goals as goal

pub loop-init : goal.loop-init
loop-init c = at_start _ _ _ _ _ _ _

pub returns-in_default : goal.returns-in_default
returns-in_default c = name_not _ _ _ _ _ _ _ _ _ _ c.loop.invariant (omega (arith, c.min-end.ensures)) _ _ (told c.read_below.ensures c.in_default.is) _

pub returns-then-v-n : goal.returns-then-v-n
returns-then-v-n c = is_here _ _ _ _ _ _ _ _ _ _ c.loop.invariant (omega (arith, c.min-end.ensures)) _ _ (told c.read_below.ensures c.in-Value.is) c.if-v-n.true

pub returns-in_default-read_tree : goal.returns-in_default-read_tree
returns-in_default-read_tree c = type_not _ _ _ _ _ _ _ _ _ _ c.loop.invariant (omega (arith, c.min-end.ensures)) _ _ (told c.read_below.ensures c.in-Value.is) _ _ c.in_default-read_tree.ensures _

pub loop-preserved : goal.loop-preserved
loop-preserved c = one_on _ _ _ _ _ _ _ _ _ _ c.loop.invariant (omega (arith, c.min-end.ensures)) _ _ (told c.read_below.ensures c.in-Value.is) c.if-v-n.false _ c.in-At.ensures

pub returns : goal.returns
returns c = no_more _ _ _ _ _ _ _ _ _ _ c.loop.invariant (omega (arith, c.min-end.ensures))
