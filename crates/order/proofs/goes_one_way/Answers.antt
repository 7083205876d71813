use native.Mathlib.Omega.{arith}
use Rattle.order.proofs.Leading.{sofar_start, sofar_on, sofar_stop, sofar_end}
use Rattle.order.proofs.goes_one_way.Goals as goal

pub loop-slot-init : goal.loop-slot-init
loop-slot-init c = sofar_start _ _

pub returns-then-not-leads_on : goal.returns-then-not-leads_on
returns-then-not-leads_on c = sofar_stop _ _ _ c.loop-slot.invariant (omega (arith, c.requires.count)) _ c.leads_on.ensures c.if-not-leads_on.true

pub loop-slot-preserved : goal.loop-slot-preserved
loop-slot-preserved c = sofar_on _ _ _ c.loop-slot.invariant (omega (arith, c.requires.count)) _ c.leads_on.ensures c.if-not-leads_on.false

pub returns : goal.returns
returns c = sofar_end _ _ _ c.loop-slot.invariant (omega (arith, c.requires.count))
