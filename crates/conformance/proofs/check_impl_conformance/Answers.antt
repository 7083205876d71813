use native.Mathlib.Omega.{arith}
use Rattle.findings.proofs.Adding.{adds_kept}
use Rattle.conformance.proofs.Slots.{none_passed, one_passed, all_passed}
use Rattle.conformance.proofs.check_impl_conformance.Goals as goal

pub loop-slot-init : goal.loop-slot-init
loop-slot-init c = none_passed _ _ _

pub check_slot-n-requires : goal.check_slot-n-requires
check_slot-n-requires c = record { promise = c.requires.0; there = c.loop-slot-test.true; before = omega (arith, c.loop-slot.invariant.adds.few, c.requires.1, c.requires.0.few, c.loop-slot-test.true) }

pub loop-slot-preserved : goal.loop-slot-preserved
loop-slot-preserved c = one_passed _ _ _ _ _ _ _ _ c.loop-slot.invariant (omega (arith, c.loop-slot-test.true, c.requires.0.count)) c.check_slot-n.ensures

pub shape_of-findings : goal.shape_of-findings
shape_of-findings c = adds_kept c.loop-slot.invariant.adds

pub returns : goal.returns
returns c = all_passed _ _ _ _ _ _ c.loop-slot.invariant (omega (arith, c.loop-slot-test.false, c.requires.0.count)) (omega (arith, c.loop-slot.invariant.low, c.requires.0.count, c.requires.0.few))
