use native.Mathlib.Omega.{arith}
use Rattle.findings.proofs.Adding.{adds_none, adds_same}
use Rattle.conformance.proofs.Having.{none_lacking}
use Rattle.typeck.proofs.count_lacking.Goals as goal

pub check_impl_conformance-requires : goal.check_impl_conformance-requires
check_impl_conformance-requires c = (c.requires.0, c.requires.2)

pub returns : goal.returns
returns c = adds_same _ (omega arith) (none_lacking _ _ _ (c.requires.1 c.if-impls.false)) (adds_none 0 _ _)
