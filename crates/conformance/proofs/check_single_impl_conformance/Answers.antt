use Rattle.conformance.proofs.Targets.{same_arity, other_arity}
use Rattle.conformance.proofs.check_single_impl_conformance.Goals as goal

pub returns-then-trait_def-impl_def : goal.returns-then-trait_def-impl_def
returns-then-trait_def-impl_def c = same_arity _ _ _ _ _ _ _ c.if-trait_def-impl_def.true _ _ _ c.check_trait_fields.ensures

pub returns : goal.returns
returns c = other_arity _ _ _ _ _ _ _ c.if-trait_def-impl_def.false _ _ _ c.add_finding.ensures
