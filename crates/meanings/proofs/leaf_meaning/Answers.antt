use native.Mathlib.Omega.{arith}
use Rattle.meanings.proofs.Leaves.{plain, qualified_name, no_name}
use Rattle.meanings.proofs.leaf_meaning.Goals as goal

pub returns-in-3 : goal.returns-in-3
returns-in-3 c = plain _ _ _ _ _ _ _ _ c.in-3.is c.parameter_meaning.ensures

pub returns-in-17 : goal.returns-in-17
returns-in-17 c = qualified_name _ _ _ _ _ _ _ _ c.in-17.is c.resolve.ensures

pub returns-in_default : goal.returns-in_default
returns-in_default c = no_name _ _ _ _ _ _ _ (λ z. omega arith) (λ z. omega arith)
