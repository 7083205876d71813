use mathlib.Core.Path.{refl}
use native.Mathlib.Omega.{arith}
use Rattle.tree.specs.Short.{short_limit}
use Rattle.tree.proofs.TwoBytes.{short_past}
use Rattle.tree.proofs.short_limit.Goals as goal

pub returns-in-0 : goal.returns-in-0
unfolding short_limit
returns-in-0 c = rw c.in-0.is refl

pub returns-in-1 : goal.returns-in-1
unfolding short_limit
returns-in-1 c = rw c.in-1.is refl

pub returns-in-2 : goal.returns-in-2
unfolding short_limit
returns-in-2 c = rw c.in-2.is refl

pub returns-in-3 : goal.returns-in-3
unfolding short_limit
returns-in-3 c = rw c.in-3.is refl

pub returns-in_default : goal.returns-in_default
returns-in_default c = short_past _ (omega arith)
