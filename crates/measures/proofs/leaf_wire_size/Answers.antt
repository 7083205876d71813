use native.Mathlib.Omega.{arith}
use mathlib.Core.Path.{sym, ap}
use Prim.Native.Nat.{ℕ}
use lib.ListN.{length-replicate}
use Rattle.sizes.specs.declared.Size.TheVariants.{Fixed}
use Rattle.sizes.specs.declared.Worked.TheVariants.{Sized}
use Rattle.sizes.specs.Sizes.{leaf_size}
use Rattle.measures.specs.Heads.{leaf_of}
use Rattle.measures.proofs.Spans.{up}
use Rattle.measures.proofs.ByKind.{leaf_rest}
use Rattle.measures.proofs.leaf_wire_size.Goals as goal

pub returns-in-0 : goal.returns-in-0
unfolding leaf_size leaf_of
returns-in-0 c = λ names. rw c.in-0.is (ap Sized c.primitive_wire_size.ensures)

pub returns-in-1 : goal.returns-in-1
unfolding leaf_size leaf_of
returns-in-1 c = λ names. rw c.in-1.is

pub returns-in-2 : goal.returns-in-2
unfolding leaf_size leaf_of
returns-in-2 c = λ names. rw c.in-2.is (ap Sized c.semantic_wire_size.ensures)

pub returns-in-16 : goal.returns-in-16
unfolding leaf_size leaf_of
returns-in-16 c = λ names. rw c.in-16.is (ap (λ (n : ℕ). Sized (Fixed n)) (sym (length-replicate _ 0)))

pub returns-in_default : goal.returns-in_default
returns-in_default c = λ names. leaf_rest names _ _ (up (up (up (up (omega arith) c.in_default.in_default-own.rest.0.0.0.1) c.in_default.in_default-own.rest.0.0.1) c.in_default.in_default-own.rest.0.1) c.requires) c.in_default.in_default-own.rest.1
