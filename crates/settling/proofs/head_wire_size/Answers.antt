use mathlib.Core.Path.{refl, ◌∙◌}
use Rattle.measures.proofs.ByKind.{leaf_as}
use Rattle.settling.proofs.Typing.{decided_leaf, decided_pass, decided_name, decided_one, decided_sides, leaf_sized, run_sized, set_sized, map_sized, generic_sized, pair_map}
use Rattle.settling.proofs.head_wire_size.Goals as goal

pub returns-in-3 : goal.returns-in-3
returns-in-3 c = decided_name _ _ c.in-Leaf.is _ _ (c.in-3.is, refl, refl)

pub returns-in_default : goal.returns-in_default
returns-in_default c = decided_leaf _ _ c.in-Leaf.is _ _ refl (λ names t p. leaf_sized names p.1 (c.leaf_wire_size.ensures names ∙ leaf_as names _ p.2 p.3))

pub returns-in-5 : goal.returns-in-5
returns-in-5 c = decided_pass _ _ c.in-One.is _ (λ names t p. run_sized names _ p.2 p.3 c.in-5.is refl)

pub returns-in-7 : goal.returns-in-7
returns-in-7 c = decided_pass _ _ c.in-One.is _ (λ names t p. set_sized names _ p.2 p.3 c.in-7.is refl)

pub returns-in_default-kind : goal.returns-in_default-kind
returns-in_default-kind c = decided_one _ _ c.in-One.is _ _ (refl, refl, c.in_default-kind.in_default-kind-own.rest.0.1, c.in_default-kind.in_default-kind-own.rest.1)

pub returns-in-8 : goal.returns-in-8
returns-in-8 c = decided_pass _ _ c.in-Two.is _ (λ names t p. map_sized names p.3 (pair_map _ p.4 c.in-8.is) refl)

pub returns-in_default-kind-2 : goal.returns-in_default-kind-2
returns-in_default-kind-2 c = decided_sides _ _ c.in-Two.is _ (refl, c.in_default-kind-2.in_default-kind-2-own.rest.1)

pub returns-in-Sized : goal.returns-in-Sized
returns-in-Sized c = decided_one _ _ c.in-Sized.is _ _ (refl, refl)

pub returns-in-Generic : goal.returns-in-Generic
returns-in-Generic c = decided_pass _ _ c.in-Generic.is _ (λ names t p. generic_sized names p.1 refl)

pub returns-in-Refused : goal.returns-in-Refused
returns-in-Refused c = decided_pass _ _ c.in-Refused.is _ (λ names t p. absurd p)
