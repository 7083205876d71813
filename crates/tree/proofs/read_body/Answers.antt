use native.Mathlib.Omega.{arith}
use mathlib.Core.Path.{refl, sym, ◌∙◌}
use Rattle.number.specs.Grammar.{value, name, read}
use Rattle.tree.specs.Tree.{primitive, semantic, named, qualified}
use Rattle.tree.specs.TreeAt.{body_at, id_role}
use Rattle.tree.proofs.Shapes.{shape_plain, body_one_low, body_two, body_one_high, body_none}
use Rattle.tree.proofs.read_body.Goals as goal

pub returns-in-0 : goal.returns-in-0
unfolding body_at
returns-in-0 c = rw c.in-0.is (c.read_plain.ensures ∙ sym (shape_plain _ _ value _ primitive _ _ (λ v. refl) (λ v. refl) (λ v. refl)))

pub returns-in-1 : goal.returns-in-1
unfolding body_at
returns-in-1 c = rw c.in-1.is c.read_sub_byte.ensures

pub returns-in-2 : goal.returns-in-2
unfolding body_at
returns-in-2 c = rw c.in-2.is (c.read_plain-in-2.ensures ∙ sym (shape_plain _ _ value _ semantic _ _ (λ v. refl) (λ v. refl) (λ v. refl)))

pub returns-in-3 : goal.returns-in-3
unfolding body_at
returns-in-3 c = rw (c.in-3.is, ← c.ids_of.ensures) (c.read_plain-in-3.ensures ∙ sym (shape_plain _ _ (id_role c.args.sort) _ named _ _ (λ v. refl) (λ v. refl) (λ v. refl)))

pub returns-in-6 : goal.returns-in-6
unfolding body_at read
returns-in-6 c = rw c.in-6.is

pub returns-in-16 : goal.returns-in-16
unfolding body_at
returns-in-16 c = rw c.in-16.is c.read_bits.ensures

pub returns-in-17 : goal.returns-in-17
unfolding body_at
returns-in-17 c = rw c.in-17.is (c.read_plain-in-17.ensures ∙ sym (shape_plain _ _ name _ qualified _ _ (λ v. refl) (λ v. refl) (λ v. refl)))

pub returns-in-18 : goal.returns-in-18
unfolding body_at
returns-in-18 c = rw c.in-18.is c.read_generic.ensures

pub returns-in-8 : goal.returns-in-8
returns-in-8 c = sym (body_two _ _ _ _ _ (omega arith) (omega arith))

pub returns-in_default : goal.returns-in_default
returns-in_default c = sym (body_none _ _ _ _ _ (omega arith))

pub returns-in-4 : goal.returns-in-4
unfolding body_at read
returns-in-4 c = rw c.in-4.is

pub returns-in-4-2 : goal.returns-in-4-2
returns-in-4-2 c = sym (body_one_low _ _ _ _ _ (omega arith) (omega arith))

pub returns-in-4-3 : goal.returns-in-4-3
returns-in-4-3 c = sym (body_one_high _ _ _ _ _ (omega arith) (omega arith))
