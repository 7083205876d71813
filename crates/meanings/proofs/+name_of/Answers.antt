use mathlib.Core.Path.{refl, sym, ◌∙◌}
use Rattle.meanings.proofs.Aliases.{alias_told}
use Rattle.meanings.proofs.Naming.{some_level, name_leaf, name_one, name_two, name_sized, name_refused, name_none, name_alias, body_asked, body_less, target_asked, target_less}
use native.Mathlib.Omega.{arith}
use Rattle.meanings.proofs.+name_of.Goals as goal

pub overflow_sub-levels : goal.overflow_sub-levels
overflow_sub-levels t c = omega (arith, some_level _ _ _ _ _ _ _ _ c.requires)

pub name_of-inner-requires : goal.name_of-inner-requires
name_of-inner-requires t c =
    let x = sym c.read_head.ensures ∙ c.in-Generic.is in
    (omega (arith, c.decreases, some_level _ _ _ _ _ _ _ _ c.requires, body_less _ _ _ _ _ _ _ _ c.requires _ _ x), body_asked _ _ _ _ _ _ _ _ c.requires _ _ x)

pub alias_of-requires : goal.alias_of-requires
alias_of-requires t c = c.requires.ready

pub name_of-meant-requires : goal.name_of-meant-requires
name_of-meant-requires t c =
    let x = sym c.read_head.ensures ∙ c.in-Generic.is in
    let w = alias_told _ _ _ _ c.in-Some.is c.alias_of.ensures in
    (omega (arith, c.decreases, target_less _ _ _ _ _ _ _ _ c.requires _ _ x _ _ w), target_asked _ _ _ _ _ _ _ _ c.requires _ _ x _ _ w _ _ refl)

pub returns-in-Leaf : goal.returns-in-Leaf
returns-in-Leaf t c = name_leaf _ _ _ _ _ _ _ _ c.requires _ _ _ _ _ (sym c.read_head.ensures ∙ c.in-Leaf.is) c.leaf_value.ensures

pub returns-in-One : goal.returns-in-One
returns-in-One t c = name_one _ _ _ _ _ _ _ _ c.requires _ _ (sym c.read_head.ensures ∙ c.in-One.is)

pub returns-in-Two : goal.returns-in-Two
returns-in-Two t c = name_two _ _ _ _ _ _ _ _ c.requires _ _ (sym c.read_head.ensures ∙ c.in-Two.is)

pub returns-in-Sized : goal.returns-in-Sized
returns-in-Sized t c = name_sized _ _ _ _ _ _ _ _ c.requires _ (sym c.read_head.ensures ∙ c.in-Sized.is)

pub returns-in-Some : goal.returns-in-Some
returns-in-Some t c = name_alias _ _ _ _ _ _ _ _ c.requires _ _ (sym c.read_head.ensures ∙ c.in-Generic.is) _ _ (alias_told _ _ _ _ c.in-Some.is c.alias_of.ensures) _ _ _ c.name_of-inner.ensures c.name_of-meant.ensures c.name_or_unfound.ensures

pub returns-in-None : goal.returns-in-None
returns-in-None t c = name_none _ _ _ _ _ _ _ _ c.requires _ _ (sym c.read_head.ensures ∙ c.in-Generic.is) (alias_told _ _ _ _ c.in-None.is c.alias_of.ensures)

pub returns-in-Refused : goal.returns-in-Refused
returns-in-Refused t c = name_refused _ _ _ _ _ _ _ _ c.requires _ _ _ (sym c.read_head.ensures ∙ c.in-Refused.is)
