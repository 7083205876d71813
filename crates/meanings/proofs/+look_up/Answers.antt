use mathlib.Core.Path.{sym, ◌∙◌}
use lib.Pow.{pow_pos, pow_mono}
use Rattle.number.proofs.Reading.{told}
use Rattle.meanings.proofs.Noting.{double, some_level, one_inside, generic_inside, sized_inside, first_inside, second_inside, never_refused, never_cut, look_leaf_lem, look_one, look_generic, look_two, look_sized}
use native.Mathlib.Omega.{arith}
use Rattle.meanings.proofs.+look_up.Goals as goal

pub returns-then-levels-eq0 : goal.returns-then-levels-eq0
returns-then-levels-eq0 t c =
    absurd (some_level _ _ _ _ _ _ _ c.requires c.if-levels-eq0.true)

pub look_up-requires : goal.look_up-requires
look_up-requires t c = (omega arith, one_inside _ _ _ _ _ _ _ c.requires _ _ (sym c.read_head.ensures ∙ c.in-One.is))

pub look_up-a-requires : goal.look_up-a-requires
look_up-a-requires t c = (omega arith, first_inside _ _ _ _ _ _ _ c.requires _ _ (sym c.read_head.ensures ∙ c.in-Two.is))

pub look_up-b-requires : goal.look_up-b-requires
look_up-b-requires t c = (omega arith, second_inside _ _ _ _ _ _ _ _ _ _ (sym c.read_head.ensures ∙ c.in-Two.is) _ _ _ c.look_up-a.ensures.right c.requires)

pub overflow_add-result : goal.overflow_add-result
overflow_add-result t c = omega (arith, c.look_up-a.ensures.small, c.look_up-b.ensures.small, double c.args.levels c.if-levels-eq0.false, pow_mono c.requires.few)

pub look_up-a-requires-in-Sized : goal.look_up-a-requires-in-Sized
look_up-a-requires-in-Sized t c = (omega arith, sized_inside _ _ _ _ _ _ _ c.requires _ (sym c.read_head.ensures ∙ c.in-Sized.is))

pub look_up-requires-in-Generic : goal.look_up-requires-in-Generic
look_up-requires-in-Generic t c = (omega arith, generic_inside _ _ _ _ _ _ _ c.requires _ _ (sym c.read_head.ensures ∙ c.in-Generic.is))

pub returns-in-Leaf : goal.returns-in-Leaf
returns-in-Leaf t c = record { small = omega (arith, c.look_up_leaf-count.ensures.small, pow_pos c.args.levels); right = look_leaf_lem _ _ _ _ _ _ _ _ _ _ _ _ (sym c.read_head.ensures ∙ c.in-Leaf.is) _ _ c.look_up_leaf-count.ensures.right }

pub returns-in-One : goal.returns-in-One
returns-in-One t c = record { small = omega (arith, c.look_up.ensures.small, double c.args.levels c.if-levels-eq0.false); right = look_one _ _ _ _ _ _ _ _ _ _ (sym c.read_head.ensures ∙ c.in-One.is) _ _ _ c.look_up.ensures.right }

pub returns-in-Two : goal.returns-in-Two
returns-in-Two t c = record { small = omega (arith, c.look_up-a.ensures.small, c.look_up-b.ensures.small, double c.args.levels c.if-levels-eq0.false); right = look_two _ _ _ _ _ _ _ _ _ _ (sym c.read_head.ensures ∙ c.in-Two.is) _ _ _ c.look_up-a.ensures.right _ _ _ c.look_up-b.ensures.right }

pub returns-in-Value : goal.returns-in-Value
returns-in-Value t c = record { small = omega (arith, c.look_up-a-in-Sized.ensures.small, double c.args.levels c.if-levels-eq0.false); right = look_sized _ _ _ _ _ _ _ _ _ (sym c.read_head.ensures ∙ c.in-Sized.is) _ _ _ c.look_up-a-in-Sized.ensures.right _ _ (told c.read_whole.ensures c.in-Value.is) }

pub returns-in-Refused-read_whole : goal.returns-in-Refused-read_whole
returns-in-Refused-read_whole t c =
    absurd (never_cut _ _ _ _ _ _ _ _ _ (sym c.read_head.ensures ∙ c.in-Sized.is) _ _ _ c.look_up-a-in-Sized.ensures.right _ _ (told c.read_whole.ensures c.in-Refused-read_whole.is) c.requires)

pub returns-in-Generic : goal.returns-in-Generic
returns-in-Generic t c = record { small = omega (arith, c.look_up-in-Generic.ensures.small, double c.args.levels c.if-levels-eq0.false); right = look_generic _ _ _ _ _ _ _ _ _ _ (sym c.read_head.ensures ∙ c.in-Generic.is) _ _ _ c.look_up-in-Generic.ensures.right }

pub returns-in-Refused : goal.returns-in-Refused
returns-in-Refused t c =
    absurd (never_refused _ _ _ _ _ _ _ c.requires _ _ (sym c.read_head.ensures ∙ c.in-Refused.is))
