use mathlib.Core.Path.{sym, ap, ◌∙◌}
use Rattle.matching.specs.Steps.{node_of}
use Rattle.matching.proofs.Walk.{weight_one, no_weight, compare_refused, leaf_itself, leaf_id, leaf_type, leaf_none, compare_generic, one_same, one_differs, two_differs, two_first, two_second, sized_differs, sized_first, sized_second, asked_level, asked_type, asked_generic, asked_one, asked_first, asked_second, asked_element}
use native.Mathlib.Omega.{arith}
use Rattle.matching.proofs.+types_compatible.Goals as goal

pub overflow_sub-left : goal.overflow_sub-left
overflow_sub-left t c = omega (arith, asked_level c.requires)

pub types_compatible-r-requires : goal.types_compatible-r-requires
types_compatible-r-requires t c =
    let k = asked_type _ _ _ _ _ _ _ _ _ _ (c.node_of-a.ensures ∙ ap node_of c.read_head.ensures) c.requires _ _ _ _ (sym c.read_head-head.ensures ∙ c.in-Leaf.is) _ c.meaning_here.ensures _ c.in-Type.is in
    (omega (arith, c.decreases, no_weight, weight_one _ k.1), k.0)

pub returns-then-a-kind : goal.returns-then-a-kind
returns-then-a-kind t c = one_differs _ _ _ _ _ _ _ _ _ (c.node_of-a.ensures ∙ ap node_of c.read_head.ensures) _ _ (sym c.read_head-head.ensures ∙ c.in-One.is) c.if-a-kind.true

pub types_compatible-requires : goal.types_compatible-requires
types_compatible-requires t c = (omega (arith, c.decreases, asked_level c.requires), asked_one _ _ _ _ _ _ _ _ _ _ (c.node_of-a.ensures ∙ ap node_of c.read_head.ensures) c.requires _ _ (sym c.read_head-head.ensures ∙ c.in-One.is) c.if-a-kind.false)

pub returns-then-a-kind-2 : goal.returns-then-a-kind-2
returns-then-a-kind-2 t c = two_differs _ _ _ _ _ _ _ _ _ (c.node_of-a.ensures ∙ ap node_of c.read_head.ensures) _ _ (sym c.read_head-head.ensures ∙ c.in-Two.is) c.if-a-kind-2.true

pub types_compatible-r-requires-in-Two : goal.types_compatible-r-requires-in-Two
types_compatible-r-requires-in-Two t c = (omega (arith, c.decreases, asked_level c.requires), asked_first _ _ _ _ _ _ _ _ _ _ (c.node_of-a.ensures ∙ ap node_of c.read_head.ensures) c.requires _ _ (sym c.read_head-head.ensures ∙ c.in-Two.is) c.if-a-kind-2.false)

pub returns-in_default : goal.returns-in_default
returns-in_default t c = two_first _ _ _ _ _ _ _ _ _ (c.node_of-a.ensures ∙ ap node_of c.read_head.ensures) _ _ (sym c.read_head-head.ensures ∙ c.in-Two.is) c.if-a-kind-2.false _ c.types_compatible-r-in-Two.ensures c.in_default.is

pub types_compatible-requires-in-Two : goal.types_compatible-requires-in-Two
types_compatible-requires-in-Two t c = (omega (arith, c.decreases, asked_level c.requires), asked_second _ _ _ _ _ _ _ _ _ _ (c.node_of-a.ensures ∙ ap node_of c.read_head.ensures) c.requires _ _ (sym c.read_head-head.ensures ∙ c.in-Two.is) c.if-a-kind-2.false _ c.types_compatible-r-in-Two.ensures _ _ c.in-Same.is)

pub returns-then-a-ne6 : goal.returns-then-a-ne6
returns-then-a-ne6 t c = sized_differs _ _ _ _ _ _ _ _ _ (c.node_of-a.ensures ∙ ap node_of c.read_head.ensures) _ (sym c.read_head-head.ensures ∙ c.in-Sized.is) c.if-a-ne6.true

pub types_compatible-r-requires-in-Sized : goal.types_compatible-r-requires-in-Sized
types_compatible-r-requires-in-Sized t c = (omega (arith, c.decreases, asked_level c.requires), asked_element _ _ _ _ _ _ _ _ _ _ (c.node_of-a.ensures ∙ ap node_of c.read_head.ensures) c.requires _ (sym c.read_head-head.ensures ∙ c.in-Sized.is) c.if-a-ne6.false)

pub returns-in_default-r : goal.returns-in_default-r
returns-in_default-r t c = sized_first _ _ _ _ _ _ _ _ _ (c.node_of-a.ensures ∙ ap node_of c.read_head.ensures) _ (sym c.read_head-head.ensures ∙ c.in-Sized.is) c.if-a-ne6.false _ c.types_compatible-r-in-Sized.ensures c.in_default-r.is

pub same_generic-requires : goal.same_generic-requires
same_generic-requires t c = asked_generic _ _ _ _ _ _ _ _ _ _ (c.node_of-a.ensures ∙ ap node_of c.read_head.ensures) c.requires _ _ (sym c.read_head-head.ensures ∙ c.in-Generic.is)

pub returns-in-Itself : goal.returns-in-Itself
returns-in-Itself t c = leaf_itself _ _ _ _ _ _ _ _ _ (c.node_of-a.ensures ∙ ap node_of c.read_head.ensures) _ _ _ _ (sym c.read_head-head.ensures ∙ c.in-Leaf.is) _ c.requires.ready.holds _ c.meaning_here.ensures c.in-Itself.is _ c.node_of.ensures _ c.same_leaf.ensures

pub returns-in-Id : goal.returns-in-Id
returns-in-Id t c = leaf_id _ _ _ _ _ _ _ _ _ (c.node_of-a.ensures ∙ ap node_of c.read_head.ensures) _ _ _ _ (sym c.read_head-head.ensures ∙ c.in-Leaf.is) _ c.requires.ready.holds _ c.meaning_here.ensures _ c.in-Id.is _ c.same_id.ensures

pub returns-in-Type : goal.returns-in-Type
returns-in-Type t c = leaf_type _ _ _ _ _ _ _ _ _ (c.node_of-a.ensures ∙ ap node_of c.read_head.ensures) _ _ _ _ (sym c.read_head-head.ensures ∙ c.in-Leaf.is) _ c.requires.ready.holds _ c.meaning_here.ensures _ c.in-Type.is _ _ c.types_compatible-r.ensures c.ending.ensures

pub returns-in-NotName : goal.returns-in-NotName
returns-in-NotName t c = leaf_none _ _ _ _ _ _ _ _ _ (c.node_of-a.ensures ∙ ap node_of c.read_head.ensures) _ _ _ _ (sym c.read_head-head.ensures ∙ c.in-Leaf.is) _ c.requires.ready.holds _ c.meaning_here.ensures c.in-NotName.is _

pub returns-else-a-kind : goal.returns-else-a-kind
returns-else-a-kind t c = one_same _ _ _ _ _ _ _ _ _ (c.node_of-a.ensures ∙ ap node_of c.read_head.ensures) _ _ (sym c.read_head-head.ensures ∙ c.in-One.is) c.if-a-kind.false _ c.types_compatible.ensures

pub returns-in-Same : goal.returns-in-Same
returns-in-Same t c = two_second _ _ _ _ _ _ _ _ _ (c.node_of-a.ensures ∙ ap node_of c.read_head.ensures) _ _ (sym c.read_head-head.ensures ∙ c.in-Two.is) c.if-a-kind-2.false _ c.types_compatible-r-in-Two.ensures _ _ c.in-Same.is _ c.types_compatible-in-Two.ensures

pub returns-in-Same-r : goal.returns-in-Same-r
returns-in-Same-r t c = sized_second _ _ _ _ _ _ _ _ _ (c.node_of-a.ensures ∙ ap node_of c.read_head.ensures) _ (sym c.read_head-head.ensures ∙ c.in-Sized.is) c.if-a-ne6.false _ c.types_compatible-r-in-Sized.ensures _ _ c.in-Same-r.is _ c.same_size.ensures

pub returns-in-Generic : goal.returns-in-Generic
returns-in-Generic t c = compare_generic _ _ _ _ _ _ _ _ _ (c.node_of-a.ensures ∙ ap node_of c.read_head.ensures) _ _ (sym c.read_head-head.ensures ∙ c.in-Generic.is) _ c.same_generic.ensures

pub returns-in-Refused : goal.returns-in-Refused
returns-in-Refused t c = compare_refused _ _ _ _ _ _ _ _ _ _ _ (sym c.read_head-head.ensures ∙ c.in-Refused.is)
