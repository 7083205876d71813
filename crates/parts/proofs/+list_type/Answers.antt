use mathlib.Core.Path.{sym, ◌∙◌}
use Rattle.parts.proofs.Listing.{list_deep, list_leaf, list_one, list_two, list_sized, list_generic, list_refused}
use Rattle.parts.proofs.+list_type.Goals as goal

pub returns-then-levels-eq0-clause-listed : goal.returns-then-levels-eq0-clause-listed
returns-then-levels-eq0-clause-listed t c = list_deep _ _ _ _ _ _ c.if-levels-eq0.true _ _

pub returns-in-Leaf-clause-listed : goal.returns-in-Leaf-clause-listed
returns-in-Leaf-clause-listed t c = list_leaf _ _ _ _ _ _ c.if-levels-eq0.false _ _ _ _ _ (sym c.read_head.ensures ∙ c.in-Leaf.is) c.add_leaf.ensures.added

pub returns-in-One-clause-listed : goal.returns-in-One-clause-listed
returns-in-One-clause-listed t c = list_one _ _ _ _ _ _ c.if-levels-eq0.false _ _ _ _ (sym c.read_head.ensures ∙ c.in-One.is) c.list_type.ensures.listed

pub returns-in-Two-clause-listed : goal.returns-in-Two-clause-listed
returns-in-Two-clause-listed t c = list_two _ _ _ _ _ _ c.if-levels-eq0.false _ _ _ _ _ _ (sym c.read_head.ensures ∙ c.in-Two.is) c.list_type-second.ensures.listed c.list_type-in-Two.ensures.listed

pub returns-in-Sized-clause-listed : goal.returns-in-Sized-clause-listed
returns-in-Sized-clause-listed t c = list_sized _ _ _ _ _ _ c.if-levels-eq0.false _ _ _ _ _ (sym c.read_head.ensures ∙ c.in-Sized.is) c.list_type-size.ensures.listed c.skip_whole.ensures c.place_of.ensures

pub returns-in-Generic-clause-listed : goal.returns-in-Generic-clause-listed
returns-in-Generic-clause-listed t c = list_generic _ _ _ _ _ _ c.if-levels-eq0.false _ _ _ _ (sym c.read_head.ensures ∙ c.in-Generic.is) c.list_type-in-Generic.ensures.listed

pub returns-in-Refused-clause-listed : goal.returns-in-Refused-clause-listed
returns-in-Refused-clause-listed t c = list_refused _ _ _ _ _ _ c.if-levels-eq0.false _ _ _ _ (sym c.read_head.ensures ∙ c.in-Refused.is)
