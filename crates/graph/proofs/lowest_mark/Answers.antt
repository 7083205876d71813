use mathlib.Core.Path.{sym, ◌∙◌}
use Rattle.graph.proofs.Rows.{low_none, low_at, low_next}
use Rattle.graph.proofs.lowest_mark.Goals as goal

pub returns-then-leads : goal.returns-then-leads
returns-then-leads c = sym (c.loop-i.invariant ∙ low_at _ _ _ c.loop-i-test.true (sym c.leads.ensures ∙ c.if-leads.true))

pub loop-i-preserved : goal.loop-i-preserved
loop-i-preserved c = c.loop-i.invariant ∙ low_next _ _ _ c.loop-i-test.true (sym c.leads.ensures ∙ c.if-leads.false)

pub returns : goal.returns
returns c = sym (c.loop-i.invariant ∙ low_none _ _ _ c.loop-i-test.false)
