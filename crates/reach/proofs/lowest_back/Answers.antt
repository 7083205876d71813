use mathlib.Core.Path.{sym, ◌∙◌}
use Rattle.graph.proofs.Rows.{low_at, low_next, low_none}
use Rattle.reach.proofs.Backing.{back_at, closed_back, back_here, no_loop, not_from}
use Rattle.reach.proofs.lowest_back.Goals as goal
use Rattle.reach.proofs.lowest_back.Goals.{else-leads-via-then-leads+else-is_from, else-leads-via-else-leads}

pub returns-then-is_from : goal.returns-then-is_from
returns-then-is_from c =
    let a = c.args in
    let d = c.close in
    sym
    (sym (closed_back a.rows.now d.new.rows a.starts.now a.count c.requires.0 c.requires.1 d.ensures) ∙ c.loop-i.invariant
    ∙ low_at (back_at d.new.rows a.starts.now a.count) _ _ c.loop-i-test.true
    (back_here d.new.rows a.starts.now a.count _ (sym c.leads.ensures ∙ c.if-leads.true) (sym c.is_from.ensures ∙ c.if-is_from.true)))

pub loop-i-preserved : goal.loop-i-preserved
loop-i-preserved c =
    let a = c.args in
    let d = c.close in
    let on = low_next (back_at d.new.rows a.starts.now a.count) a.count c.loop-i.i c.loop-i-test.true in
    elim c.else-leads.branch [
      | else-leads-via-then-leads+else-is_from w ↦ c.loop-i.invariant ∙ on (not_from d.new.rows a.starts.now a.count _ (sym w.is_from.ensures ∙ w.if-is_from.false))
      | else-leads-via-else-leads w ↦ c.loop-i.invariant ∙ on (no_loop d.new.rows a.starts.now a.count _ (sym c.leads.ensures ∙ w.if-leads.false))
    ]

pub returns : goal.returns
returns c =
    let a = c.args in
    let d = c.close in
    sym
    (sym (closed_back a.rows.now d.new.rows a.starts.now a.count c.requires.0 c.requires.1 d.ensures) ∙ c.loop-i.invariant
    ∙ low_none (back_at d.new.rows a.starts.now a.count) _ _ c.loop-i-test.false)
