use native.Mathlib.Omega.{arith}
use mathlib.Core.Path.{sym, ◌∙◌}
use Rattle.reader.proofs.Fetching.{part_behind, not_missing}
use Rattle.order.proofs.Leading.{leads_lower, leads_past, leads_bare, leads_free}
use Rattle.order.proofs.Origin.name_leads_on.Goals as goal
use Rattle.order.proofs.Origin.name_leads_on.Goals.{then-is_lower-via-then-is_lower, then-is_lower-via-else-is_lower+then-self-id, in-1, in_default}

pub returns-then-is_lower : goal.returns-then-is_lower
returns-then-is_lower c =
    elim c.then-is_lower.branch [
      | then-is_lower-via-then-is_lower w ↦ leads_lower _ _ _ _ (sym c.is_lower.ensures ∙ w.if-is_lower.true)
      | then-is_lower-via-else-is_lower+then-self-id w ↦ leads_past _ _ _ _ (omega (arith, c.requires.0.count, w.if-self-id.true))
    ]

pub returns-after-matches : goal.returns-after-matches
returns-after-matches c =
    let behind = part_behind _ _ _ c.requires.0 _ c.if-self-id.false _ _ (sym c.slot_part.ensures ∙ c.in-At.is) in
    elim c.match-matches.branch [
      | in-1 w ↦ rw w.matches-is (leads_bare _ _ _ _ _ behind.kind_is w.in-1.is (sym c.is_lower.ensures ∙ c.if-is_lower.false))
      | in_default w ↦ rw w.matches-is (leads_free _ _ _ _ _ behind.kind_is (λ e. grind arith) (λ e. grind arith))
    ]

pub returns-in-Missing : goal.returns-in-Missing
returns-in-Missing c = absurd (not_missing _ _ _ c.requires.0 _ c.if-self-id.false (sym c.slot_part.ensures ∙ c.in-Missing.is))
