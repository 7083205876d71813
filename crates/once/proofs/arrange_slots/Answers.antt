use mathlib.Core.Path.{ap, ◌∙◌}
use mathlib.Core.List.{List}
use mathlib.Core.Bool.{Bool}
use native.Mathlib.Omega.{arith}
use lib.ListN.{take}
use Rattle.once.proofs.Arranging.{blank_part, in_order, on_loop, no_loop}
use Rattle.once.proofs.arrange_slots.Goals as goal

pub arrange-requires : goal.arrange-requires
arrange-requires c =
    let p = c.requires in
    (record { few = p.0.few; long = omega (arith, p.1.leads_room, c.mark_parts.ensures.long) }, omega (arith, p.1.declared_room, c.mark_starts.ensures.long), record { unseen = ap (λ (l : List Bool). take c.args.frame.slots l) p.1.seen_blank ∙ blank_part _ _ p.1.seen_room; stack_long = p.1.stack_room; order_long = p.1.order_room })

pub lowest_back-requires : goal.lowest_back-requires
lowest_back-requires c =
    let p = c.requires in
    (omega (arith, p.1.leads_room, c.mark_parts.ensures.long), p.0.few, omega (arith, p.1.declared_room, c.mark_starts.ensures.long))

pub returns-in-Done : goal.returns-in-Done
returns-in-Done c =
    let p = c.requires in
    in_order _ _ p.0.count p.0.few _ c.mark_starts.ensures.places _ _ p.1.leads_blank c.mark_parts.ensures p.1.leads_room _ _ c.arrange.ensures _ c.in-Done.is

pub returns-in-At : goal.returns-in-At
returns-in-At c =
    let p = c.requires in
    on_loop _ _ p.0.count p.0.few _ c.mark_starts.ensures.places _ _ p.1.leads_blank c.mark_parts.ensures p.1.leads_room _ _ c.arrange.ensures _ c.in-Back.is _ c.lowest_back.ensures _ c.in-At.is

pub returns-in-Nowhere : goal.returns-in-Nowhere
returns-in-Nowhere c =
    let p = c.requires in
    no_loop _ _ p.0.count p.0.few _ c.mark_starts.ensures.places _ _ p.1.leads_blank c.mark_parts.ensures p.1.leads_room _ _ c.arrange.ensures _ c.in-Back.is _ c.lowest_back.ensures c.in-Nowhere.is
