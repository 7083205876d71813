use Rattle.walks.proofs.Walking.{Whole}
use Rattle.walks.proofs.Along.{before, behind, name_past, name_found, name_back, name_visited, inside_fewer, inside_fits, name_inside, along_start, along_fits, along_on, along_end}
use native.Mathlib.Omega.{arith}
use borrow.Author.Rules.{rules}
use Rattle.walks.proofs.+walk_slot_walk_type_for_recursion.Goals as goal

pub walk_slot-loop-p-init : goal.walk_slot-loop-p-init
walk_slot-loop-p-init t c = λ S h. along_start S _ _ _ h _ _ _ _ c.from-p.ensures

pub walk_slot-walk_type_for_recursion-after-requires : goal.walk_slot-walk_type_for_recursion-after-requires
walk_slot-walk_type_for_recursion-after-requires t c =
    let a = c.loop-p.invariant c.requires.0.schema c.requires.0.held in (
      omega (arith, c.decreases, a.moved.fewer),
      record {
        schema = c.requires.0.schema;
        held = c.requires.0.held;
        fits = along_fits _ _ _ _ c.requires.0.held _ _ _ _ _ a (before c.loop-p-test.true c.from-p-end.ensures) c.requires.0.fits;
      },
    )

pub walk_slot-loop-p-preserved : goal.walk_slot-loop-p-preserved
walk_slot-loop-p-preserved t c = λ S h. along_on S _ _ _ h _ _ _ _ _ (c.loop-p.invariant S h) (before c.loop-p-test.true c.from-p-end.ensures) (record { path = search rules; visited = search rules }) _ c.walk_type_for_recursion-after.ensures

pub walk_slot-returns : goal.walk_slot-returns
walk_slot-returns t c = record { walked = λ S h n l. along_end S _ _ _ h _ _ _ _ _ (c.loop-p.invariant S h) (behind c.loop-p-test.false c.from-p-end.ensures) n l }

pub walk_type_for_recursion-returns-then-id-ge512 : goal.walk_type_for_recursion-returns-then-id-ge512
walk_type_for_recursion-returns-then-id-ge512 t c = name_past _ _ _ _ _ c.from-id.ensures _ c.if-direct.bare _ (search rules) c.if-id-ge512.true (record { path = search rules; visited = search rules })

pub walk_type_for_recursion-returns-then-bare : goal.walk_type_for_recursion-returns-then-bare
walk_type_for_recursion-returns-then-bare t c =
    rw c.count_one.ensures (name_found _ _ _ _ _ c.from-id.ensures _ _ _ (search rules) c.if-state-id.true c.if-bare.true)

pub walk_type_for_recursion-returns-then-state-id : goal.walk_type_for_recursion-returns-then-state-id
walk_type_for_recursion-returns-then-state-id t c = name_back _ _ _ _ _ c.from-id.ensures _ _ _ (search rules) c.if-state-id.true c.if-bare.false

pub walk_type_for_recursion-returns-then-state-id-2 : goal.walk_type_for_recursion-returns-then-state-id-2
walk_type_for_recursion-returns-then-state-id-2 t c = name_visited _ _ _ _ _ c.from-id.ensures _ c.if-direct.bare _ (search rules) c.if-state-id.false c.if-state-id-2.true

pub walk_type_for_recursion-walk_slot-after-requires : goal.walk_type_for_recursion-walk_slot-after-requires
walk_type_for_recursion-walk_slot-after-requires t c =
    let w : Whole c.args.state = record { path = search rules; visited = search rules } in (
      omega (arith, c.decreases, inside_fewer _ c.if-id-ge512.false _ w c.if-state-id-2.false _ _ c.enter-inside.ensures),
      (
        record {
          schema = c.requires.schema;
          held = c.requires.held;
          fits = inside_fits _ c.if-id-ge512.false _ w c.if-state-id-2.false _ _ c.enter-inside.ensures c.requires.schema c.requires.fits;
        },
        c.if-id-ge512.false,
      ),
    )

pub walk_type_for_recursion-returns : goal.walk_type_for_recursion-returns
walk_type_for_recursion-returns t c =
    let w : Whole c.args.state = record { path = search rules; visited = search rules } in
    name_inside _ _ _ _ _ c.from-id.ensures _ _ _ (search rules) c.if-id-ge512.false w c.if-state-id-2.false _ _ c.enter-inside.ensures c.if-state-id.false (search rules) _ _
    c.walk_slot-after.ensures c.leave.ensures
