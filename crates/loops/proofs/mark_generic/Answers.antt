-- The name is in the table and finds a slot, or nothing is marked. Assumes nothing.
use native.Mathlib.Omega.{arith}
use Rattle.loops.specs.Marks.{name_slots}
use Rattle.loops.proofs.Marking.{led_none, led_one, name_none, name_out, name_found}
use Rattle.loops.proofs.mark_generic.Goals as goal
use Rattle.loops.proofs.mark_generic.Goals.{in-Expression, in_default, else-matches-via-then-matches+else-name-finds, else-matches-via-else-matches}

pub returns-then-find-gt0 : goal.returns-then-find-gt0
returns-then-find-gt0 c =
    elim c.match-matches.branch [
      | in-Expression w ↦ rw w.in-Expression.is (led_one _ c.mark.ensures (name_found c.args.finds.now c.args.name _ c.from-find.ensures c.if-find-gt0.true))
      | in_default w ↦ absurd cc
    ]

pub returns-else-find-gt0 : goal.returns-else-find-gt0
returns-else-find-gt0 c = led_none _ (name_none c.args.finds.now c.args.sort c.args.name (omega arith))

pub returns-else-matches : goal.returns-else-matches
unfolding name_slots
returns-else-matches c =
    led_none _
    (elim c.else-matches.branch [
      | else-matches-via-then-matches+else-name-finds w ↦ name_out c.args.finds.now c.args.sort c.args.name w.if-name-finds.false
      | else-matches-via-else-matches w ↦ elim c.match-matches.branch [ in-Expression v ↦ absurd cc | in_default v ↦ rw v.in_default.is ]
    ])
