-- Of the leaves of a type a name is marked, and of those of an expression none. Assumes nothing.
use mathlib.Core.Path.{sym, ◌∙◌}
use Rattle.loops.proofs.Marking.{led_none, led_one, leaf_other, leaf_named}
use Rattle.loops.proofs.mark_leaf.Goals as goal
use Rattle.loops.proofs.mark_leaf.Goals.{in-Resolved, in_default, else-matches-via-then-matches+else-kind-eq3, else-matches-via-else-matches}

pub returns-then-kind-eq3 : goal.returns-then-kind-eq3
returns-then-kind-eq3 c =
    λ finds l k v.
    elim c.match-matches.branch [
      | in-Resolved w ↦ rw w.in-Resolved.is (led_one _ c.mark.ensures (leaf_named finds l _ (k ∙ c.if-kind-eq3.true) v))
      | in_default w ↦ absurd cc
    ]

pub returns-else-matches : goal.returns-else-matches
returns-else-matches c =
    λ finds l k v.
    led_none _
    (leaf_other finds c.args.sort l
    (λ r e.
    elim c.else-matches.branch [
      | else-matches-via-then-matches+else-kind-eq3 w ↦ w.if-kind-eq3.false (sym k ∙ e)
      | else-matches-via-else-matches w ↦ elim c.match-matches.branch [ in-Resolved v ↦ cc | in_default v ↦ v.in_default.not-Resolved r ]
    ]))
