use mathlib.Core.Path.{◌≡◌}
use mathlib.Core.Bool.{false}
use Rattle.level.specs.Level.{names_in}
use Rattle.level.proofs.Variants.{InFields, InVariants}
use Rattle.level.proofs.level_variants.Given as goal

abbrev pub invariant-loop-more : goal.invariant-loop-more
invariant-loop-more l = (l.over ≡ false) × InFields (names_in l.scope.slots l.answers) l.scope.layout l.image l.scope.edition l.scope.names l.fields l.after l.at l.initial.visits l.more l.here l.visits l.total

abbrev pub decreases-loop-more : goal.decreases-loop-more
decreases-loop-more l = l.more

abbrev pub invariant-variants : goal.invariant-variants
invariant-variants l = (l.over ≡ false) × InVariants (names_in l.scope.slots l.answers) l.scope.layout l.image l.scope.edition l.scope.names l.count l.at l.left l.here l.visits l.extremes l.last

abbrev pub decreases-variants : goal.decreases-variants
decreases-variants l = l.left
