-- The first slots of the order are worked out.
use mathlib.Core.Path.{◌≡◌}
use Rattle.reader.specs.Reading.{schema_of}
use Rattle.sizes.specs.Reached.{slot_count}
use Rattle.marks.specs.Marks.{Sorted}
use Rattle.once.proofs.Working.{Going}
use Rattle.once.proofs.work_all.Given as goal

abbrev pub invariant-loop-slot : goal.invariant-loop-slot
invariant-loop-slot l = (count : l.scope.slots ≡ slot_count (schema_of l.scope.edition l.image)) (w : Sorted (schema_of l.scope.edition l.image) l.order l.sorted)
    → Going l.scope.layout (schema_of l.scope.edition l.image) l.scope.slots count l.order l.sorted w l.slot-index l.answers l.visits
