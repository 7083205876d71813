use Rattle.reader.specs.Reading.{schema_of}
use Rattle.settling.specs.Steps.{frame_of}
use Rattle.wiresize.proofs.Measure.{type_left, name_left, element_left, plain_left, field_left, variants_left, body_left}
use Rattle.wiresize.specs.Asked.{Meant}
use mathlib.Core.Path.{◌≡◌}
use mathlib.Core.Bool.{false}
use Rattle.wiresize.specs.Asked.{Meant}
use Rattle.wiresize.proofs.Fields.{FieldsLeft}
use Rattle.wiresize.proofs.Variants.{VariantsLeft}
use Rattle.wiresize.proofs.+wire_size.Given as goal

abbrev pub decreases-limited_size : goal.decreases-limited_size
decreases-limited_size l = element_left l.working.now

abbrev pub decreases-plain_size : goal.decreases-plain_size
decreases-plain_size l = plain_left l.working.now

abbrev pub decreases-compute_message_wire_size : goal.decreases-compute_message_wire_size
decreases-compute_message_wire_size l = body_left l.working.now

abbrev pub decreases-compute_resolved_type_wire_size : goal.decreases-compute_resolved_type_wire_size
decreases-compute_resolved_type_wire_size l = type_left l.image.now (frame_of l.scope) l.at l.working.now

abbrev pub decreases-compute_type_wire_size : goal.decreases-compute_type_wire_size
decreases-compute_type_wire_size l = field_left l.working.now

abbrev pub decreases-compute_union_wire_size : goal.decreases-compute_union_wire_size
decreases-compute_union_wire_size l = body_left l.working.now

abbrev pub decreases-variants_size : goal.decreases-variants_size
decreases-variants_size l = variants_left l.working.now

abbrev pub decreases-named_type_wire_size : goal.decreases-named_type_wire_size
decreases-named_type_wire_size l = name_left (schema_of l.scope.edition l.image.now) l.id l.working.now

abbrev pub invariant-variants_size-loop-more : goal.invariant-variants_size-loop-more
invariant-variants_size-loop-more l = (l.over ≡ false) × FieldsLeft (Meant l.scope.layout (schema_of l.scope.edition l.image) l.rows l.working) l.scope.layout l.image l.scope.edition l.scope.names l.fields l.after l.more l.here l.total

abbrev pub decreases-variants_size-loop-more : goal.decreases-variants_size-loop-more
decreases-variants_size-loop-more l = l.more

abbrev pub invariant-variants_size-variants : goal.invariant-variants_size-variants
invariant-variants_size-variants l = (l.over ≡ false) × VariantsLeft (Meant l.scope.layout (schema_of l.scope.edition l.image) l.rows l.working) l.scope.layout l.image l.scope.edition l.scope.names l.count l.at l.left l.here l.extremes l.last

abbrev pub decreases-variants_size-variants : goal.decreases-variants_size-variants
decreases-variants_size-variants l = l.left
