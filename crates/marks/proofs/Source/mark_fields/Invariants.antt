-- What is marked so far and what is still to come are the whole run.
use Rattle.slot.specs.Field.{field_at}
use Rattle.sizes.specs.Lengths.{field_parts}
use Rattle.marks.proofs.Runs.{Run}
use Rattle.marks.proofs.Source.mark_fields.Given as goal

abbrev pub invariant-loop : goal.invariant-loop
invariant-loop l = Run (field_at l.self.edition l.self.names) field_parts l.self.image.now l.row l.count l.initial.here l.initial.rows l.counter l.here l.rows
