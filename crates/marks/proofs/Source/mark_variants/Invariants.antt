-- What is marked so far and what is still to come are the whole run.
use Rattle.slot.specs.Field.{fields_at}
use Rattle.sizes.specs.Lengths.{fields_parts}
use Rattle.marks.proofs.Runs.{Run}
use Rattle.marks.proofs.Source.mark_variants.Given as goal

abbrev pub invariant-loop : goal.invariant-loop
invariant-loop l = Run (fields_at l.self.edition l.self.names) fields_parts l.self.image.now l.row l.count l.initial.here l.initial.rows l.counter l.here l.rows
