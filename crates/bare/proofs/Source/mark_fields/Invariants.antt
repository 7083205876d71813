-- What is marked so far and what is still to come are the whole run.
use Rattle.bare.proofs.Runs.{Run}
use Rattle.bare.proofs.Source.mark_fields.Given as goal

abbrev pub invariant-loop : goal.invariant-loop
invariant-loop l = Run l.self.edition l.self.names l.self.image.now l.row l.count l.initial.here l.initial.rows l.counter l.here l.rows
