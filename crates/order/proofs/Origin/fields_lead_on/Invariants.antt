use Rattle.order.specs.Steps.{onward}
use Rattle.order.proofs.Leading.{Run}
use Rattle.order.proofs.Origin.fields_lead_on.Given as goal

abbrev pub invariant-loop : goal.invariant-loop
invariant-loop l = Run (onward l.self) l.self.frame.edition l.self.frame.names l.self.image.now l.count l.initial.here l.counter l.here
