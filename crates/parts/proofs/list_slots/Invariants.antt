use mathlib.Core.Path.{◌≡◌}
use Rattle.parts.proofs.Tabling.{Sofar}
use Rattle.parts.proofs.list_slots.Given as goal

abbrev pub invariant-loop-i : goal.invariant-loop-i
invariant-loop-i l =
    record {
      sofar : Sofar l.image l.fn.frame l.messages l.first l.fn.parts l.listed.parts.now l.listed.used l.i;
      same_table : l.listed.parts.ghost_name ≡ l.initial.listed.parts.ghost_name;
    }
