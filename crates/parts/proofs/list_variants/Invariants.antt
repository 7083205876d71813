use mathlib.Core.Path.{◌≡◌}
use Rattle.slot.specs.Field.{fields_at}
use Rattle.parts.specs.Names.{variant_names}
use Rattle.parts.specs.Lists.{table}
use Rattle.parts.proofs.Listing.{Run}
use Rattle.parts.proofs.list_variants.Given as goal

abbrev pub invariant-loop : goal.invariant-loop
invariant-loop l =
    record {
      listed : Run (fields_at l.edition l.names) variant_names l.image l.count l.initial.here (table l.initial.listed) l.counter l.here (table l.listed);
      same_table : l.listed.parts.ghost_name ≡ l.initial.listed.parts.ghost_name;
    }
