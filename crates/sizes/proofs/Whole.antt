-- Demand 3, proved.
use Rattle.std.specs.Prelude.{◌≡◌, ℕ, List, ◌++◌}
use Rattle.std.proofs.Common.{sym, subst, ◌∙◌}
use Rattle.image.specs.Schema.{Schema}
use Rattle.sizes.specs.Sizes.{Layout}
use Rattle.sizes.specs.Names.{State}
use Rattle.sizes.specs.Check.{accepted, check_sizes, table_of}
use Rattle.sizes.specs.Demand.{Sizable, is_message, Demand3}
use Rattle.sizes.proofs.Turns.{at_last, last_turn, all_enclosed, all_attained}
use Rattle.sizes.proofs.Fixed.{fixed_when_lem}
use Rattle.sizes.proofs.Table.{table_entry}

-- of the table after the check, whatever stands in the places left over
pub demand3 : (L : Layout) (S : Schema) (st : State) → check_sizes L S ≡ accepted st → (rest : List ℕ) →
    Demand3 L S (table_of S st ++ rest)
demand3 L S st q rest = record {
  computed = λ i d.
      let (s, w, f) = at_last L S i (last_turn L S st q i d) st q d.sizable in
      (s, table_entry S st rest i d.sizable ∙ f);
  enclosed = λ trusted i d s e. all_enclosed L S st q trusted i s (sym (table_entry S st rest i d.sizable) ∙ e);
  attained = λ brings i d free s e. all_attained L S st q brings i s (sym (table_entry S st rest i d.sizable) ∙ e) free;
  last_turn = last_turn L S st q;
  fixed_when = λ i last m e b.
      let h = fixed_when_lem L S st q i last m e b in
      let there = table_entry S st rest i (subst Sizable (sym e) is_message) in
      ((λ p. h.0 (sym there ∙ p)), λ all. there ∙ h.1 all);
}
