use mathlib.Core.Path.{refl, ◌∙◌}
use Rattle.number.proofs.Reading.{told}
use Rattle.parts.proofs.Listing.{run_start, run_on, run_end, list_field, counted_list, counted_not}
use Rattle.parts.proofs.list_fields.Goals as goal

pub returns-in_default-clause-listed : goal.returns-in_default-clause-listed
returns-in_default-clause-listed c = counted_not _ _ _ _ _ _ _ _ _ (told c.read_below.ensures c.in_default.is)

pub loop-init : goal.loop-init
loop-init c = record { listed = run_start _ _ _ _ _ _; same_table = refl }

pub loop-preserved : goal.loop-preserved
loop-preserved c =
    record {
      listed = run_on _ _ _ _ _ _ _ _ _ _ _ c.loop-test.true (list_field _ _ _ _ _ _ _ _ _ c.type_place-place.ensures c.list_type-behind.ensures.listed _ _ c.skip_limit.ensures c.place_of-here.ensures) c.loop.invariant.listed;
      same_table = c.list_type-behind.ensures.same_table ∙ c.loop.invariant.same_table;
    }

pub returns-clause-listed : goal.returns-clause-listed
returns-clause-listed c = counted_list _ _ _ _ _ _ _ _ _ (told c.read_below.ensures c.in-Value.is) (run_end _ _ _ _ _ _ _ _ _ c.loop-test.false c.loop.invariant.listed)
