use native.Mathlib.Omega.{arith}
use mathlib.Core.Path.{refl, ◌∙◌}
use Prim.Native.Nat.{◌≤◌}
use Rattle.parts.proofs.Tabling.{sofar_start, sofar_on, small_used}
use Rattle.parts.proofs.list_slots.Goals as goal

pub loop-i-init : goal.loop-i-init
loop-i-init c = record { sofar = sofar_start _ _ _ _ _ _ c.requires; same_table = refl }

pub overflow_cast-first : goal.overflow_cast-first
overflow_cast-first c = let z : c.list_slot.new.listed.used ≤ 32768 = small_used _ _ _ _ _ _ c.requires _ _ _ _ _ c.loop-i-test.true c.loop-i.invariant.sofar _ _ _ c.list_slot.ensures.listed in omega arith

pub loop-i-preserved : goal.loop-i-preserved
loop-i-preserved c =
    record {
      sofar = sofar_on _ _ _ _ _ _ c.requires _ _ _ _ _ c.loop-i-test.true c.loop-i.invariant.sofar _ _ _ c.list_slot.ensures.listed;
      same_table = c.list_slot.ensures.same_table ∙ c.loop-i.invariant.same_table;
    }
