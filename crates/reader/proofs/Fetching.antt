-- Fetching a slot's part, and what an accepted image promises of it. Assumes nothing.
use Prim.Native.Nat.{ℕ, ◌≤◌, ◌<◌}
use mathlib.Core.Path.{◌≡◌, sym}
use mathlib.Core.List.{List}
use mathlib.Core.Logic.{by_cases}
use native.Mathlib.Decide.{dec_lt}
use native.Mathlib.Omega.{arith}
use lib.ListN.{length}
use Rattle.slot.specs.Slot.{slot_kind}
use Rattle.image.specs.Schema.{slot_of}
use Rattle.image.specs.declared.Frame.{Frame}
use Rattle.view.specs.Part.{part_at}
use Rattle.view.specs.declared.Part.{Part}
use Rattle.view.proofs.Fetching.{past, Behind, part_there, part_holds, not_absent}
use Rattle.reader.specs.Reading.{schema_of}
use Rattle.reader.specs.Promise.{Promise}

module _ (s starts : List ℕ) (f : Frame) (promise : Promise s starts f) (k : ℕ) where
  module _ (h : k < f.slots) where
    in_table : k < length starts
    in_table = omega (arith, promise.room)

    -- the part of each slot is there
    pub part_is : (body : ℕ) × (part_at s starts k ≡ Part.At (slot_kind (slot_of (schema_of f.edition s) k)) body)
        × Behind f.edition f.names s (slot_of (schema_of f.edition s) k) (slot_kind (slot_of (schema_of f.edition s) k)) body
    part_is = let r = promise.slots k h in part_there f.edition f.names s starts k in_table _ r.0 r.1

    -- what the answer of fetching it says
    pub part_behind : (kind body : ℕ) → part_at s starts k ≡ Part.At kind body → Behind f.edition f.names s (slot_of (schema_of f.edition s) k) kind body
    part_behind = let r = promise.slots k h in part_holds f.edition f.names s starts k in_table _ r.0 r.1

    pub not_missing : part_at s starts k ≡ Part.Missing → ⊥
    not_missing = let r = promise.slots k h in not_absent f.edition f.names s starts k in_table _ r.0 r.1

  -- a part is missing exactly where there is no such slot
  pub missing_is : (part_at s starts k ≡ Part.Missing → f.slots ≤ k) × (f.slots ≤ k → part_at s starts k ≡ Part.Missing)
  missing_is = (
    λ e. by_cases (dec_lt k f.slots) (λ h. absurd (not_missing h e)) (λ h. omega arith),
    λ h. sym (past s starts k (omega (arith, promise.room))),
  )
