-- The nodes of a slot of an accepted image, and its types. Assumes nothing.
use Prim.Native.Nat.{ℕ, ◌≤◌, ◌<◌}
use mathlib.Core.Path.{sym, subst}
use mathlib.Core.List.{List}
use mathlib.Core.Logic.{by_cases}
use native.Mathlib.Omega.{arith}
use native.Mathlib.Decide.{dec_lt}
use lib.ListN.{get_or}
use Rattle.image.specs.Schema.{slot_of}
use Rattle.image.specs.declared.Frame.{Frame}
use Rattle.reader.specs.Promise.{Promise}
use Rattle.reader.specs.Reading.{schema_of}
use Rattle.sizes.specs.Names.{content_of}
use Rattle.sizes.specs.Nodes.{content_nodes}
use Rattle.sizes.proofs.Rank.{none_missing}
use Rattle.sizes.proofs.Upward.{NoGeneric, EachType, EveryType}
use Rattle.settling.proofs.Nodes.{slot_nodes, slot_plain}

module _ (s starts : List ℕ) (f : Frame) (p : Promise s starts f) where
  -- at most as many as the image has bytes
  pub slot_few : (i : ℕ) → i < f.slots → content_nodes (content_of (schema_of f.edition s) i) ≤ 65536
  unfolding content_of
  slot_few i h =
      let (end, q) = p.slots i h in
      omega (arith, p.small, slot_nodes f.names s f.edition (schema_of f.edition s) i (get_or starts i 0) (slot_of (schema_of f.edition s) i) end q)

  pub types_plain : EveryType NoGeneric (schema_of f.edition s)
  unfolding content_of
  types_plain i = by_cases (dec_lt i f.slots)
      (λ h. let (end, q) = p.slots i h in
      slot_plain f.names s f.edition (schema_of f.edition s) i (get_or starts i 0) (slot_of (schema_of f.edition s) i) end q)
      (λ h. subst (EachType NoGeneric) (sym (none_missing (schema_of f.edition s) i (omega (arith, p.count)))) tt)
