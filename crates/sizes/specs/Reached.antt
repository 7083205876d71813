-- What the declared messages and unions are made of, which of it leads back to itself (refusal 16), and how many nodes are met
-- where each is worked out once.
use Rattle.std.specs.Prelude.{ℕ, zero, suc, ◌+◌, Bool, true, false, cond, ◌&&◌, ◌||◌, List, [], ◌∷◌, length, eqb}
use Rattle.slot.specs.Slot.{Slot, empty, message, enum, flags, union, newtype, config, alias, trait, impl}
use Rattle.graph.specs.Ways.{Leads, via, lowest, has}
use Rattle.graph.specs.declared.Lowest.{Lowest}
use Rattle.image.specs.Schema.{Schema, slot_of}
use Rattle.sizes.specs.Names.{content_of}
use Rattle.sizes.specs.Lengths.{parts_of, LeadsTo, MadeOf}
use Rattle.sizes.specs.Demand.{Declared}
use Rattle.sizes.specs.Nodes.{content_nodes}

-- a message or a union
abbrev pub is_sizable : Slot → Bool
is_sizable empty = false
is_sizable (message m) = true
is_sizable (enum e) = false
is_sizable (flags f) = false
is_sizable (union u) = true
is_sizable (newtype n) = false
is_sizable config = false
is_sizable (alias a) = false
is_sizable (trait t) = false
is_sizable (impl m) = false

-- a slot leads to its parts, as the length rules have them
abbrev pub part_leads : Schema → Leads
part_leads S i j = has j (parts_of S i)

abbrev pub slot_count : Schema → ℕ
slot_count S = length S.slots

-- ways are computed here (`via`): that they are those of the length rules (`LeadsTo`, `MadeOf`) is a theorem
abbrev pub part_ways : Schema → Leads
part_ways S = via (part_leads S) (slot_count S)

-- one of these that is a message or union, or what one leads to
unfoldable pub reached_from : Schema → (declared : List ℕ) → ℕ → Bool
reached_from S [] i = false
reached_from S (d ∷ ds) i = (is_sizable (slot_of S d) && (eqb d i || part_ways S d i)) || reached_from S ds i

abbrev pub is_reached : Schema → ℕ → Bool
is_reached S i = reached_from S S.declared i

-- refusal 16: the lowest slot that is reached and leads back to itself
unfoldable pub leading_back : Schema → Lowest
leading_back S = lowest (λ i. is_reached S i && part_ways S i i) (slot_count S) 0

-- the same by the length rules
abbrev pub LeadsBack : Schema → ℕ → Type 0
LeadsBack S i = ((d : ℕ) × Declared S d × MadeOf S d i) × LeadsTo S i i

unfoldable pub sum_below : (ℕ → ℕ) → ℕ → ℕ
sum_below g zero = 0
sum_below g (suc n) = sum_below g n + g n

-- the nodes of each slot that is reached, once
unfoldable pub visits_of : Schema → ℕ
visits_of S = sum_below (λ i. cond (is_reached S i) (content_nodes (content_of S i)) 0) (slot_count S)
