-- A schema with its limits and its lists of ordinals and bits changed, and nothing else: what edition two adds, left out or moved.
use Rattle.std.specs.Prelude.{ℕ, ◌≡◌, List, [], ◌++◌, map}
use Rattle.std.proofs.Math.ListN.{get_or-map}
use Rattle.slot.specs.Field.{Field}
use Rattle.slot.specs.Slot.{Slot, empty, message, enum, flags, union, newtype, config, alias, trait, impl, Ordinals, Enum, Flags}
use Rattle.image.specs.Schema.{Schema, slot_of}

-- what becomes of each limit, and of the ordinals or bits of each slot
pub record Change : Type 0 where
  pub limits : ℕ → ℕ
  pub ordinals : Ordinals → Ordinals

abbrev pub field_changed : Change → Field → Field
field_changed c f = record { field_name = f.field_name; encoding = f.encoding; type = f.type; limit = c.limits f.limit }

abbrev pub fields_changed : Change → List Field → List Field
fields_changed c fs = map (field_changed c) fs

abbrev pub enum_changed : Change → Enum → Enum
enum_changed c e = record { backing = e.backing; non_exhaustive = e.non_exhaustive; stored_bits = e.stored_bits; ordinals = c.ordinals e.ordinals }

abbrev pub flags_changed : Change → Flags → Flags
flags_changed c f = record { stored_bytes = f.stored_bytes; bits = c.ordinals f.bits }

unfoldable pub slot_changed : Change → Slot → Slot
slot_changed c empty = empty
slot_changed c (message m) = message (record { span = m.span; stored = m.stored; fields = fields_changed c m.fields })
slot_changed c (enum e) = enum (enum_changed c e)
slot_changed c (flags f) = flags (flags_changed c f)
slot_changed c (union u) = union (record { stored = u.stored; variants = map (fields_changed c) u.variants })
slot_changed c (newtype n) = newtype n
slot_changed c config = config
slot_changed c (alias a) = alias a
slot_changed c (trait t) = trait t
slot_changed c (impl i) = impl i

unfoldable pub changed : Change → Schema → Schema
changed c S = record { finds = S.finds; slots = map (slot_changed c) S.slots; declared = S.declared }

-- slot by slot
pub slot_changed_lem : (c : Change) (S : Schema) (i : ℕ) → slot_of (changed c S) i ≡ slot_changed c (slot_of S i)
unfolding slot_of changed slot_changed
slot_changed_lem c S i = get_or-map (slot_changed c) S.slots i empty

-- ## Three changes

-- no field has a limit, and none is retired: all that edition one can say
abbrev pub bare : Change
bare = record { limits = λ _. 0; ordinals = λ o. record { live = o.live; retired = [] } }

-- the retired ones behind the live ones, and as live as they
abbrev pub joined : Ordinals → Ordinals
joined o = record { live = o.live ++ o.retired; retired = [] }

abbrev pub moved : Change
moved = record { limits = λ n. n; ordinals = joined }

-- moved, and no field has a limit: edition one can say it
abbrev pub moved_bare : Change
moved_bare = record { limits = λ _. 0; ordinals = joined }
