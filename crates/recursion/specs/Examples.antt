-- Worked examples of class 1, as one table: the slots of a schema whose declarations are all its slots, and how many
-- findings each declaration has.
use Rattle.std.specs.Prelude.{ℕ, ◌≡◌, refl, List, [], ◌∷◌, map}
use Rattle.tree.specs.Tree.{Tree, leaf, wrap, named, primitive, optional}
use Rattle.tree.specs.Encoding.{default}
use Rattle.slot.specs.Field.{Field, none}
use Rattle.slot.specs.Slot.{Slot, message, newtype}
use Rattle.image.specs.Schema.{Schema, slot_of}
use Rattle.findings.specs.Endless.{counted, entered, left, walk_leaf, walk_type, walk_fields, walk_variants, walk_slot, walk_name, start, endless_in, endless_of}
use Rattle.findings.specs.Finding.{finding}
use Rattle.findings.specs.declared.Finding.{Finding}

abbrev pub field : Tree → Field
field t = record { field_name = 0; encoding = default; type = t; limit = 0 }

abbrev pub message_of : List Field → Slot
message_of fs = message (record { span = record { offset = 5; length = 7 }; stored = none; fields = fs })

abbrev pub slots_of : List Slot → (declared : List ℕ) → Schema
slots_of xs ds = record { finds = []; slots = xs; declared = ds }

pub record Line : Type 0 where
  pub schema : Schema
  pub findings : List Finding

abbrev pub found : (slot : ℕ) → Finding
found i = finding 1 i (record { offset = 5; length = 7 }) 0 0

abbrev pub lines : List Line
lines =
    -- A {A}: one
    record { schema = slots_of (message_of (field (leaf (named 0)) ∷ []) ∷ []) (0 ∷ []); findings = found 0 ∷ [] }
    -- A {Optional B, B}, B {Optional A, A}: none
    ∷ record {
      schema = slots_of
          (message_of (field (wrap optional (leaf (named 1))) ∷ field (leaf (named 1)) ∷ [])
          ∷ message_of (field (wrap optional (leaf (named 0))) ∷ field (leaf (named 0)) ∷ [])
          ∷ [])
          (0 ∷ 1 ∷ []);
      findings = [];
    }
    -- A {N}, N a newtype of A whose terminal type is a primitive: its inner type decides
    ∷ record {
      schema = slots_of (message_of (field (leaf (named 1)) ∷ []) ∷ newtype (record { inner = leaf (named 0); terminal = leaf (primitive 0) }) ∷ []) (0 ∷ 1 ∷ []);
      findings = found 0 ∷ [];
    }
    -- A {N}, N a newtype of a primitive whose terminal type is A
    ∷ record {
      schema = slots_of (message_of (field (leaf (named 1)) ∷ []) ∷ newtype (record { inner = leaf (primitive 0); terminal = leaf (named 0) }) ∷ []) (0 ∷ 1 ∷ []);
      findings = [];
    }
    ∷ []

pub lines_hold : map (λ l. endless_of l.schema l.schema.declared) lines ≡ map (λ l. l.findings) lines
unfolding counted entered left walk_leaf walk_type walk_fields walk_variants walk_slot walk_name start endless_in endless_of slot_of
lines_hold = refl
