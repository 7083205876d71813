-- What a slot comes to by the answers of its parts, by its kind. Assumes nothing.
use Prim.Native.Nat.{ℕ, ◌<◌}
use mathlib.Core.Path.{◌≡◌, refl, sym, ap, ap₂, ◌∙◌}
use mathlib.Core.List.{List}
use mathlib.Core.Option.{Option, none}
use native.Mathlib.Omega.{arith}
use Rattle.slot.specs.Slot.{Slot, empty, message, enum, flags, union, newtype, config, alias, trait, impl, Message, Union, Newtype, slot_kind}
use Rattle.image.specs.Schema.{Schema, slot_of}
use Rattle.image.specs.declared.Frame.{Frame}
use Rattle.reader.specs.Reading.{schema_of}
use Rattle.reader.specs.Promise.{Promise}
use Rattle.sizes.specs.declared.Layout.{Layout}
use Rattle.sizes.specs.declared.Size.{Size}
use Rattle.sizes.specs.declared.Size.TheVariants.{Open}
use Rattle.sizes.specs.declared.Worked.{Worked}
use Rattle.sizes.specs.declared.Worked.TheVariants.{Sized, Over}
use Rattle.sizes.specs.Sizes.{Resolver, type_size, fields_size, union_size}
use Rattle.sizes.specs.Names.{content_in, content_of, content_size}
use Rattle.sizes.specs.Check.{slot_row}
use Rattle.sizes.specs.Nodes.{type_nodes, fields_nodes, variants_nodes, content_nodes}
use Rattle.wiresize.specs.Rows.{row_at}
use Rattle.wiresize.specs.Asked.{Held}
use Rattle.wiresize.specs.declared.Row.{Row}
use Rattle.wiresize.proofs.Naming.{row_in, stored_few, row_of, row_known, row_other}
use Rattle.level.specs.Level.{visits_by, answer_in, Answers}

-- nodes that are met where there is a size
pub visits_same : (w : Worked) (a b : ℕ) → ((z : Size) → w ≡ Sized z → a ≡ b) → visits_by w a ≡ visits_by w b
visits_same (Sized z) a b h = h z refl
visits_same (Over o) a b h = refl

no_visits : (w : Worked) (n : ℕ) → n ≡ 0 → 0 ≡ visits_by w n
no_visits (Sized z) n e = sym e
no_visits (Over o) n e = refl

module _ (L : Layout) (S : Schema) (R : Resolver) (i : ℕ) where
  module _ (m : Message) (e : slot_of S i ≡ message m) where
    message_is : fields_size L R m.fields ≡ answer_in L S R i
    unfolding content_of content_in content_size
    message_is = sym (ap (λ (x : Slot). content_size L none R R (content_in S i x)) e)

    message_nodes : fields_nodes m.fields ≡ content_nodes (content_of S i)
    unfolding content_of content_in content_nodes
    message_nodes = sym (ap (λ (x : Slot). content_nodes (content_in S i x)) e)

    pub message_answers : {w : Worked} {v : ℕ} → w ≡ fields_size L R m.fields → v ≡ visits_by w (fields_nodes m.fields) → Answers L S R i (record { worked = w; visits = v })
    message_answers p q = record { worked = p ∙ message_is; visits = q ∙ ap₂ visits_by (p ∙ message_is) message_nodes }

  module _ (u : Union) (e : slot_of S i ≡ union u) where
    union_is : union_size L R u.variants ≡ answer_in L S R i
    unfolding content_of content_in content_size
    union_is = sym (ap (λ (x : Slot). content_size L none R R (content_in S i x)) e)

    union_nodes : variants_nodes u.variants ≡ content_nodes (content_of S i)
    unfolding content_of content_in content_nodes
    union_nodes = sym (ap (λ (x : Slot). content_nodes (content_in S i x)) e)

    pub union_answers : {w : Worked} {v : ℕ} → w ≡ union_size L R u.variants → v ≡ visits_by w (variants_nodes u.variants) → Answers L S R i (record { worked = w; visits = v })
    union_answers p q = record { worked = p ∙ union_is; visits = q ∙ ap₂ visits_by (p ∙ union_is) union_nodes }

  module _ (n : Newtype) (e : slot_of S i ≡ newtype n) where
    newtype_is : type_size R n.terminal ≡ answer_in L S R i
    unfolding content_of content_in content_size
    newtype_is = sym (ap (λ (x : Slot). content_size L none R R (content_in S i x)) e)

    newtype_nodes : type_nodes n.terminal ≡ content_nodes (content_of S i)
    unfolding content_of content_in content_nodes
    newtype_nodes = sym (ap (λ (x : Slot). content_nodes (content_in S i x)) e)

    pub newtype_answers : {w : Worked} {v : ℕ} → w ≡ type_size R n.terminal → {met : ℕ} → v ≡ visits_by w met → ((z : Size) → w ≡ Sized z → met ≡ type_nodes n.terminal)
        → Answers L S R i (record { worked = w; visits = v })
    newtype_answers {w} p q h = record {
      worked = p ∙ newtype_is;
      visits = q ∙ visits_same w _ _ h ∙ ap₂ visits_by (p ∙ newtype_is) newtype_nodes;
    }

-- a slot of another kind has no nodes, and its size is not stored
module _ (L : Layout) (S : Schema) (i : ℕ) (o : Option Size) (R : Resolver) where
  other_stored : (x : Slot) → (slot_kind x ≡ 1 → ⊥) → (slot_kind x ≡ 4 → ⊥) → content_size L o R R (content_in S i x) ≡ content_size L none R R (content_in S i x)
  unfolding content_in content_size
  other_stored empty a b = refl
  other_stored (message m) a b = absurd (a refl)
  other_stored (enum m) a b = refl
  other_stored (flags m) a b = refl
  other_stored (union m) a b = absurd (b refl)
  other_stored (newtype m) a b = refl
  other_stored config a b = refl
  other_stored (alias m) a b = refl
  other_stored (trait m) a b = refl
  other_stored (impl m) a b = refl

other_nodes : (S : Schema) (i : ℕ) (x : Slot) → (slot_kind x ≡ 1 → ⊥) → (slot_kind x ≡ 4 → ⊥) → (slot_kind x ≡ 5 → ⊥) → content_nodes (content_in S i x) ≡ 0
unfolding content_in content_nodes
other_nodes S i empty a b c = refl
other_nodes S i (message m) a b c = absurd (a refl)
other_nodes S i (enum m) a b c = refl
other_nodes S i (flags m) a b c = refl
other_nodes S i (union m) a b c = absurd (b refl)
other_nodes S i (newtype m) a b c = absurd (c refl)
other_nodes S i config a b c = refl
other_nodes S i (alias m) a b c = refl
other_nodes S i (trait m) a b c = refl
other_nodes S i (impl m) a b c = refl

module _ (L : Layout) (s starts : List ℕ) (f : Frame) (p : Promise s starts f) (rows : List ℕ) (held : Held (schema_of f.edition s) rows) (i : ℕ) (h : i < f.slots) (R : Resolver)
    (k : ℕ) (e : slot_kind (slot_of (schema_of f.edition s) i) ≡ k) (a : k ≡ 1 → ⊥) (b : k ≡ 4 → ⊥) (c : k ≡ 5 → ⊥) where
  abbrev S : Schema
  S = schema_of f.edition s

  abbrev here : Slot
  here = slot_of S i

  row_is : row_at rows i ≡ row_in (slot_row S held.state i here)
  row_is = let n = p.count in row_of S held.state rows held.holds i (omega arith)

  nodes_none : content_nodes (content_of S i) ≡ 0
  unfolding content_of
  nodes_none = other_nodes S i here (λ z. a (sym e ∙ z)) (λ z. b (sym e ∙ z)) (λ z. c (sym e ∙ z))

  stored_none : content_size L (held.state i) R R (content_in S i here) ≡ answer_in L S R i
  unfolding content_of
  stored_none = other_stored L S i (held.state i) R here (λ z. a (sym e ∙ z)) (λ z. b (sym e ∙ z))

  pub known_answers : {y : Worked} → row_at rows i ≡ Row.Known y → Answers L S R i (record { worked = y; visits = 0 })
  known_answers q = record {
    worked = sym (row_known L S held.state i R R _ here (stored_few s starts f p i h) (sym row_is ∙ q)) ∙ stored_none;
    visits = no_visits (answer_in L S R i) _ nodes_none;
  }

  pub other_answers : row_at rows i ≡ Row.None → Answers L S R i (record { worked = Sized (Open 0); visits = 0 })
  other_answers q = record {
    worked = sym (row_other L S held.state i R R here (λ z. a (sym e ∙ z)) (λ z. b (sym e ∙ z)) (λ z. c (sym e ∙ z)) (sym row_is ∙ q)) ∙ stored_none;
    visits = no_visits (answer_in L S R i) _ nodes_none;
  }
