-- Marks of one thing after another, of a slot, and of all slots. Assumes nothing.
use Prim.Native.Nat.{ℕ, suc, ◌+◌, ◌-◌, ◌<◌, ◌≤◌}
use mathlib.Core.Path.{◌≡◌, refl, sym, ap, ◌∙◌}
use mathlib.Core.List.{List, [], ◌∷◌, ◌++◌, append_assoc, append-nil}
use native.Mathlib.Omega.{arith}
use Rattle.number.specs.Grammar.{Grammar, many, counted, done, refused, below, read}
use Rattle.number.proofs.Reading.{given, not_done, front, counted_on, counted_refused}
use Rattle.slot.specs.Field.{type_at, Field, fields_at}
use Rattle.slot.specs.Slot.{Slot, empty, message, enum, flags, union, newtype, config, alias, trait, impl, slot_kind, message_at, union_at, newtype_at, slot_body_at}
use Rattle.slot.specs.declared.Edition.{Edition}
use Rattle.slot.proofs.Whole.{made_of}
use Rattle.graph.specs.Ways.{has}
use Rattle.graph.proofs.Rows.{grown_as, at_same, turns_start, turns_on}
use Rattle.image.specs.Schema.{Schema, slot_of}
use Rattle.loops.specs.Marks.{Led, Filled}
use Rattle.loops.proofs.Marking.{led_none, led_as, led_more}
use Rattle.view.specs.Part.{part_at}
use Rattle.view.specs.Inside.{name_count, inside_at}
use Rattle.view.specs.declared.Part.{Part}
use Rattle.view.proofs.Fetching.{Behind, body_at}
use Rattle.view.proofs.Insides.{fields_inside, variants_inside, terminal_inside}
use Rattle.sizes.specs.Names.{content_in, content_of}
use Rattle.sizes.specs.Lengths.{type_parts, field_parts, fields_parts, variants_parts, content_parts, parts_of}
use Rattle.sizes.specs.Reached.{part_leads}
use Rattle.marks.specs.Marks.{Marks}

-- ## One thing after another

unfoldable pub all_of : {A : Type 0} → (A → List ℕ) → List A → List ℕ
all_of f [] = []
all_of f (x ∷ xs) = f x ++ all_of f xs

-- so many of `count` things are marked, and the others still to come at p: together they are the whole run
pub record Run {A : Type 0} (g : Grammar A) (f : A → List ℕ) (s : List ℕ) (row count at : ℕ) (x : List ℕ) (passed p : ℕ) (y : List ℕ) : Type 0 where
  pub whole : (xs : List A) (end : ℕ) → read (many count g) s at ≡ done xs end
      → (ys : List A) × (past : List ℕ) × (read (many (count - passed) g) s p ≡ done ys end) × Led x row past y × (past ++ all_of f ys ≡ all_of f xs)

module _ {A : Type 0} (g : Grammar A) (f : A → List ℕ) (s : List ℕ) (row : ℕ) where
  module _ (count at : ℕ) (x : List ℕ) where
    pub run_start : Run g f s row count at x 0 at x
    run_start = let d : count - 0 ≡ count = omega arith in record { whole = λ xs end e. (xs, [], rw d e, led_none row refl, refl) }

    pub run_on : (passed p n : ℕ) (y z : List ℕ) → passed < count → Marks g f s p row y z n → Run g f s row count at x passed p y
        → Run g f s row count at x (passed + 1) n z
    unfolding all_of
    run_on passed p n y z h i l =
        record {
          whole = λ xs end e.
              let d : count - passed ≡ suc (count - (passed + 1)) = omega arith in
              let a = l.whole xs end e in
              let w = front g s (count - (passed + 1)) p a.0 end (rw d at a.2) in
              let q = i.marked w.first w.middle w.here in (
                w.others,
                a.1 ++ f w.first,
                ap (read (many (count - (passed + 1)) g) s) q.1 ∙ w.rest,
                led_more row a.1 (f w.first) a.3 q.0,
                append_assoc a.1 (f w.first) (all_of f w.others)
                    ∙ sym (ap (λ (u : List A). a.1 ++ all_of f u) w.whole)
                    ∙ a.4,
              );
        }

    pub run_end : (passed p : ℕ) (y : List ℕ) → count ≤ passed → Run g f s row count at x passed p y → Marks (many count g) (all_of f) s at row x y p
    unfolding many read all_of
    run_end passed p y h l =
        record {
          marked = λ xs end e.
              let d : count - passed ≡ 0 = omega arith in
              let a = l.whole xs end e in
              let k = given (rw d at a.2) in
              (led_as row (sym (append-nil a.1) ∙ ap (λ (u : List A). a.1 ++ all_of f u) k.0 ∙ a.4) a.3, k.1);
        }

  -- behind their count
  module _ (at : ℕ) (x y : List ℕ) (r : ℕ) (F : List A → List ℕ) (same : (xs : List A) → F xs ≡ all_of f xs) where
    pub counted_marked : (c n : ℕ) → below 65537 s at ≡ done c n → Marks (many c g) (all_of f) s n row x y r → Marks (counted g) F s at row x y r
    counted_marked c n e i =
        record { marked = λ xs end q. let w = i.marked xs end (sym (counted_on g s at c n e) ∙ q) in (led_as row (sym (same xs)) w.0, w.1) }

    pub counted_not : (q p : ℕ) → below 65537 s at ≡ refused q p → Marks (counted g) F s at row x y r
    counted_not q p e = record { marked = λ xs end k. absurd (not_done (counted_refused g s at q p e) k) }

pub fields_all : (fs : List Field) → fields_parts fs ≡ all_of field_parts fs
unfolding fields_parts all_of
fields_all [] = refl
fields_all (f ∷ fs) = ap (λ (l : List ℕ). field_parts f ++ l) (fields_all fs)

pub variants_all : (vs : List (List Field)) → variants_parts vs ≡ all_of fields_parts vs
unfolding variants_parts all_of
variants_all [] = refl
variants_all (v ∷ vs) = ap (λ (l : List ℕ). fields_parts v ++ l) (variants_all vs)

-- ## A slot

module _ (S : Schema) (i : ℕ) (ed : Edition) (names : ℕ) (s starts : List ℕ) (kind body : ℕ) (e : part_at s starts i ≡ Part.At kind body)
    (b : Behind ed names s (slot_of S i) kind body) (p : ℕ) (inside : p ≡ inside_at s starts i) (m : List ℕ) where
  abbrev SlotMarked : List ℕ → Type 0
  SlotMarked m' = Led m i (parts_of S i) m'

  parts_in : (z : Slot) → slot_of S i ≡ z → content_parts (content_in S i z) ≡ parts_of S i
  unfolding content_of
  parts_in z q = ap (λ (y : Slot). content_parts (content_in S i y)) (sym q)

  pub slot_message : kind ≡ 1 → (n : ℕ) (m' : List ℕ) → Marks (fields_at ed names) fields_parts s p i m m' n → SlotMarked m'
  unfolding slot_body_at content_in content_parts
  slot_message q n m' k =
      let x = made_of s message (message_at ed names) body (slot_of S i) b.end (body_at b 1 q) in
      led_as i (parts_in (message x.held) x.slot_is)
      (k.marked x.held.fields b.end (fields_inside s starts i e inside q ed names x.held b.end x.reads)).0

  pub slot_union : kind ≡ 4 → (n : ℕ) (m' : List ℕ) → Marks (counted (fields_at ed names)) variants_parts s p i m m' n → SlotMarked m'
  unfolding slot_body_at content_in content_parts
  slot_union q n m' k =
      let x = made_of s union (union_at ed names) body (slot_of S i) b.end (body_at b 4 q) in
      led_as i (parts_in (union x.held) x.slot_is)
      (k.marked x.held.variants b.end (variants_inside s starts i e inside q ed names x.held b.end x.reads)).0

  pub slot_newtype : name_count s ≡ names → kind ≡ 5 → (n : ℕ) (m' : List ℕ) → Marks (type_at names) type_parts s p i m m' n → SlotMarked m'
  unfolding slot_body_at content_in content_parts
  slot_newtype named q n m' k =
      let x = made_of s newtype (newtype_at names) body (slot_of S i) b.end (body_at b 5 q) in
      led_as i (parts_in (newtype x.held) x.slot_is)
      (k.marked x.held.terminal b.end (terminal_inside s starts i e inside named q x.held b.end x.reads)).0

  no_parts : (z : Slot) → slot_kind z ≡ kind → (kind ≡ 1 → ⊥) → (kind ≡ 4 → ⊥) → (kind ≡ 5 → ⊥) → [] ≡ content_parts (content_in S i z)
  unfolding content_in content_parts
  no_parts empty q h k j = refl
  no_parts (message x) q h k j = absurd (h (sym q))
  no_parts (enum x) q h k j = refl
  no_parts (flags x) q h k j = refl
  no_parts (union x) q h k j = absurd (k (sym q))
  no_parts (newtype x) q h k j = absurd (j (sym q))
  no_parts config q h k j = refl
  no_parts (alias x) q h k j = refl
  no_parts (trait x) q h k j = refl
  no_parts (impl x) q h k j = refl

  pub slot_other : (kind ≡ 1 → ⊥) → (kind ≡ 4 → ⊥) → (kind ≡ 5 → ⊥) → SlotMarked m
  slot_other h k j = led_none i (no_parts (slot_of S i) b.kind_is h k j ∙ parts_in (slot_of S i) refl)
