-- Marks of one field after another, of a slot, and of all slots. Assumes nothing.
use Prim.Native.Nat.{ℕ, suc, ◌+◌, ◌-◌, ◌<◌, ◌≤◌}
use mathlib.Core.Path.{◌≡◌, refl, sym, ap, ◌∙◌}
use mathlib.Core.List.{List, [], ◌++◌, append_assoc, append-nil}
use native.Mathlib.Omega.{arith}
use Rattle.number.specs.Grammar.{many, done, refused, below, read}
use Rattle.number.proofs.Reading.{given, not_done, front, counted_on, counted_refused}
use Rattle.slot.specs.Field.{type_at, Field, field_at, fields_at}
use Rattle.slot.specs.Slot.{Slot, empty, message, enum, flags, union, newtype, config, alias, trait, impl, slot_kind, Message, message_at, newtype_at, slot_body_at}
use Rattle.slot.specs.declared.Edition.{Edition}
use Rattle.slot.proofs.Whole.{made_of}
use Rattle.graph.specs.Ways.{has}
use Rattle.graph.proofs.Rows.{grown_as, at_same, turns_start, turns_on}
use Rattle.image.specs.Schema.{Schema, slot_of}
use Rattle.loops.specs.Marks.{Led, Filled}
use Rattle.loops.proofs.Marking.{led_none, led_as, led_more}
use Rattle.view.proofs.Places.{inner_stands}
use Rattle.view.proofs.Fetching.{Behind, body_at}
use Rattle.bare.specs.Bare.{type_names, fields_names, bare_names, bare_leads}
use Rattle.bare.specs.Steps.{Marks}

-- ## One field after another

-- so many of `count` fields are marked, and the others still to come at p: together they are the whole run
pub record Run (ed : Edition) (names : ℕ) (s : List ℕ) (row count at : ℕ) (x : List ℕ) (passed p : ℕ) (y : List ℕ) : Type 0 where
  pub whole : (fs : List Field) (end : ℕ) → read (many count (field_at ed names)) s at ≡ done fs end
      → (gs : List Field) × (past : List ℕ) × (read (many (count - passed) (field_at ed names)) s p ≡ done gs end) × Led x row past y × (past ++ fields_names gs ≡ fields_names fs)

module _ (ed : Edition) (names : ℕ) (s : List ℕ) (row : ℕ) where
  module _ (count at : ℕ) (x : List ℕ) where
    pub run_start : Run ed names s row count at x 0 at x
    run_start = let d : count - 0 ≡ count = omega arith in record { whole = λ fs end e. (fs, [], rw d e, led_none row refl, refl) }

    module _ (passed p : ℕ) (y : List ℕ) where
      pub run_on : (n : ℕ) (z : List ℕ) → passed < count → Marks (field_at ed names) (λ f. type_names f.type) s p row y z n → Run ed names s row count at x passed p y
          → Run ed names s row count at x (passed + 1) n z
      unfolding fields_names
      run_on n z h i l =
          record {
            whole = λ fs end e.
                let d : count - passed ≡ suc (count - (passed + 1)) = omega arith in
                let a = l.whole fs end e in
                let w = front (field_at ed names) s (count - (passed + 1)) p a.0 end (rw d at a.2) in
                let q = i.marked w.first w.middle w.here in (
                  w.others,
                  a.1 ++ type_names w.first.type,
                  ap (read (many (count - (passed + 1)) (field_at ed names)) s) q.1 ∙ w.rest,
                  led_more row a.1 (type_names w.first.type) a.3 q.0,
                  append_assoc a.1 (type_names w.first.type) (fields_names w.others)
                      ∙ sym (ap (λ (u : List Field). a.1 ++ fields_names u) w.whole)
                      ∙ a.4,
                );
          }

      pub run_end : count ≤ passed → Run ed names s row count at x passed p y → Marks (many count (field_at ed names)) fields_names s at row x y p
      unfolding many read fields_names
      run_end h l =
          record {
            marked = λ fs end e.
                let d : count - passed ≡ 0 = omega arith in
                let a = l.whole fs end e in
                let k = given (rw d at a.2) in
                (led_as row (sym (append-nil a.1) ∙ ap (λ (u : List Field). a.1 ++ fields_names u) k.0 ∙ a.4) a.3, k.1);
          }

  -- behind their count
  module _ (at : ℕ) (x y : List ℕ) (r : ℕ) where
    pub counted_marked : (c n : ℕ) → below 65537 s at ≡ done c n → Marks (many c (field_at ed names)) fields_names s n row x y r → Marks (fields_at ed names) fields_names s at row x y r
    counted_marked c n e i = record { marked = λ fs end q. i.marked fs end (sym (counted_on (field_at ed names) s at c n e) ∙ q) }

    pub counted_not : (q p : ℕ) → below 65537 s at ≡ refused q p → Marks (fields_at ed names) fields_names s at row x y r
    counted_not q p e = record { marked = λ fs end k. absurd (not_done (counted_refused (field_at ed names) s at q p e) k) }

-- ## A slot

module _ (ed : Edition) (names : ℕ) (s : List ℕ) (x : Slot) (kind body : ℕ) (b : Behind ed names s x kind body) (row : ℕ) (m : List ℕ) where
  pub slot_message : kind ≡ 1 → (p n : ℕ) (m' : List ℕ)
      → ((ed : Edition) (names : ℕ) (h : Message) (end : ℕ) → read (message_at ed names) s body ≡ done h end → read (fields_at ed names) s p ≡ done h.fields end)
      → Marks (fields_at ed names) fields_names s p row m m' n → Led m row (bare_names x) m'
  unfolding slot_body_at bare_names
  slot_message e p n m' w i =
      let y = made_of s message (message_at ed names) body x b.end (body_at b 1 e) in
      led_as row (sym (ap bare_names y.slot_is)) (i.marked y.held.fields b.end (w ed names y.held b.end y.reads)).0

  pub slot_newtype : kind ≡ 5 → (n : ℕ) (m' : List ℕ) → Marks (type_at names) type_names s body row m m' n → Led m row (bare_names x) m'
  unfolding slot_body_at bare_names
  slot_newtype e n m' i =
      let y = made_of s newtype (newtype_at names) body x b.end (body_at b 5 e) in
      let k = inner_stands s names body y.held b.end y.reads in
      led_as row (sym (ap bare_names y.slot_is)) (i.marked y.held.inner k.0 k.1).0

  pub slot_other : (kind ≡ 1 → ⊥) → (kind ≡ 5 → ⊥) → Led m row (bare_names x) m
  unfolding bare_names
  slot_other h i = led_none row (go x b.kind_is)
    where
      go : (z : Slot) → slot_kind z ≡ kind → [] ≡ bare_names z
      go (message y) q = absurd (h (sym q))
      go (newtype y) q = absurd (i (sym q))
      go empty q = refl
      go (enum y) q = refl
      go (flags y) q = refl
      go (union y) q = refl
      go config q = refl
      go (alias y) q = refl
      go (trait y) q = refl
      go (impl y) q = refl

-- ## All slots

pub rows_on : (S : Schema) (m₀ m m' : List ℕ) (i : ℕ) → Filled m₀ (bare_leads S) i m → Led m i (bare_names (slot_of S i)) m' → Filled m₀ (bare_leads S) (i + 1) m'
unfolding bare_leads
rows_on S m₀ m m' i r w =
    turns_on (λ a b. a) (bare_leads S) m₀ i m m' r (grown_as w (λ a b u v. at_same a i (λ z. has b (bare_names (slot_of S z)))))
