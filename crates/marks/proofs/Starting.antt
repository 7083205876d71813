-- The declared messages and unions, one declaration after another. Assumes nothing.
use Prim.Native.Nat.{ℕ, suc, ◌+◌, ◌-◌, ◌^◌, ◌<◌, ◌≤◌}
use mathlib.Core.Path.{◌≡◌, refl, sym, ap, ◌∙◌}
use mathlib.Core.List.{List, [], ◌∷◌, ◌++◌, append_assoc, append-nil}
use mathlib.Core.Logic.{◌⊎◌, ⊎_elim}
use mathlib.Core.Bool.{Bool, true, false, ◌&&◌, or-false, and-or_distrib_right}
use native.Mathlib.Omega.{arith}
use lib.Dec.{eqb}
use lib.ListN.{length, get_or, replicate, get_or-replicate}
use Rattle.number.specs.Grammar.{slot, number, many, done, read}
use Rattle.number.proofs.Reading.{given, front, read_number}
use Rattle.slot.specs.Slot.{Slot, empty, message, enum, flags, union, newtype, config, alias, trait, impl, slot_kind}
use Rattle.slot.specs.declared.Edition.{Edition}
use Rattle.graph.specs.Ways.{has}
use Rattle.image.specs.Schema.{Schema, slot_of}
use Rattle.image.specs.declared.Frame.{Frame}
use Rattle.loops.proofs.Chains.{has_append}
use Rattle.view.specs.Take.{taken_of, taken_at}
use Rattle.view.specs.declared.Taken.{Taken}
use Rattle.view.proofs.Fetching.{Behind}
use Rattle.reader.specs.Reading.{schema_of}
use Rattle.reader.specs.Promise.{Promise}
use Rattle.sizes.specs.Reached.{is_sizable}
use Rattle.marks.specs.Marks.{Begun, Started}

-- ## The kinds

is_kind : (x : Slot) (k : ℕ) → slot_kind x ≡ k → (k ≡ 1) ⊎ (k ≡ 4) → true ≡ is_sizable x
is_kind empty k e h = absurd (⊎_elim (λ z. omega arith) (λ z. omega arith) h)
is_kind (message m) k e h = refl
is_kind (enum m) k e h = absurd (⊎_elim (λ z. omega arith) (λ z. omega arith) h)
is_kind (flags m) k e h = absurd (⊎_elim (λ z. omega arith) (λ z. omega arith) h)
is_kind (union m) k e h = refl
is_kind (newtype m) k e h = absurd (⊎_elim (λ z. omega arith) (λ z. omega arith) h)
is_kind config k e h = absurd (⊎_elim (λ z. omega arith) (λ z. omega arith) h)
is_kind (alias m) k e h = absurd (⊎_elim (λ z. omega arith) (λ z. omega arith) h)
is_kind (trait m) k e h = absurd (⊎_elim (λ z. omega arith) (λ z. omega arith) h)
is_kind (impl m) k e h = absurd (⊎_elim (λ z. omega arith) (λ z. omega arith) h)

not_kind : (x : Slot) (k : ℕ) → slot_kind x ≡ k → (k ≡ 1 → ⊥) → (k ≡ 4 → ⊥) → false ≡ is_sizable x
not_kind empty k e h j = refl
not_kind (message m) k e h j = absurd (h (sym e))
not_kind (enum m) k e h j = refl
not_kind (flags m) k e h j = refl
not_kind (union m) k e h j = absurd (j (sym e))
not_kind (newtype m) k e h j = refl
not_kind config k e h j = refl
not_kind (alias m) k e h j = refl
not_kind (trait m) k e h j = refl
not_kind (impl m) k e h j = refl

module _ {ed : Edition} {names : ℕ} {s : List ℕ} {x : Slot} {k body : ℕ} (b : Behind ed names s x k body) where
  pub sizable : (k ≡ 1) ⊎ (k ≡ 4) → true ≡ is_sizable x
  sizable h = is_kind x k b.kind_is h

  pub not_sizable : (k ≡ 1 → ⊥) → (k ≡ 4 → ⊥) → false ≡ is_sizable x
  not_sizable h j = not_kind x k b.kind_is h j

-- ## All declarations

-- so many of `count` declarations are marked, and the others still to come at p
pub record Going (S : Schema) (slots : ℕ) (s : List ℕ) (before : List Bool) (count passed p : ℕ) (marks : List Bool) : Type 0 where
  pub long : length marks ≡ length before
  pub past : List ℕ
  pub rest : List ℕ
  pub end : ℕ
  pub reads : read (many (count - passed) (number slot (2 ^ 32))) s p ≡ done rest end
  pub whole : past ++ rest ≡ S.declared
  pub places : (i : ℕ) → i < slots → get_or marks i false ≡ (has i past && is_sizable (slot_of S i))

pub going_start : (s starts : List ℕ) (f : Frame) (marks : List Bool) → Promise s starts f → marks ≡ replicate (length marks) false → f.slots ≤ length marks
    → Going (schema_of f.edition s) f.slots s marks f.declarations 0 f.declared marks
unfolding has
going_start s starts f marks p h room =
    let d : f.declarations - 0 ≡ f.declarations = omega arith in
    record {
      long = refl;
      past = [];
      rest = (schema_of f.edition s).declared;
      end = p.declared_end;
      reads = rw d p.declared;
      whole = refl;
      places = λ i l. ap (λ (m : List Bool). get_or m i false) h ∙ get_or-replicate (length marks) i false false (omega arith);
    }

module _ (S : Schema) (slots : ℕ) (s : List ℕ) (before : List Bool) (count passed p : ℕ) (marks : List Bool) (g : Going S slots s before count passed p marks) where
  pub going_on : passed < count → (t : Taken) → t ≡ taken_at s p → (marks' : List Bool) → Begun S slots t.value marks marks'
      → Going S slots s before count (passed + 1) t.next marks'
  unfolding has
  going_on h t q marks' b =
      let d : count - passed ≡ suc (count - (passed + 1)) = omega arith in
      let w = front (number slot (2 ^ 32)) s (count - (passed + 1)) p g.rest g.end (rw d at g.reads) in
      let k = q ∙ ap taken_of (sym (read_number slot (2 ^ 32) s p) ∙ w.here) in
      let v : t.value ≡ w.first = ap (λ (z : Taken). z.value) k in
      let n : t.next ≡ w.middle = ap (λ (z : Taken). z.next) k in
      record {
        long = b.long ∙ g.long;
        past = g.past ++ (w.first ∷ []);
        rest = w.others;
        end = g.end;
        reads = ap (read (many (count - (passed + 1)) (number slot (2 ^ 32))) s) n ∙ w.rest;
        whole = append_assoc g.past (w.first ∷ []) w.others ∙ sym (ap (λ (u : List ℕ). g.past ++ u) w.whole) ∙ g.whole;
        places = λ i l.
            b.places i l
            ∙ rw (g.places i l, v, has_append i g.past (w.first ∷ []), or-false (eqb i w.first))
            (sym (and-or_distrib_right (has i g.past) (eqb i w.first) (is_sizable (slot_of S i))));
      }

  pub going_end : count ≤ passed → Started S slots before marks
  unfolding many read
  going_end h =
      let d : count - passed ≡ 0 = omega arith in
      let k = given (rw d at g.reads) in
      let e : g.past ≡ S.declared = sym (append-nil g.past) ∙ ap (λ (u : List ℕ). g.past ++ u) k.0 ∙ g.whole in
      record { long = g.long; places = λ i l. g.places i l ∙ ap (λ (u : List ℕ). has i u && is_sizable (slot_of S i)) e }
