-- Refusal 7 by the code's steps. Assumes nothing.
use Prim.Native.Nat.{ℕ, zero, suc, ◌+◌, ◌-◌, ◌≤◌, ◌<◌}
use mathlib.Core.Path.{◌≡◌, refl, sym, ap, ◌∙◌}
use mathlib.Core.List.{List}
use mathlib.Core.Bool.{Bool, true, false}
use mathlib.Core.Logic.{by_cases}
use native.Mathlib.Omega.{arith}
use native.Mathlib.Decide.{dec_lt}
use lib.Dec.{eqb}
use lib.ListN.{get_or}
use borrow.Author.Tests.{lt-ltb}
use Rattle.number.specs.Grammar.{slot, number, many, done, refused, below, read}
use Rattle.number.proofs.Reading.{not_done, given, read_number, front, many_length}
use Rattle.slot.specs.Slot.{Slot, empty, message, enum, flags, union, newtype, config, alias, trait, impl, slot_kind, slot_at}
use Rattle.slot.specs.declared.Edition.{Edition}
use Rattle.view.specs.Part.{part_at}
use Rattle.view.specs.declared.Part.{Part}
use Rattle.view.proofs.Fetching.{past, part_there}
use Rattle.graph.specs.Ways.{lowest}
use Rattle.graph.specs.declared.Lowest.{Lowest}
use Rattle.graph.proofs.Rows.{low_at, low_next, low_none}
use Rattle.loops.specs.Located.{slots_of, Located}
use Rattle.loops.specs.Refusals.{slots_past}
use Rattle.reader.specs.Reading.{is_empty, lost, lost_name}
use Rattle.reader.specs.Lost.{empty_part, lost_at}

empty_kind : (x : Slot) → is_empty x ≡ eqb (slot_kind x) 0
empty_kind empty = refl
empty_kind (message m) = refl
empty_kind (enum e) = refl
empty_kind (flags f) = refl
empty_kind (union u) = refl
empty_kind (newtype n) = refl
empty_kind config = refl
empty_kind (alias a) = refl
empty_kind (trait t) = refl
empty_kind (impl i) = refl

-- by the code's steps
module _ (s starts : List ℕ) (find : ℕ) where
  pub lost_none : find ≡ 0 → false ≡ lost_at s starts find
  unfolding lost_at
  lost_none e = rw e

  pub lost_part : (find ≡ 0 → ⊥) → (x : Part) → part_at s starts (find - 1) ≡ x → empty_part x ≡ lost_at s starts find
  unfolding lost_at
  lost_part h x e = let d : find ≡ suc (find - 1) = omega arith in sym (ap (lost_at s starts) d ∙ ap empty_part e)

module _ (ed : Edition) (names count : ℕ) (s starts : List ℕ) (l : Located ed names count s starts) where
  pub slot_at_lem : (i : ℕ) (h : i < count) (x : Slot) (end : ℕ) → read (slot_at ed names) s (get_or starts i 0) ≡ done x end → slots_of ed names count s starts i ≡ x
  unfolding slots_of
  slot_at_lem i h x end e = simp (lt-ltb i count h) (rw e)

  -- the slots' parts say which names are lost
  pub lost_is : (find : ℕ) → lost_at s starts find ≡ lost (slots_of ed names count s starts) find
  unfolding lost_at lost
  lost_is zero = refl
  lost_is (suc i) = by_cases (dec_lt i count)
      (λ h.
      let x = l.reads i h in
      ap empty_part (part_there ed names s starts i (omega (arith, l.room)) x.0 x.1 x.2).1 ∙ sym (empty_kind x.0) ∙ ap is_empty (sym (slot_at_lem i h x.0 x.1 x.2)))
      (λ h. ap empty_part (sym (past s starts i (omega (arith, l.room)))) ∙ ap is_empty (sym (slots_past ed names count s starts i (omega arith))))

-- the names from number n on, which are still to be looked at
module _ (names : ℕ) (s : List ℕ) (at : ℕ) (slots : ℕ → Slot) where
  pub record Left (fs gs : List ℕ) (m p n : ℕ) : Type 0 where
    pub reads : read (many (names - n) (number slot 513)) s p ≡ done gs m
    pub same : (j : ℕ) → get_or fs (n + j) 0 ≡ get_or gs j 0
    pub answer : lost_name fs slots ≡ lowest (λ j. lost slots (get_or fs j 0)) (names - n) n

  pub record Turn (p n : ℕ) : Type 0 where
    pub low : n ≤ names
    pub left : (fs : List ℕ) (m : ℕ) → read (many names (number slot 513)) s at ≡ done fs m → (gs : List ℕ) × Left fs gs m p n

  pub first_turn : Turn at 0
  unfolding lost_name
  first_turn =
      let z : names - 0 ≡ names = omega arith in
      record {
        low = omega arith;
        left = λ fs m e. (
          fs,
          record {
            reads = rw z e;
            same = λ j. let d : 0 + j ≡ j = omega arith in rw d;
            answer = ap (λ (k : ℕ). lowest (λ j. lost slots (get_or fs j 0)) k 0) (many_length (number slot 513) s names at fs m e ∙ sym z);
          },
        );
      }

  module _ (p n : ℕ) (t : Turn p n) where
    pub last_turn : names ≤ n → (fs : List ℕ) (m : ℕ) → read (many names (number slot 513)) s at ≡ done fs m → Lowest.Nowhere ≡ lost_name fs slots
    last_turn h fs m e = let g = t.left fs m e in sym (g.1.answer ∙ low_none _ names n h)

    module _ (h : n < names) where
      -- the first of the names left
      record First (fs gs : List ℕ) (m : ℕ) : Type 0 where
        value : ℕ
        others : List ℕ
        middle : ℕ
        reads : below 513 s p ≡ done value middle
        rest : read (many (names - (n + 1)) (number slot 513)) s middle ≡ done others m
        here : get_or fs n 0 ≡ value
        later : (j : ℕ) → get_or fs (n + 1 + j) 0 ≡ get_or others j 0

      first_of : (fs gs : List ℕ) (m : ℕ) → Left fs gs m p n → First fs gs m
      first_of fs gs m l =
          let d : names - n ≡ suc (names - (n + 1)) = omega arith in
          let f = front (number slot 513) s (names - (n + 1)) p gs m (rw d at l.reads) in
          record {
            value = f.first;
            others = f.others;
            middle = f.middle;
            reads = sym (read_number slot 513 s p) ∙ f.here;
            rest = f.rest;
            here = ap (λ (k : ℕ). get_or fs k 0) (omega arith) ∙ l.same 0 ∙ ap (λ (xs : List ℕ). get_or xs 0 0) f.whole;
            later = λ j. ap (λ (k : ℕ). get_or fs k 0) (omega arith) ∙ l.same (suc j) ∙ ap (λ (xs : List ℕ). get_or xs (suc j) 0) f.whole;
          }

      pub stop_turn : (r q : ℕ) → below 513 s p ≡ refused r q → (x : Lowest) (fs : List ℕ) (m : ℕ) → read (many names (number slot 513)) s at ≡ done fs m → x ≡ lost_name fs slots
      stop_turn r q e x fs m f =
          let g = t.left fs m f in
          absurd (not_done e (first_of fs g.0 m g.1).reads)

      module _ (v k : ℕ) (e : below 513 s p ≡ done v k) where
        pub found_turn : (b : Bool) → b ≡ lost slots v → b ≡ true → (fs : List ℕ) (m : ℕ) → read (many names (number slot 513)) s at ≡ done fs m → Lowest.At n ≡ lost_name fs slots
        found_turn b u w fs m f =
            let g = t.left fs m f in
            let o = first_of fs g.0 m g.1 in
            let q : o.value ≡ v = (given (sym o.reads ∙ e)).0 in
            sym (g.1.answer ∙ low_at (λ j. lost slots (get_or fs j 0)) names n h (ap (lost slots) (o.here ∙ q) ∙ sym u ∙ w))

        pub next_turn : (b : Bool) → b ≡ lost slots v → b ≡ false → Turn k (n + 1)
        next_turn b u w =
            record {
              low = omega arith;
              left = λ fs m f.
                  let g = t.left fs m f in
                  let o = first_of fs g.0 m g.1 in
                  let q = given (sym o.reads ∙ e) in (
                    o.others,
                    record {
                      reads = ap (λ (y : ℕ). read (many (names - (n + 1)) (number slot 513)) s y) (sym q.1) ∙ o.rest;
                      same = o.later;
                      answer = g.1.answer ∙ low_next (λ j. lost slots (get_or fs j 0)) names n h (ap (lost slots) (o.here ∙ q.0) ∙ sym u ∙ w);
                    },
                  );
            }
