-- The tables that were filled hold the names of the slots. Assumes nothing.
use Prim.Native.Nat.{ℕ, zero, suc, ◌+◌, ◌-◌, ◌<◌, ◌≤◌}
use mathlib.Core.Path.{◌≡◌, sym, ap, ap₂, ◌∙◌}
use mathlib.Core.List.{List, [], ◌∷◌, ◌++◌, append_assoc}
use mathlib.Core.Logic.{by_cases}
use mathlib.Core.Bool.{Bool}
use native.Mathlib.Omega.{arith}
use native.Mathlib.Numerals.{add-one}
use native.Mathlib.Decide.{dec_lt}
use lib.ListN.{length, get_or, take, drop, length-append, get_or-eq_default}
use lib.Seq.{sets-eq, length-sets, take-append_seam, drop-append-add}
use Rattle.slot.specs.Slot.{empty}
use Rattle.image.specs.Schema.{Schema, slot_of}
use Rattle.parts.specs.Names.{all_of, slot_names}
use Rattle.parts.specs.Lists.{Tabled}
use Rattle.parts.proofs.Tabling.{all_front, all_next}
use Rattle.walks.specs.Walk.{row, Held}

-- one of many lists that stand one after another
piece : {A : Type 0} (f : A → List ℕ) (d : A) (xs : List A) (i : ℕ) (rest : List ℕ) → i < length xs
    → take (length (f (get_or xs i d))) (drop (length (all_of f (take i xs))) (all_of f xs ++ rest)) ≡ f (get_or xs i d)
unfolding all_of
piece f d [] i rest h = absurd (omega arith)
piece f d (x ∷ xs) zero rest h = ap (take (length (f x))) (append_assoc (f x) (all_of f xs) rest) ∙ take-append_seam (f x) (all_of f xs ++ rest)
piece f d (x ∷ xs) (suc i) rest h =
    ap (take (length (f (get_or xs i d))))
    (ap₂ drop (length-append (f x) (all_of f (take i xs))) (append_assoc (f x) (all_of f xs) rest) ∙ drop-append-add (f x) (all_of f xs ++ rest) (length (all_of f (take i xs))))
    ∙ piece f d xs i rest (omega arith)

module _ (S : Schema) (messages : List Bool) (first before parts : List ℕ) (t : Tabled S.slots messages first before parts)
    (fit : length (all_of slot_names S.slots) ≤ length before) where
  long : length parts ≡ length before
  long = ap length t.content ∙ length-sets before 0 (all_of slot_names S.slots)

  inside : (i : ℕ) → get_or first (i + 1) 0 ≤ length parts
  inside i = by_cases (dec_lt i (length S.slots))
      (λ h. omega (arith, t.ends (i + 1) (omega arith), all_front slot_names (i + 1) S.slots, long))
      (λ h. omega (arith, t.past (i + 1) (omega arith)))

  row_in : (i : ℕ) → i < length S.slots → row first parts i ≡ slot_names (slot_of S i)
  unfolding row slot_of
  row_in i h =
      let n = ap (λ (k : ℕ). length (all_of slot_names (take k S.slots))) (add-one i) ∙ all_next slot_names S.slots i empty h in
      let z : get_or first (i + 1) 0 - get_or first i 0 ≡ length (slot_names (get_or S.slots i empty)) = omega (arith, t.ends (i + 1) (omega arith), t.ends i (omega arith), n) in
      let c = t.content ∙ sets-eq (all_of slot_names S.slots) before 0 (omega arith) in
      ap₂ (λ (a : ℕ) (l : List ℕ). take a l) z (ap₂ drop (t.ends i (omega arith)) c) ∙ piece slot_names empty S.slots i _ h

  row_past : (i : ℕ) → length S.slots ≤ i → row first parts i ≡ slot_names (slot_of S i)
  unfolding row slot_of slot_names
  row_past i h =
      let z : get_or first (i + 1) 0 - get_or first i 0 ≡ 0 = omega (arith, t.past (i + 1) (omega arith)) in
      ap (λ (a : ℕ). take a (drop (get_or first i 0) parts)) z ∙ sym (ap slot_names (get_or-eq_default S.slots empty {n = i} h))

  pub held : length S.slots ≤ 512 → length before ≤ 32768 → Held S messages first parts
  unfolding slot_of
  held few small =
      record {
        marks = t.marks;
        places = t.places;
        few = few;
        message = t.message;
        inside = inside;
        names = λ i. by_cases (dec_lt i (length S.slots)) (λ h. row_in i h) (λ h. row_past i (omega arith));
        most = omega (arith, fit);
      }
