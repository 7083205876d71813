-- The table of answers: a row is read back as the answer that was written, and no other row changes. Assumes nothing.
use Prim.Native.Nat.{ℕ, zero, suc, ◌+◌, ◌*◌, ◌≤◌, ◌<◌}
use mathlib.Core.Path.{◌≡◌, refl, sym, ap, ◌∙◌}
use mathlib.Core.List.{List}
use native.Mathlib.Omega.{arith}
use lib.ListN.{length, get_or, set, length-set}
use lib.Seq.{sets, length-sets, get_or-set_same, get_or-set_other}
use Rattle.sizes.specs.declared.Size.TheVariants.{Fixed, Bounded, Open}
use Rattle.sizes.specs.declared.Operation.TheVariants.{Sum, Product}
use Rattle.sizes.specs.declared.Worked.{Worked}
use Rattle.sizes.specs.declared.Worked.TheVariants.{Sized, Over}
use Rattle.sizes.specs.Check.{row}
use Rattle.level.specs.Level.{answer_row, answer_by, answer_at, Unknown}

pub answer_rest : (k a b : ℕ) → (k ≡ 1 → ⊥) → (k ≡ 2 → ⊥) → (k ≡ 3 → ⊥) → (k ≡ 4 → ⊥) → (k ≡ 5 → ⊥) → Sized (Open 0) ≡ answer_by k a b
unfolding answer_by
answer_rest zero a b p q r t u = refl
answer_rest (suc zero) a b p q r t u = absurd (p refl)
answer_rest (suc (suc zero)) a b p q r t u = absurd (q refl)
answer_rest (suc (suc (suc zero))) a b p q r t u = absurd (r refl)
answer_rest (suc (suc (suc (suc zero)))) a b p q r t u = absurd (t refl)
answer_rest (suc (suc (suc (suc (suc zero))))) a b p q r t u = absurd (u refl)
answer_rest (suc (suc (suc (suc (suc (suc k)))))) a b p q r t u = refl

-- an answer's row: its numbers, read back; and its kind is none of those that are not known
pub record AnswerRow (w : Worked) : Type 0 where
  pub kind : ℕ
  pub a : ℕ
  pub b : ℕ
  pub is : answer_row w ≡ row kind a b
  pub back : answer_by kind a b ≡ w
  pub there : kind ≡ 0 → ⊥

pub answer_row_lem : (w : Worked) → AnswerRow w
unfolding answer_row answer_by
answer_row_lem (Sized (Fixed b)) = record { kind = 1; a = b; b = b; is = refl; back = refl; there = λ e. omega arith }
answer_row_lem (Sized (Bounded l h)) = record { kind = 2; a = l; b = h; is = refl; back = refl; there = λ e. omega arith }
answer_row_lem (Sized (Open l)) = record { kind = 3; a = l; b = 0; is = refl; back = refl; there = λ e. omega arith }
answer_row_lem (Over Sum) = record { kind = 4; a = 0; b = 0; is = refl; back = refl; there = λ e. omega arith }
answer_row_lem (Over Product) = record { kind = 5; a = 0; b = 0; is = refl; back = refl; there = λ e. omega arith }

-- the three numbers of a row that was written, and those of others
module _ (l : List ℕ) (p k a b : ℕ) where
  abbrev three : List ℕ
  three = sets l p (row k a b)

  module _ (room : p + 3 ≤ length l) where
    first_is : get_or three p 0 ≡ k
    first_is =
        get_or-set_other (set (set l p k) (suc p) a) (suc (suc p)) p b 0 (λ e. omega arith)
        ∙ get_or-set_other (set l p k) (suc p) p a 0 (λ e. omega arith)
        ∙ get_or-set_same l p k 0 (omega arith)

    second_is : get_or three (p + 1) 0 ≡ a
    second_is =
        let e : p + 1 ≡ suc p = omega arith in
        rw e
        (get_or-set_other (set (set l p k) (suc p) a) (suc (suc p)) (suc p) b 0 (λ z. omega arith)
        ∙ get_or-set_same (set l p k) (suc p) a 0 (simp length-set (omega arith)))

    third_is : get_or three (p + 2) 0 ≡ b
    third_is =
        let e : p + 2 ≡ suc (suc p) = omega arith in
        rw e (get_or-set_same (set (set l p k) (suc p) a) (suc (suc p)) b 0 (simp length-set (omega arith)))

  elsewhere : (q : ℕ) → (q ≡ p → ⊥) → (q ≡ suc p → ⊥) → (q ≡ suc (suc p) → ⊥) → get_or three q 0 ≡ get_or l q 0
  elsewhere q x y z = get_or-set_other (set (set l p k) (suc p) a) (suc (suc p)) q b 0 z ∙ get_or-set_other (set l p k) (suc p) q a 0 y ∙ get_or-set_other l p q k 0 x

module _ (l : List ℕ) (i : ℕ) (w : Worked) where
  abbrev pub written : List ℕ
  written = sets l (3 * i) (answer_row w)

  as_row : written ≡ sets l (3 * i) (row (answer_row_lem w).kind (answer_row_lem w).a (answer_row_lem w).b)
  as_row = ap (sets l (3 * i)) (answer_row_lem w).is

  pub written_length : length written ≡ length l
  written_length = length-sets l (3 * i) (answer_row w)

  -- what was written is known, and read back
  module _ (room : 3 * i + 3 ≤ length l) where
    pub answer_known : Unknown written i → ⊥
    answer_known e =
        let r = answer_row_lem w in
        r.there (sym (ap (λ (t : List ℕ). get_or t (3 * i) 0) as_row ∙ first_is l (3 * i) r.kind r.a r.b room) ∙ e)

    pub answer_same : answer_at written i ≡ w
    answer_same =
        let r = answer_row_lem w in
        let x = first_is l (3 * i) r.kind r.a r.b room in
        let y = second_is l (3 * i) r.kind r.a r.b room in
        let z = third_is l (3 * i) r.kind r.a r.b room in
        ap (λ (t : List ℕ). answer_at t i) as_row ∙ rw (x, y, z) r.back

  -- no other slot changes
  module _ (j : ℕ) (other : j ≡ i → ⊥) where
    place_other : (d : ℕ) → d < 3 → (q : ℕ) → q ≡ 3 * j + d → get_or written q 0 ≡ get_or l q 0
    place_other d h q e =
        ap (λ (t : List ℕ). get_or t q 0) as_row
        ∙ elsewhere l (3 * i) (answer_row_lem w).kind (answer_row_lem w).a (answer_row_lem w).b q (λ z. other (omega arith)) (λ z. other (omega arith)) (λ z. other (omega arith))

    pub answer_other : answer_at written j ≡ answer_at l j
    answer_other =
        let x = place_other 0 (omega arith) (3 * j) (omega arith) in
        let y = place_other 1 (omega arith) (3 * j + 1) refl in
        let z = place_other 2 (omega arith) (3 * j + 2) refl in
        rw (x, y, z)

    pub unknown_other : get_or written (3 * j) 0 ≡ get_or l (3 * j) 0
    unknown_other = place_other 0 (omega arith) (3 * j) (omega arith)
