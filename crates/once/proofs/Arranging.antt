-- The slots in order, by the tables that the code fills. Assumes nothing.
use Prim.Native.Nat.{ℕ, zero, suc, ◌*◌, ◌≤◌, ◌<◌}
use mathlib.Core.Path.{◌≡◌, refl, sym, ap, subst, ◌∙◌}
use mathlib.Core.List.{List, ◌∷◌}
use mathlib.Core.Bool.{Bool, false}
use native.Mathlib.Omega.{arith}
use lib.ListN.{length, get_or, take, replicate}
use borrow.Author.Tests.{lt-ltb}
use Rattle.graph.specs.Ways.{Leads}
use Rattle.graph.specs.Table.{grid, blank}
use Rattle.graph.specs.declared.Lowest.{Lowest}
use Rattle.loops.specs.Marks.{Filled}
use Rattle.reach.specs.Order.{inside, ArrangedTo}
use Rattle.reach.specs.Back.{leading_back as back_in}
use Rattle.reach.specs.declared.Walked.{Walked}
use Rattle.image.specs.Schema.{Schema}
use Rattle.sizes.specs.Reached.{slot_count, part_leads, leading_back}
use Rattle.marks.specs.Marks.{is_start}
use Rattle.marks.proofs.Parted.{sorted, looped, leading_same}
use Rattle.once.specs.Once.{Arranges}
use Rattle.once.specs.declared.Arranged.{Arranged}

-- a part of a table with nothing in it
pub blank_part : (n k : ℕ) → n ≤ k → take n (replicate k false) ≡ replicate n false
blank_part zero k h = refl
blank_part (suc n) zero h = absurd (omega arith)
blank_part (suc n) (suc k) h = ap (λ (t : List Bool). false ∷ t) (blank_part n k (omega arith))

-- what a table without marks has once it is filled
filled_is : {before after : List ℕ} (e : Leads) {n : ℕ} → before ≡ replicate (length before) 0 → Filled before e n after → n * 8 ≤ length before → n ≤ 512
    → (a b : ℕ) → a < n → b < n → grid after a b ≡ e a b
filled_is {before} {after} e {n} z f room few a b p q =
    let w : grid before a b ≡ false = ap (λ (l : List ℕ). grid l a b) z ∙ blank (length before) a b in
    f.places a b (omega arith) (omega arith) ∙ rw (w, lt-ltb a n p)

module _ (S : Schema) (n : ℕ) (count : n ≡ slot_count S) (few : n ≤ 512) (declared : List Bool) (marked : (i : ℕ) → i < n → get_or declared i false ≡ is_start S i)
    (before leads : List ℕ) (z : before ≡ replicate (length before) 0) (filled : Filled before (part_leads S) n leads) (room : n * 8 ≤ length before)
    (order : List ℕ) where
  parts : (a b : ℕ) → a < slot_count S → b < slot_count S → grid leads a b ≡ part_leads S a b
  parts a b p q = filled_is (part_leads S) z filled room few a b (omega arith) (omega arith)

  starts : (i : ℕ) → i < slot_count S → get_or declared i false ≡ is_start S i
  starts i b = marked i (omega arith)

  at_count : (w : Walked) → ArrangedTo (inside n (grid leads)) n declared order w → ArrangedTo (inside (slot_count S) (grid leads)) (slot_count S) declared order w
  at_count w a = subst (λ (k : ℕ). ArrangedTo (inside k (grid leads)) k declared order w) count a

  module _ (w : Walked) (a : ArrangedTo (inside n (grid leads)) n declared order w) where
    at_walked : {y : Walked} → w ≡ y → ArrangedTo (inside (slot_count S) (grid leads)) (slot_count S) declared order y
    at_walked q = subst (λ (x : Walked). ArrangedTo (inside (slot_count S) (grid leads)) (slot_count S) declared order x) q (at_count w a)

    pub in_order : (m : ℕ) → w ≡ Walked.Done m → Arranges S n declared order (Arranged.Order m)
    in_order m q = record { starts = marked; arranged = sorted S leads declared parts starts order m (at_walked q) }

    module _ (j : ℕ) (q : w ≡ Walked.Back j) (l : Lowest) (back : l ≡ back_in (grid leads) n declared) where
      lowest_is : l ≡ leading_back S
      lowest_is = back ∙ ap (λ (k : ℕ). back_in (grid leads) k declared) count ∙ leading_same S leads declared parts starts

      pub on_loop : (i : ℕ) → l ≡ Lowest.At i → Arranges S n declared order (Arranged.Loop i)
      on_loop i e = record { starts = marked; arranged = sym lowest_is ∙ e }

      pub no_loop : {A : Type 0} → l ≡ Lowest.Nowhere → A
      no_loop e = absurd (looped S leads declared parts starts j (at_walked q) (sym lowest_is ∙ e))
