-- Slots worked out in their order: each by the answers of its parts, which stand before it. Assumes nothing.
use Prim.Native.Nat.{ℕ, ◌+◌, ◌*◌, ◌≤◌, ◌<◌}
use mathlib.Core.Path.{◌≡◌, refl, sym, ap, subst, ◌∙◌}
use mathlib.Core.List.{List}
use mathlib.Core.Logic.{by_cases}
use native.Mathlib.Omega.{arith}
use native.Mathlib.Decide.{ℕ_discrete, dec_lt}
use native.Mathlib.Numerals.{add-one}
use lib.ListN.{length, get_or}
use borrow.Author.Tests.{lt-ltb, le-ltb}
use Rattle.reach.specs.Order.{In}
use Rattle.image.specs.Schema.{Schema}
use Rattle.sizes.specs.declared.Layout.{Layout}
use Rattle.sizes.specs.declared.Size.{Size}
use Rattle.sizes.specs.declared.Worked.{Worked}
use Rattle.sizes.specs.declared.Worked.TheVariants.{Sized, Over}
use Rattle.sizes.specs.Names.{content_of}
use Rattle.sizes.specs.Lengths.{parts_of}
use Rattle.sizes.specs.Nodes.{content_nodes}
use Rattle.sizes.proofs.Fuel.{Agree}
use Rattle.sizes.specs.Steady.{plain_size}
use Rattle.sizes.specs.Reached.{slot_count, is_reached, visits_of}
use Rattle.sizes.proofs.OneVisit.{has_of_member, reached_free, worked_right, past_open}
use Rattle.sizes.proofs.Sums.{sum_first, order_sum}
use Rattle.level.specs.Level.{answer_at, names_in, Unknown, visits_by, answer_in, SlotWorked}
use Rattle.marks.specs.Marks.{Sorted}
use Rattle.once.specs.Once.{AllWorked}
use Rattle.level.proofs.Answers.{answer_same, answer_other, unknown_other}

visits_few : (w : Worked) (n : ℕ) → n ≤ 65536 → visits_by w n ≤ 65536
visits_few (Sized z) n h = h
visits_few (Over o) n h = omega arith

visits_sized : {w : Worked} {z : Size} (n : ℕ) → w ≡ Sized z → visits_by w n ≡ n
visits_sized n e = ap (λ (x : Worked). visits_by x n) e

module _ (L : Layout) (S : Schema) (n : ℕ) (count : n ≡ slot_count S) (order : List ℕ) (m : ℕ) (sorted : Sorted S order m) where
  abbrev at : ℕ → ℕ
  at k = get_or order k 0

  abbrev nodes : ℕ → ℕ
  nodes i = content_nodes (content_of S i)

  -- the first k were worked out, and no others
  pub record Going (k : ℕ) (answers : List ℕ) (visits : ℕ) : Type 0 where
    pub short : k ≤ m
    pub right : (l : ℕ) → l < k → answer_at answers (at l) ≡ plain_size L S (at l)
    pub blank : (i : ℕ) → i < n → ((l : ℕ) → l < k → at l ≡ i → ⊥) → Unknown answers i
    pub few : visits ≤ k * 65536
    pub counted : ((l : ℕ) → l < k → (z : Size) × (plain_size L S (at l) ≡ Sized z)) → visits ≡ sum_first nodes order k

  pub going_start : (answers : List ℕ) → ((i : ℕ) → i < n → Unknown answers i) → Going 0 answers 0
  unfolding sum_first
  going_start answers h =
      record {
        short = omega arith;
        right = λ l b. absurd (omega arith);
        blank = λ i b d. h i b;
        few = omega arith;
        counted = λ d. refl;
      }

  module _ (k : ℕ) (answers : List ℕ) (visits : ℕ) (g : Going k answers visits) (h : k < m) where
    -- the slot that is next is not known yet
    pub next_unknown : Unknown answers (at k)
    next_unknown = g.blank (at k) (omega (arith, sorted.below k h)) (λ l b e. sorted.single l k b h e)

    -- its parts are known
    parts_agree : Agree (names_in n answers) (plain_size L S) (parts_of S (at k))
    unfolding names_in
    parts_agree j p = by_cases (dec_lt j n) (λ b. rw (lt-ltb j n b) (known (sorted.earlier k j h (omega arith) (has_of_member j (parts_of S (at k)) p))))
        (λ b. rw (le-ltb j n (omega arith)) (sym (past_open L S j (omega arith))))
      where
        known : In order k j → answer_at answers j ≡ plain_size L S j
        known (l, c, e) = subst (λ (x : ℕ). answer_at answers x ≡ plain_size L S x) e (g.right l c)

    answer_right : answer_in L S (names_in n answers) (at k) ≡ plain_size L S (at k)
    answer_right = worked_right L S (names_in n answers) (at k) (reached_free S sorted.no_loop (at k) (sorted.reached k h)) parts_agree

    -- it is known then, and what was known stays
    pub going_on : (after : List ℕ) (w : ℕ) → 3 * n ≤ length answers → nodes (at k) ≤ 65536 → SlotWorked L S n answers after (at k) w → Going (k + 1) after (visits + w)
    unfolding sum_first
    going_on after w room small worked =
        record {
          short = omega arith;
          right = λ l b. rw worked.table (by_cases (ℕ_discrete l k) (λ e. rw e (answer_same answers (at k) R (omega (arith, low)) ∙ answer_right))
              (λ e. answer_other answers (at k) R (at l) (λ q. sorted.single l k (omega arith) h q) ∙ g.right l (omega arith)));
          blank = λ i b d. rw worked.table (unknown_other answers (at k) R i (λ e. d k (omega arith) (sym e)) ∙ g.blank i b (λ l c q. d l (omega arith) q));
          few = omega (arith, g.few, worked.visited, visits_few R (nodes (at k)) small);
          counted = λ d.
              let z = d k (omega arith) in
              let t = worked.visited ∙ visits_sized (nodes (at k)) (answer_right ∙ z.1) in
              let c = g.counted (λ l b. d l (omega arith)) in
              rw add-one (omega arith);
        }
      where
        R : Worked
        R = answer_in L S (names_in n answers) (at k)

        low : at k < n
        low = omega (arith, sorted.below k h)

  -- all of them
  pub going_end : (k : ℕ) (answers : List ℕ) (visits : ℕ) → Going k answers visits → m ≤ k → AllWorked L S n answers visits
  unfolding visits_of
  going_end k answers visits g h =
      let e : k ≡ m = omega (arith, g.short) in
      record {
        right = λ i b r. found i (sorted.all i (omega arith) r);
        counted = λ d.
            g.counted (λ l b. d (at l) (omega (arith, sorted.below l (omega arith))) (sorted.reached l (omega arith)))
            ∙ ap (sum_first nodes order) e
            ∙ order_sum nodes (is_reached S) order m (slot_count S) sorted.single sorted.below sorted.all sorted.reached;
      }
    where
      found : (i : ℕ) → In order m i → answer_at answers i ≡ plain_size L S i
      found i (l, b, q) = subst (λ (x : ℕ). answer_at answers x ≡ plain_size L S x) q (g.right l (omega (arith, g.short)))
