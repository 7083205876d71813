-- What the walk over rows of bits says where each number is a start, and of the rows of a schema. Assumes nothing.
use Prim.Native.Nat.{ℕ, zero, suc, ◌-◌, ◌<◌, ◌≤◌}
use native.Mathlib.Omega.{arith}
use mathlib.Core.Path.{◌≡◌, refl, sym, ap, ◌∙◌}
use mathlib.Core.List.{List, ◌∷◌}
use mathlib.Core.Bool.{Bool, true, false}
use borrow.Author.Tests.{lt-ltb}
use lib.ListN.{length, get_or, take, replicate, length-replicate}
use Rattle.graph.specs.declared.Lowest.{Lowest}
use Rattle.graph.specs.Ways.{Leads, lowest_looped}
use Rattle.graph.specs.Loops.{lowest_same, looped_same}
use Rattle.graph.specs.Table.{grid, grid_zeros}
use Rattle.reach.specs.Order.{inside, own, ArrangedTo}
use Rattle.reach.specs.declared.Walked.{Walked}
use Rattle.reach.specs.Back.{leading_back}
use Rattle.reach.proofs.Ordered.{start_from, none_back, some_back}
use Rattle.reach.proofs.Walking.{inside_is, inside_low}
use Rattle.image.specs.Schema.{Schema}
use Rattle.loops.specs.Marks.{Filled}
use Rattle.bare.specs.Bare.{bare_leads, is_nowhere, is_free}

first_same : {A : Type 0} (a : A) (k n : ℕ) → k ≤ n → take k (replicate n a) ≡ replicate k a
first_same a zero n h = refl
first_same a (suc k) zero h = absurd (omega arith)
first_same a (suc k) (suc n) h = ap (λ l. a ∷ l) (first_same a k n (omega arith))

pub none_seen : (n : ℕ) → n ≤ 512 → take (n - 0) (replicate 512 false) ≡ replicate n false
none_seen n h = let z : n - 0 ≡ n = omega arith in rw z (first_same false n 512 h)

module _ (rows : List ℕ) (n : ℕ) (starts : List Bool) (all : (s : ℕ) → s < n → get_or starts s false ≡ true) where
  abbrev e : Leads
  e = inside n (grid rows)

  low : (a b : ℕ) → e a b ≡ true → (a < n) × (b < n)
  low a b h = let r = inside_low n (grid rows) a b h in (r.0, r.1)

  same_back : leading_back e n starts ≡ lowest_looped (grid rows) n
  unfolding leading_back
  same_back =
      lowest_same _ _ n 0 (λ j b. let c : j < n = omega arith in rw (start_from e n starts low j j c (all j c) own))
      ∙ looped_same e (grid rows) n (λ a b p q. inside_is n (grid rows) a b p q)

  module _ (order : List ℕ) (w : Walked) (g : ArrangedTo e n starts order w) where
    pub in_order : (m : ℕ) → w ≡ Walked.Done m → true ≡ is_nowhere (lowest_looped (grid rows) n)
    in_order m q = sym (ap is_nowhere (sym same_back ∙ none_back e n starts low order m (rw q at g)))

    pub leads_back : (j : ℕ) → w ≡ Walked.Back j → false ≡ is_nowhere (lowest_looped (grid rows) n)
    leads_back j q = go (lowest_looped (grid rows) n) refl
      where
        go : (r : Lowest) → lowest_looped (grid rows) n ≡ r → false ≡ is_nowhere r
        go (Lowest.At i) h = refl
        go Lowest.Nowhere h = absurd (some_back e n starts low j (rw q at g) (same_back ∙ h))

pub free_is : (S : Schema) (n : ℕ) (rows : List ℕ) (r : Bool) → n ≡ length S.slots → n ≤ 512 → Filled (replicate 4096 0) (bare_leads S) n rows
    → r ≡ is_nowhere (lowest_looped (grid rows) n) → r ≡ is_free S
unfolding is_free
free_is S n rows r q few g e =
    e ∙ ap is_nowhere
    (looped_same (grid rows) (bare_leads S) n
    (λ a b u v. g.places a b (omega (arith, length-replicate {A = ℕ} 4096 0)) (omega arith) ∙ rw (grid_zeros a b, lt-ltb a n u))
    ∙ ap (lowest_looped (bare_leads S)) q)
