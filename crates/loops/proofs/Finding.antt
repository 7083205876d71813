-- What names find, in the part of a table that was filled with it; types do not ask. Assumes nothing.
use Prim.Native.Nat.{ℕ, ◌+◌, ◌-◌, ◌≤◌, ◌<◌}
use mathlib.Core.Path.{◌≡◌, refl, sym, ap, ap₂, fun_ext, ◌∙◌}
use mathlib.Core.List.{List, ◌++◌}
use mathlib.Core.Logic.{by_cases}
use native.Mathlib.Omega.{arith}
use native.Mathlib.Decide.{dec_lt}
use lib.ListN.{length, get_or, replicate, take, drop, length-take, length-replicate, get_or-replicate, get_or-eq_default, get_or-append}
use lib.Seq.{sets, sets-eq, get_or-take, get_or-drop, get_or-append-add}
use Rattle.tree.specs.Tree.{Tree, leaf, wrap, fixed_array, pair, generic}
use Rattle.tree.specs.declared.Sort.{Sort}
use Rattle.tree.specs.declared.Sort.TheVariants.{Resolved, Expression}
use Rattle.slot.specs.Slot.{Slot, empty, message, enum, flags, union, newtype, config, alias, trait, impl}
use Rattle.graph.specs.Ways.{Leads, has, lowest_looped}
use Rattle.graph.specs.declared.Lowest.{Lowest}
use Rattle.image.specs.Finds.{finds_at}
use Rattle.image.proofs.Finding.{finds_few}
use Rattle.loops.specs.Leads.{found, generic_slots, slot_leads, leads, loop_of}
use Rattle.loops.specs.Marks.{used_names}

resolved_same : (fs gs : List ℕ) (x : Slot) → slot_leads Resolved fs x ≡ slot_leads Resolved gs x
unfolding slot_leads
resolved_same fs gs empty = refl
resolved_same fs gs (message m) = refl
resolved_same fs gs (enum e) = refl
resolved_same fs gs (flags f) = refl
resolved_same fs gs (union u) = refl
resolved_same fs gs (newtype n) = refl
resolved_same fs gs config = refl
resolved_same fs gs (alias a) = refl
resolved_same fs gs (trait t) = refl
resolved_same fs gs (impl i) = refl

-- expressions ask by number
module _ (fs gs : List ℕ) (same : (n : ℕ) → get_or fs n 0 ≡ get_or gs n 0) where
  generic_same : (t : Tree) → generic_slots fs t ≡ generic_slots gs t
  unfolding generic_slots
  generic_same (leaf l) = refl
  generic_same (wrap w t) = generic_same t
  generic_same (fixed_array t n) = generic_same t
  generic_same (pair p t u) = ap₂ ◌++◌ (generic_same t) (generic_same u)
  generic_same (generic n t) = ap₂ ◌++◌ (ap found (same n)) (generic_same t)

  expression_same : (x : Slot) → slot_leads Expression fs x ≡ slot_leads Expression gs x
  unfolding slot_leads
  expression_same empty = refl
  expression_same (message m) = refl
  expression_same (enum e) = refl
  expression_same (flags f) = refl
  expression_same (union u) = refl
  expression_same (newtype n) = refl
  expression_same config = refl
  expression_same (alias a) = generic_same a.target
  expression_same (trait t) = refl
  expression_same (impl i) = refl

loop_same : (sort : Sort) (fs gs : List ℕ) → ((x : Slot) → slot_leads sort fs x ≡ slot_leads sort gs x) → (slots : ℕ → Slot) (count : ℕ) → loop_of sort fs slots count ≡ loop_of sort gs slots count
unfolding loop_of leads
loop_same sort fs gs same slots count = ap (λ (e : Leads). lowest_looped e count) (fun_ext (λ i. fun_ext (λ j. ap (has j) (same (slots i)))))

-- the first places of the table are what was written, and zeros
first_places : (fs : List ℕ) (u : ℕ) → length fs ≤ u → u ≤ 4096 → (n : ℕ) → get_or (take u (sets (replicate 4096 0) 0 fs)) n 0 ≡ get_or fs n 0
first_places fs u f h n = by_cases (dec_lt n u)
    (λ l. get_or-take u (sets (replicate 4096 0) 0 fs) n 0 l ∙ ap (λ (x : List ℕ). get_or x n 0) whole ∙ inside l)
    (λ l. get_or-eq_default (take u (sets (replicate 4096 0) 0 fs)) 0 (omega (arith, length-take u (sets (replicate 4096 0) 0 fs))) ∙ sym (get_or-eq_default fs 0 (omega arith)))
  where
    whole : sets (replicate 4096 0) 0 fs ≡ fs ++ drop (0 + length fs) (replicate 4096 0)
    whole = sets-eq fs (replicate 4096 0) 0 (rw (length-replicate {A = ℕ} 4096 0) (omega arith))

    inside : n < u → get_or (fs ++ drop (0 + length fs) (replicate 4096 0)) n 0 ≡ get_or fs n 0
    inside l = by_cases (dec_lt n (length fs))
        (λ k. get_or-append fs (drop (0 + length fs) (replicate 4096 0)) 0 n k)
        (λ k.
        let d : n ≡ length fs + (n - length fs) = omega arith in
        let z : 0 + length fs + (n - length fs) ≡ n = omega arith in
        ap (λ (m : ℕ). get_or (fs ++ drop (0 + length fs) (replicate 4096 0)) m 0) d ∙ get_or-append-add fs (drop (0 + length fs) (replicate 4096 0)) (n - length fs) 0
        ∙ get_or-drop (0 + length fs) (replicate 4096 0) (n - length fs) 0 ∙ ap (λ (m : ℕ). get_or (replicate 4096 0) m 0) z ∙ get_or-replicate 4096 n 0 0 (omega arith) ∙ sym (get_or-eq_default fs 0 (omega arith)))

module _ (names : ℕ) (s : List ℕ) (at : ℕ) (slots : ℕ → Slot) (count : ℕ) (few : names ≤ 4096) where
  pub used_loop : (sort : Sort) (used : ℕ) (table part : List ℕ) (r : Lowest) → used ≡ used_names sort names
      → table ≡ sets (replicate 4096 0) 0 (finds_at used s at) → part ≡ take (used - 0) (drop 0 table) → r ≡ loop_of sort part slots count
      → r ≡ loop_of sort (finds_at names s at) slots count
  used_loop Resolved used table part r u w p e = e ∙ loop_same Resolved part (finds_at names s at) (resolved_same part (finds_at names s at)) slots count
  used_loop Expression used table part r u w p e =
      let z : used - 0 ≡ names = omega arith in
      let q : part ≡ take names (sets (replicate 4096 0) 0 (finds_at names s at)) = p ∙ ap (take (used - 0)) w ∙ ap₂ (λ (k m : ℕ). take k (sets (replicate 4096 0) 0 (finds_at m s at))) z u in
      e ∙ loop_same Expression part (finds_at names s at)
      (expression_same part (finds_at names s at) (λ n. ap (λ (x : List ℕ). get_or x n 0) q ∙ first_places (finds_at names s at) names (finds_few names s at) few n)) slots count
