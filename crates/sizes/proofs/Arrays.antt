-- What arrays, sets and maps take, by the length rules. Assumes nothing.
use mathlib.Core.Path.{◌≡◌, refl, subst}
use Prim.Native.Nat.{ℕ, zero, suc, ◌+◌, ◌*◌, ◌^◌, ◌≤◌, ◌<◌}
use native.Mathlib.Omega.{arith}
use mathlib.Core.List.{[], ◌∷◌}
use mathlib.Core.Option.{some}
use Rattle.number.specs.Shortest.{groups_of}
use Rattle.number.proofs.Shortest.{groups_one}
use Rattle.tree.specs.Tree.{Tree, wrap, array}
use Rattle.image.specs.Schema.{Schema, slot_of}
use Rattle.sizes.specs.Elements.{Element, item}
use Rattle.sizes.specs.Sizes.{Layout, Size, largest, limit}
use Rattle.sizes.specs.Names.{content_in, content_of}
use Rattle.sizes.specs.Lengths.{Length, of_named, of_wrap, of_elements, most_elements, Counted, of_count, Several, no_element, one_element, ElementLength, of_item, of_terminal, SlotLength, AtMost, Encloses}
use Rattle.sizes.proofs.Laws.{sums_of}
use Rattle.sizes.proofs.Rules.{wrap_is, item_is, counted_is, elements_is}
use Rattle.sizes.specs.Examples.{all, a_newtype, slot}

-- a count below 128 takes 8 bits
small_count : (k : ℕ) → k < 128 → groups_of k ≡ 1
unfolding groups_of
small_count k h = groups_one 9 k h

-- ## A newtype that leads back to itself through elements

-- N = newtype Array<N>
abbrev nested : Schema
nested = all (a_newtype (wrap array (slot 0)) ∷ [])

-- it has 8, 16, 24, and so on: none in it, or one in it that is 8 shorter
pub nested_lengths : (L : Layout) (n : ℕ) → SlotLength L nested 0 (8 * suc n)
unfolding content_of content_in slot_of
nested_lengths L zero =
    let c : 8 * groups_of 0 + 0 ≡ 8 * suc zero = omega (arith, small_count 0 (omega arith)) in
    of_named (of_terminal (of_wrap (of_elements (subst (Counted L nested (item (slot 0)) most_elements) c (of_count {most = most_elements} (omega arith) no_element)))))
nested_lengths L (suc n) =
    let c : 8 * groups_of 1 + (8 * suc n + 0) ≡ 8 * suc (suc n) = omega (arith, small_count 1 (omega arith)) in
    let one : Counted L nested (item (slot 0)) most_elements (8 * groups_of 1 + (8 * suc n + 0)) = of_count {most = most_elements} {k = 1} (omega arith) (one_element (of_item (nested_lengths L n)) no_element) in
    of_named (of_terminal (of_wrap (of_elements (subst (Counted L nested (item (slot 0)) most_elements) c one))))

-- ## Elements without any length

-- then there is none, and its count takes 8 bits
pub empty_only : (L : Layout) (S : Schema) (e : Element) → ((m : ℕ) → ¬ ElementLength L S e m) → (most n : ℕ) → Counted L S e most n → n ≡ 8
empty_only L S e lacks most n (of_count {k = k} {n = m} f h) =
    let (a, b) = none_of k m h in
    let g = small_count k (omega arith) in
    omega arith
  where
    none_of : (k m : ℕ) → Several L S e k m → (k ≡ 0) × (m ≡ 0)
    none_of k m no_element = (refl, refl)
    none_of k m (one_element h hs) = absurd (lacks _ h)

-- ## An array has no largest within the limit

-- where an element has a length above 0, no size whose largest is within the limit encloses an array's lengths
pub array_past : (L : Layout) (S : Schema) (t : Tree) (s : Size) (n : ℕ) → Length L S t (suc n) → Encloses (Length L S (wrap array t)) s →
    (h : ℕ) → largest s ≡ some h → limit < h
array_past L S t s n l e h q =
    let many : Length L S (wrap array t) (8 * groups_of (2 ^ 63) + suc n * 2 ^ 63) =
    (wrap_is L S array t _).0 ((elements_is L S t _).0 ((counted_is L S (item t) most_elements _).0 (record {
      count = 2 ^ 63;
      few = omega arith;
      bits = suc n * 2 ^ 63;
      elements = sums_of (ElementLength L S (item t)) (suc n) ((item_is L S t (suc n)).0 l) (2 ^ 63);
      whole = refl;
    }))) in
    let within : 8 * groups_of (2 ^ 63) + suc n * 2 ^ 63 ≤ h = subst (AtMost _) q (e.within _ many).not_above in
    omega arith
