-- Whether there is an impl, and that none gives no finding. Assumes nothing.
use Prim.Native.Nat.{ℕ, suc, ◌<◌}
use mathlib.Core.Path.{◌≡◌, refl, ap₂, ◌∙◌}
use mathlib.Core.List.{List, [], ◌∷◌, ◌++◌}
use mathlib.Core.Bool.{Bool, true, false, cond, ◌||◌}
use native.Mathlib.Omega.{arith}
use Rattle.std.proofs.Common.{zero-add}
use lib.Dec.{eqb}
use lib.ListN.{length, get_or}
use borrow.Author.Tests.{eqb-false}
use Rattle.std.specs.Bool.{MatchBool}
use Rattle.std.specs.List.{HoldsAt, AllWithin, range_with_len}
use Rattle.std.proofs.lemmas.List.FromFn.{length-range_with_len, get_or-range_with_len}
use Rattle.std.proofs.lemmas.List.Recursion.{or_is}
use Rattle.slot.specs.Slot.{Slot, empty, slot_kind}
use Rattle.image.specs.Schema.{Schema, slot_of}
use Rattle.findings.specs.Conformance.{conformance_of, has_impl}
use Rattle.conformance.proofs.Targets.{no_impl}

pub none_lacking : (S : Schema) (i : ℕ) (xs : List Slot) → has_impl xs ≡ false → conformance_of S i xs ≡ []
unfolding has_impl conformance_of
none_lacking S i [] h = refl
none_lacking S i (x ∷ xs) h = go (eqb (slot_kind x) 9) refl h (none_lacking S (suc i) xs)
  where
    go : (b : Bool) → eqb (slot_kind x) 9 ≡ b → cond b true (has_impl xs) ≡ false → (has_impl xs ≡ false → conformance_of S (suc i) xs ≡ []) → conformance_of S i (x ∷ xs) ≡ []
    go true e h rest = cc
    go false e h rest = ap₂ ◌++◌ (no_impl S i x (eqb-false (slot_kind x) 9 e)) (rest h)

-- whether the slot of a number below n holds an impl
abbrev pub IsImpl : Schema → (n : ℕ) → Bool → (i : ℕ) → Type 0
IsImpl S n b i = i < n → eqb (slot_kind (slot_of S i)) 9 ≡ b

-- what `any` answers over the numbers of the slots
abbrev pub AnyImpl : Schema → (n : ℕ) → Bool → Type 0
AnyImpl S n r =
    let ks : List ℕ = range_with_len 0 n in
    MatchBool r ((k : ℕ) × (k < length ks) × HoldsAt (IsImpl S n true) ks k) (AllWithin (IsImpl S n false) ks 0 (length ks))

pub has_from_any : (S : Schema) (n : ℕ) → n ≡ length S.slots → (r : Bool) → AnyImpl S n r → r ≡ has_impl S.slots
unfolding has_impl slot_of
has_from_any S n e r h = or_is has_impl (λ x. eqb (slot_kind x) 9) refl step S.slots empty r (yes r h) (no r h)
  where
    step : (x : Slot) (xs : List Slot) → has_impl (x ∷ xs) ≡ (eqb (slot_kind x) 9 || has_impl xs)
    step x xs = elim (eqb (slot_kind x) 9) as (λ b. cond b true (has_impl xs) ≡ (b || has_impl xs)) [ true ↦ refl | false ↦ refl ]

    at : (i : ℕ) → i < n → get_or (range_with_len 0 n) i 0 ≡ i
    at i l = get_or-range_with_len 0 n i 0 l ∙ zero-add i

    yes : (r : Bool) → AnyImpl S n r → r ≡ true → (i : ℕ) × (i < length S.slots) × (eqb (slot_kind (get_or S.slots i empty)) 9 ≡ true)
    yes true h z = let l : h.0 < n = omega (arith, length-range_with_len 0 n) in (h.0, omega arith, rw (at h.0 l) at (h.2 0) l)
    yes false h z = absurd (cc)

    no : (r : Bool) → AnyImpl S n r → r ≡ false → (i : ℕ) → i < length S.slots → eqb (slot_kind (get_or S.slots i empty)) 9 ≡ false
    no true h z i k = absurd (cc)
    no false h z i k =
        let l : i < n = omega arith in
        rw (at i l) at (h i 0 (omega arith) (omega (arith, length-range_with_len 0 n))) l
