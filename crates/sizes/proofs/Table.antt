-- The size table holds what is stored.
use Rattle.std.specs.Prelude.{◌≡◌, length}
use Rattle.std.proofs.Math.Path.{refl, ap}
use Rattle.std.proofs.Common.{sym, ◌∙◌, add-zero}
use Prim.Native.Nat.{ℕ, zero, suc, ◌+◌, ◌*◌, ◌<◌}
use native.Mathlib.Omega.{arith}
use Rattle.std.proofs.Math.Nat.{zero-add}
use mathlib.Core.List.{List, [], ◌∷◌, ◌++◌}
use Rattle.std.proofs.Math.Option.{Option, none, some}
use Rattle.std.proofs.Math.ListN.{get_or}
use Rattle.slot.specs.Slot.{Slot, empty, message, enum, flags, union, newtype, config, alias, trait, impl}
use Rattle.image.specs.Schema.{Schema, slot_of}
use Rattle.sizes.specs.Sizes.{Size, Fixed, Bounded, Open}
use Rattle.sizes.specs.Names.{State}
use Rattle.sizes.specs.Check.{row, size_row, slot_row, rows_from, table_of, row_size, size_at}
use Rattle.sizes.specs.Demand.{Sizable, is_message, is_union}

-- a row of three numbers
pub record Row (l : List ℕ) : Type 0 where
  pub kind : ℕ
  pub a : ℕ
  pub b : ℕ
  pub is : l ≡ row kind a b

size_row_lem : (o : Option Size) → Row (size_row o)
size_row_lem none = record { kind = 0; a = 0; b = 0; is = refl }
size_row_lem (some (Fixed b)) = record { kind = 1; a = b; b = b; is = refl }
size_row_lem (some (Bounded l h)) = record { kind = 2; a = l; b = h; is = refl }
size_row_lem (some (Open l)) = record { kind = 3; a = l; b = 0; is = refl }

module _ (S : Schema) (st : State) where
  blank : Row (row 0 0 0)
  blank = record { kind = 0; a = 0; b = 0; is = refl }

  pub slot_row_lem : (i : ℕ) (x : Slot) → Row (slot_row S st i x)
  unfolding slot_row
  slot_row_lem i empty = blank
  slot_row_lem i (message m) = size_row_lem (st i)
  slot_row_lem i (enum e) = record { kind = 4; a = _; b = 0; is = refl }
  slot_row_lem i (flags f) = record { kind = 5; a = _; b = 0; is = refl }
  slot_row_lem i (union u) = size_row_lem (st i)
  slot_row_lem i (newtype n) = blank
  slot_row_lem i config = blank
  slot_row_lem i (alias a) = blank
  slot_row_lem i (trait t) = blank
  slot_row_lem i (impl m) = blank

  -- place d of slot i's row
  rows_place : (xs : List Slot) (rest : List ℕ) (k i d : ℕ) → i < length xs → d < 3 →
      get_or (rows_from S st k xs ++ rest) (3 * i + d) 0 ≡ get_or (slot_row S st (k + i) (get_or xs i empty)) d 0
  unfolding rows_from
  rows_place [] rest k i d h l = absurd (omega arith)
  rows_place (x ∷ xs) rest k zero d h l =
      first (slot_row_lem k x) d l ∙ ap (λ (n : ℕ). get_or (slot_row S st n x) d 0) (sym (add-zero k))
    where
      first : Row (slot_row S st k x) → (d : ℕ) → d < 3 →
          get_or ((slot_row S st k x ++ rows_from S st (suc k) xs) ++ rest) (3 * 0 + d) 0 ≡ get_or (slot_row S st k x) d 0
      first r zero l = rw r.is
      first r (suc zero) l = rw r.is
      first r (suc (suc zero)) l = rw r.is
      first r (suc (suc (suc d))) l = absurd (omega arith)
  rows_place (x ∷ xs) rest k (suc i) d h l =
      later (slot_row_lem k x)
      ∙ rows_place xs rest (suc k) i d (omega arith) l
      ∙ ap (λ (n : ℕ). get_or (slot_row S st n (get_or xs i empty)) d 0) (omega arith)
    where
      later : Row (slot_row S st k x) →
          get_or ((slot_row S st k x ++ rows_from S st (suc k) xs) ++ rest) (3 * suc i + d) 0
          ≡ get_or (rows_from S st (suc k) xs ++ rest) (3 * i + d) 0
      later r = let e : 3 * suc i + d ≡ suc (suc (suc (3 * i + d))) = omega arith in rw (r.is, e)

  pub table_place : (rest : List ℕ) (i d : ℕ) → i < length S.slots → d < 3 →
      get_or (table_of S st ++ rest) (3 * i + d) 0 ≡ get_or (slot_row S st i (slot_of S i)) d 0
  unfolding table_of slot_of
  table_place rest i d h l = rows_place S.slots rest 0 i d h l ∙ rw zero-add

  row_says : (o : Option Size) → row_size (get_or (size_row o) 0 0) (get_or (size_row o) 1 0) (get_or (size_row o) 2 0) ≡ o
  row_says none = refl
  row_says (some (Fixed b)) = refl
  row_says (some (Bounded l h)) = refl
  row_says (some (Open l)) = refl

  pub sizable_row : (i : ℕ) {x : Slot} → Sizable x → slot_row S st i x ≡ size_row (st i)
  unfolding slot_row
  sizable_row i is_message = refl
  sizable_row i is_union = refl

  sizable_there : (xs : List Slot) (i : ℕ) → Sizable (get_or xs i empty) → i < length xs
  sizable_there [] i z = absurd (elim z [ ])
  sizable_there (x ∷ xs) zero z = omega arith
  sizable_there (x ∷ xs) (suc i) z = omega (arith, sizable_there xs i z)

  -- the entry of a message or union is its stored size
  pub table_entry : (rest : List ℕ) (i : ℕ) → Sizable (slot_of S i) → size_at (table_of S st ++ rest) i ≡ st i
  unfolding size_at slot_of
  table_entry rest i z =
      let h = sizable_there S.slots i z in
      let place : (d n : ℕ) → 3 * i + d ≡ n → d < 3 → get_or (table_of S st ++ rest) n 0 ≡ get_or (size_row (st i)) d 0
      = λ d n e l. rw (← e) (table_place rest i d h l ∙ ap (λ (x : List ℕ). get_or x d 0) (sizable_row i z)) in
      let p₀ = place 0 (3 * i) (omega arith) (omega arith) in
      let p₁ = place 1 (3 * i + 1) refl (omega arith) in
      let p₂ = place 2 (3 * i + 2) refl (omega arith) in
      rw (p₀, p₁, p₂) (row_says (st i))
