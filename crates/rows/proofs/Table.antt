-- The size table as it is written into a lent one: its rows, a row that is stored anew, and the rows one after another.
-- Assumes nothing.
use Prim.Native.Nat.{ℕ, zero, suc, ◌+◌, ◌*◌, ◌≤◌, ◌<◌}
use mathlib.Core.Path.{◌≡◌, refl, sym, ap, ap₂, subst, ◌∙◌}
use mathlib.Core.List.{List, [], ◌∷◌, ◌++◌, append_assoc}
use mathlib.Core.Option.{some}
use native.Mathlib.Omega.{arith}
use native.Mathlib.Numerals.{add-one}
use native.Mathlib.Nat.{zero-add}
use lib.ListN.{length, get_or, set, drop, length-append, drop_of_length-le}
use lib.Seq.{sets, sets-eq, length-sets, drop-cons}
use Rattle.table.proofs.Fitting.{sets_append}
use Rattle.slot.specs.Slot.{Slot, empty, message, enum, flags, union, newtype, config, alias, trait, impl}
use Rattle.image.specs.Schema.{Schema, slot_of}
use Rattle.sizes.specs.declared.Size.{Size}
use Rattle.sizes.specs.Names.{State}
use Rattle.sizes.specs.Check.{store, row, size_row, slot_row, rows_from, table_of, size_at}
use Rattle.sizes.specs.Demand.{Sizable}
use Rattle.sizes.proofs.Turns.{store_same, store_other}
use Rattle.sizes.proofs.Table.{Row, slot_row_lem, sizable_row, table_place, table_entry}

-- ## Runs of stores

-- past the first element
sets_later : (x : ℕ) (vs l : List ℕ) (i : ℕ) → sets (x ∷ l) (suc i) vs ≡ x ∷ sets l i vs
sets_later x [] l i = refl
sets_later x (v ∷ vs) l i = sets_later x vs (set l i v) (suc i)

-- three stores, as the code counts their places
pub three : (l : List ℕ) (p a b c : ℕ) → set (set (set l p a) (p + 1) b) (p + 2) c ≡ sets l p (row a b c)
three l p a b c = let e : p + 1 ≡ suc p = omega arith in let f : p + 2 ≡ suc (suc p) = omega arith in rw (e, f)

in_front : (a b v : List ℕ) → Row a → Row v → sets (a ++ b) 0 v ≡ v ++ b
in_front a b v r q = rw (r.is, q.is)

behind : (a b v : List ℕ) (i : ℕ) → Row a → sets (a ++ b) (3 * suc i) v ≡ a ++ sets b (3 * i) v
behind a b v i r = let e : 3 * suc i ≡ suc (suc (suc (3 * i))) = omega arith in rw (r.is, e) (simp sets_later)

-- ## The rows of a written table

-- the three numbers of a slot
abbrev pub row_at : (table : List ℕ) → (slot : ℕ) → List ℕ
row_at t i = row (get_or t (3 * i) 0) (get_or t (3 * i + 1) 0) (get_or t (3 * i + 2) 0)

module _ (S : Schema) (st : State) where
  row_length : (i : ℕ) (x : Slot) → length (slot_row S st i x) ≡ 3
  row_length i x = ap length (slot_row_lem S st i x).is

  rows_length : (k : ℕ) (xs : List Slot) → length (rows_from S st k xs) ≡ 3 * length xs
  unfolding rows_from
  rows_length k [] = refl
  rows_length k (x ∷ xs) = length-append (slot_row S st k x) (rows_from S st (suc k) xs) ∙ omega (arith, row_length k x, rows_length (suc k) xs)

  pub table_length : length (table_of S st) ≡ 3 * length S.slots
  unfolding table_of
  table_length = rows_length 0 S.slots

  module _ (l : List ℕ) (room : 3 * length S.slots ≤ length l) where
    -- the table, and then what stood after it
    pub written : sets l 0 (table_of S st) ≡ table_of S st ++ drop (0 + length (table_of S st)) l
    written = sets-eq (table_of S st) l 0 (omega (arith, table_length))

    pub place_is : (i d : ℕ) → i < length S.slots → d < 3 → get_or (sets l 0 (table_of S st)) (3 * i + d) 0 ≡ get_or (slot_row S st i (slot_of S i)) d 0
    place_is i d h k = ap (λ (t : List ℕ). get_or t (3 * i + d) 0) written ∙ table_place S st (drop (0 + length (table_of S st)) l) i d h k

    -- the three numbers of a slot are its row
    pub row_is : (i : ℕ) → i < length S.slots → row_at (sets l 0 (table_of S st)) i ≡ slot_row S st i (slot_of S i)
    row_is i h =
        let a = place 0 (3 * i) (omega arith) (omega arith) in
        let b = place 1 (3 * i + 1) refl (omega arith) in
        let d = place 2 (3 * i + 2) refl (omega arith) in
        rw (a, b, d) (rw (slot_row_lem S st i (slot_of S i)).is)
      where
        place : (d n : ℕ) → 3 * i + d ≡ n → d < 3 → get_or (sets l 0 (table_of S st)) n 0 ≡ get_or (slot_row S st i (slot_of S i)) d 0
        place d n e k = rw (← e) (place_is i d h k)

    -- the size of a message or union is what is stored
    pub size_is : (i : ℕ) → Sizable (slot_of S i) → size_at (sets l 0 (table_of S st)) i ≡ st i
    size_is i z = ap (λ (t : List ℕ). size_at t i) written ∙ table_entry S st (drop (0 + length (table_of S st)) l) i z

-- ## A size that is stored

module _ (S : Schema) where
  -- a row depends on the slot's own stored size alone
  row_same : (st st' : State) (i : ℕ) → st i ≡ st' i → (x : Slot) → slot_row S st i x ≡ slot_row S st' i x
  unfolding slot_row
  row_same st st' i e empty = refl
  row_same st st' i e (message m) = ap size_row e
  row_same st st' i e (enum x) = refl
  row_same st st' i e (flags x) = refl
  row_same st st' i e (union u) = ap size_row e
  row_same st st' i e (newtype n) = refl
  row_same st st' i e config = refl
  row_same st st' i e (alias a) = refl
  row_same st st' i e (trait t) = refl
  row_same st st' i e (impl m) = refl

  rows_same : (st st' : State) (xs : List Slot) (k : ℕ) → ((j : ℕ) → k ≤ j → st j ≡ st' j) → rows_from S st k xs ≡ rows_from S st' k xs
  unfolding rows_from
  rows_same st st' [] k h = refl
  rows_same st st' (x ∷ xs) k h = ap₂ (λ (a b : List ℕ). a ++ b) (row_same st st' k (h k (omega arith)) x) (rows_same st st' xs (suc k) (λ j l. h j (omega arith)))

  module _ (st : State) (s : Size) where
    -- the slots from number k on, of which the one at i is stored
    rows_stored : (xs : List Slot) (rest : List ℕ) (k i : ℕ) → Sizable (get_or xs i empty)
        → sets (rows_from S st k xs ++ rest) (3 * i) (size_row (some s)) ≡ rows_from S (store (k + i) s st) k xs ++ rest
    unfolding rows_from
    rows_stored [] rest k i z = absurd (elim z [ ])
    rows_stored (x ∷ xs) rest k zero z =
        let at_own : store (k + 0) s st k ≡ some s = let e : k + 0 ≡ k = omega arith in rw e (store_same k s st) in
        let anew : slot_row S (store (k + 0) s st) k x ≡ size_row (some s) = sizable_row S (store (k + 0) s st) k z ∙ ap size_row at_own in
        ap (λ (l : List ℕ). sets l 0 (size_row (some s))) (append_assoc (slot_row S st k x) (rows_from S st (suc k) xs) rest)
        ∙ in_front _ _ _ (slot_row_lem S st k x) (subst Row anew (slot_row_lem S (store (k + 0) s st) k x))
        ∙ ap₂ (λ (a b : List ℕ). a ++ (b ++ rest)) (sym anew) (rows_same st _ xs (suc k) (λ j h. sym (store_other (k + 0) s st j (λ e. omega arith))))
        ∙ sym (append_assoc (slot_row S (store (k + 0) s st) k x) _ rest)
    rows_stored (x ∷ xs) rest k (suc i) z =
        ap (λ (l : List ℕ). sets l (3 * suc i) (size_row (some s))) (append_assoc (slot_row S st k x) (rows_from S st (suc k) xs) rest)
        ∙ behind (slot_row S st k x) (rows_from S st (suc k) xs ++ rest) (size_row (some s)) i (slot_row_lem S st k x)
        ∙ ap₂ (λ (a b : List ℕ). a ++ b)
        (row_same st (store (k + suc i) s st) k (sym (store_other (k + suc i) s st k (λ e. omega arith))) x)
        (rows_stored xs rest (suc k) i z ∙ ap (λ (n : ℕ). rows_from S (store n s st) (suc k) xs ++ rest) (omega arith))
        ∙ sym (append_assoc (slot_row S (store (k + suc i) s st) k x) _ rest)

    -- the row of a message or union, written anew, makes the table of what is stored then
    pub stored : (l : List ℕ) → 3 * length S.slots ≤ length l → (i : ℕ) → Sizable (slot_of S i)
        → sets (sets l 0 (table_of S st)) (3 * i) (size_row (some s)) ≡ sets l 0 (table_of S (store i s st))
    unfolding table_of slot_of
    stored l room i z =
        ap (λ (t : List ℕ). sets t (3 * i) (size_row (some s))) (written S st l room)
        ∙ rows_stored S.slots (drop (0 + length (table_of S st)) l) 0 i z
        ∙ ap₂ (λ (n m : ℕ). table_of S (store n s st) ++ drop (0 + m) l) (zero-add i) (table_length S st ∙ sym (table_length S (store i s st)))
        ∙ sym (written S (store i s st) l room)

-- ## Row after row

-- the rows of the slots before i are written
pub record Rowed (S : Schema) (st : State) (l₀ : List ℕ) (i : ℕ) (l : List ℕ) : Type 0 where
  pub few : i ≤ length S.slots
  pub long : length l ≡ length l₀
  pub rest : sets l₀ 0 (table_of S st) ≡ sets l (3 * i) (rows_from S st i (drop i S.slots))

module _ (S : Schema) (st : State) (l₀ : List ℕ) where
  pub no_row : Rowed S st l₀ 0 l₀
  unfolding table_of
  no_row = record { few = omega arith; long = refl; rest = refl }

  module _ (i : ℕ) (l : List ℕ) (t : Rowed S st l₀ i l) where
    pub next_row : (l' : List ℕ) → i < length S.slots → l' ≡ sets l (3 * i) (slot_row S st i (slot_of S i)) → Rowed S st l₀ (i + 1) l'
    unfolding rows_from slot_of
    next_row l' h e =
        rw (e, add-one i)
        record {
          few = omega arith;
          long = length-sets l (3 * i) (slot_row S st i (slot_of S i)) ∙ t.long;
          rest =
              t.rest
              ∙ ap (λ (xs : List Slot). sets l (3 * i) (rows_from S st i xs)) (drop-cons S.slots i empty h)
              ∙ sets_append (slot_row S st i (slot_of S i)) (rows_from S st (suc i) (drop (suc i) S.slots)) l (3 * i)
              ∙ ap (λ (k : ℕ). sets (sets l (3 * i) (slot_row S st i (slot_of S i))) k (rows_from S st (suc i) (drop (suc i) S.slots))) (omega (arith, row_length S st i (slot_of S i)));
        }

    pub all_rows : length S.slots ≤ i → l ≡ sets l₀ 0 (table_of S st)
    unfolding rows_from
    all_rows h = sym (t.rest ∙ ap (λ (xs : List Slot). sets l (3 * i) (rows_from S st i xs)) (drop_of_length-le S.slots {i = i} h))
