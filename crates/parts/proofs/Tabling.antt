-- The tables of a run of slots, one slot after another. Assumes nothing.
use Prim.Native.Nat.{ℕ, zero, suc, ◌+◌, ◌<◌, ◌≤◌}
use mathlib.Core.Path.{◌≡◌, refl, sym, ap, ap₂, subst, ◌∙◌}
use mathlib.Core.List.{List, [], ◌∷◌, ◌++◌, append_assoc}
use mathlib.Core.Logic.{by_cases}
use mathlib.Core.Bool.{Bool, true, false}
use native.Mathlib.Omega.{arith}
use native.Mathlib.Numerals.{add-one}
use native.Mathlib.Decide.{ℕ_discrete}
use borrow.Author.Tests.{lt-ltb}
use lib.Dec.{ltb}
use lib.ListN.{length, get_or, set, take, replicate, length-set, length-append, length-replicate}
use lib.Seq.{sets, length-sets, length-take-le, take-suc, take_all, take-append-le, get_or-append_seam, get_or-set_same, get_or-set_other}
use Rattle.table.proofs.Fitting.{sets_append}
use Rattle.slot.specs.Slot.{Slot, empty}
use Rattle.image.specs.Schema.{slot_of}
use Rattle.image.specs.declared.Frame.{Frame}
use Rattle.reader.specs.Reading.{schema_of}
use Rattle.parts.specs.Names.{all_of, slot_names, is_message}
use Rattle.parts.specs.Lists.{Filled, filled, push, push_all, ListsSlot, Listable, Tabled}
use Rattle.parts.proofs.Bytes.{names_fit}

pushed : (l p : List ℕ) (u : ℕ) → u + length l ≤ length p → push_all l (filled p u) ≡ filled (sets p u l) (u + length l)
unfolding push_all push
pushed [] p u h = let z : u + 0 ≡ u = omega arith in rw z
pushed (x ∷ l) p u h =
    let z : u + suc (length l) ≡ suc u + length l = omega arith in
    let y : ltb u (length p) ≡ true = lt-ltb u (length p) (omega arith) in
    rw (y, add-one, z) (pushed l (set p u x) (suc u) (rw (length-set p u x) (omega arith)))

zeros : {A : Type 0} (n i : ℕ) (d : A) → get_or (replicate n d) i d ≡ d
zeros zero i d = refl
zeros (suc n) zero d = refl
zeros (suc n) (suc i) d = zeros n i d

-- ## One thing more

module _ {A : Type 0} (f : A → List ℕ) where
  all_snoc : (xs : List A) (x : A) → all_of f (xs ++ (x ∷ [])) ≡ all_of f xs ++ f x
  unfolding all_of
  all_snoc [] x = none (f x)
    where
      none : (l : List ℕ) → l ++ [] ≡ l
      none [] = refl
      none (y ∷ l) = ap (λ (k : List ℕ). y ∷ k) (none l)
  all_snoc (y ∷ xs) x = ap (λ (l : List ℕ). f y ++ l) (all_snoc xs x) ∙ sym (append_assoc (f y) (all_of f xs) (f x))

  pub all_front : (i : ℕ) (xs : List A) → length (all_of f (take i xs)) ≤ length (all_of f xs)
  unfolding all_of
  all_front zero xs = omega arith
  all_front (suc i) [] = omega arith
  all_front (suc i) (x ∷ xs) = simp length-append (omega (arith, all_front i xs))

  -- one more of a run
  pub all_next : (xs : List A) (i : ℕ) (d : A) → i < length xs → length (all_of f (take (suc i) xs)) ≡ length (all_of f (take i xs)) + length (f (get_or xs i d))
  all_next xs i d h = ap (λ (l : List A). length (all_of f l)) (take-suc xs i d h) ∙ ap length (all_snoc (take i xs) (get_or xs i d)) ∙ length-append (all_of f (take i xs)) (f (get_or xs i d))

snoc_other : {A : Type 0} (xs : List A) (x d : A) (i : ℕ) → (i ≡ length xs → ⊥) → get_or (xs ++ (x ∷ [])) i d ≡ get_or xs i d
snoc_other [] x d zero h = absurd (h refl)
snoc_other [] x d (suc i) h = refl
snoc_other (y ∷ xs) x d zero h = refl
snoc_other (y ∷ xs) x d (suc i) h = snoc_other xs x d i (λ e. h (ap suc e))

pub tabled_none : (messages : List Bool) (first parts : List ℕ) → messages ≡ replicate 512 false → first ≡ replicate 513 0 → Tabled [] messages first parts parts
unfolding all_of
tabled_none messages first parts m f =
    record {
      marks = ap length m ∙ length-replicate 512 false;
      places = ap length f ∙ length-replicate {A = ℕ} 513 0;
      message = λ i. ap (λ (l : List Bool). get_or l i false) m ∙ zeros 512 i false;
      ends = λ i h. ap (λ (l : List ℕ). get_or l i 0) f ∙ zeros 513 i 0 ∙ none i;
      past = λ i h. ap (λ (l : List ℕ). get_or l i 0) f ∙ zeros 513 i 0;
      content = refl;
    }
  where
    none : (i : ℕ) → 0 ≡ length (all_of slot_names (take i []))
    none zero = refl
    none (suc i) = refl

module _ (xs : List Slot) (x : Slot) (messages : List Bool) (first before parts : List ℕ) (t : Tabled xs messages first before parts)
    (used : ℕ) (u : used ≡ length (all_of slot_names xs)) (m : Bool) (used' : ℕ) (parts' : List ℕ) (l : ListsSlot x (filled parts used) (filled parts' used') m)
    (room : length (all_of slot_names (xs ++ (x ∷ []))) ≤ length before) where
  grown : length (all_of slot_names (xs ++ (x ∷ []))) ≡ used + length (slot_names x)
  grown = ap length (all_snoc slot_names xs x) ∙ length-append (all_of slot_names xs) (slot_names x) ∙ ap (λ (n : ℕ). n + length (slot_names x)) (sym u)

  written : filled parts' used' ≡ filled (sets parts used (slot_names x)) (used + length (slot_names x))
  written = l.listed ∙ pushed (slot_names x) parts used (omega (arith, grown, ap length t.content ∙ length-sets before 0 (all_of slot_names xs)))

  pub used_next : used' ≡ length (all_of slot_names (xs ++ (x ∷ [])))
  used_next = ap (λ (y : Filled). y.used) written ∙ sym grown

  pub tabled_on : length xs < 512 → Tabled (xs ++ (x ∷ [])) (set messages (length xs) m) (set first (length xs + 1) used') before parts'
  tabled_on few =
      record {
        marks = length-set messages (length xs) m ∙ t.marks;
        places = length-set first (length xs + 1) used' ∙ t.places;
        message = λ i. by_cases (ℕ_discrete i (length xs)) (λ e. is_here i e) (λ e. is_other i e);
        ends = λ i h. by_cases (ℕ_discrete i (length xs + 1)) (λ e. ends_here i e) (λ e. ends_other i e h);
        past = λ i h. let n = longer in get_or-set_other first (length xs + 1) i used' 0 (λ e. absurd (omega arith)) ∙ t.past i (omega arith);
        content =
            ap (λ (y : Filled). y.places) written
            ∙ ap₂ (λ (p : List ℕ) (n : ℕ). sets p n (slot_names x)) t.content (omega arith)
            ∙ sym (sets_append (all_of slot_names xs) (slot_names x) before 0)
            ∙ ap (sets before 0) (sym (all_snoc slot_names xs x));
      }
    where
      longer : length (xs ++ (x ∷ [])) ≡ length xs + 1
      longer = length-append xs (x ∷ [])

      is_here : (i : ℕ) → i ≡ length xs → get_or (set messages (length xs) m) i false ≡ is_message (get_or (xs ++ (x ∷ [])) i empty)
      is_here i e =
          rw e
          (get_or-set_same messages (length xs) m false (omega (arith, t.marks)) ∙ l.marked ∙ ap is_message (sym (get_or-append_seam xs x [] empty)))

      is_other : (i : ℕ) → (i ≡ length xs → ⊥) → get_or (set messages (length xs) m) i false ≡ is_message (get_or (xs ++ (x ∷ [])) i empty)
      is_other i e = get_or-set_other messages (length xs) i m false e ∙ t.message i ∙ ap is_message (sym (snoc_other xs x empty i e))

      ends_here : (i : ℕ) → i ≡ length xs + 1 → get_or (set first (length xs + 1) used') i 0 ≡ length (all_of slot_names (take i (xs ++ (x ∷ []))))
      ends_here i e =
          let n = longer in
          rw e
          (get_or-set_same first (length xs + 1) used' 0 (omega (arith, t.places)) ∙ used_next
          ∙ ap (λ (k : List Slot). length (all_of slot_names k)) (sym (take_all (length xs + 1) (xs ++ (x ∷ [])) (omega arith))))

      ends_other : (i : ℕ) → (i ≡ length xs + 1 → ⊥) → i ≤ length (xs ++ (x ∷ [])) → get_or (set first (length xs + 1) used') i 0 ≡ length (all_of slot_names (take i (xs ++ (x ∷ []))))
      ends_other i e h =
          let n = longer in
          let k : i ≤ length xs = omega arith in
          get_or-set_other first (length xs + 1) i used' 0 e ∙ t.ends i k ∙ ap (λ (y : List Slot). length (all_of slot_names y)) (sym (take-append-le i xs (x ∷ []) k))

-- ## The loop over the slots of an image

-- the slots before i are listed
pub record Sofar (s : List ℕ) (f : Frame) (messages : List Bool) (first before parts : List ℕ) (used i : ℕ) : Type 0 where
  pub few : i ≤ f.slots
  pub fill : used ≡ length (all_of slot_names (take i (schema_of f.edition s).slots))
  pub tabled : Tabled (take i (schema_of f.edition s).slots) messages first before parts

module _ (s starts : List ℕ) (f : Frame) (messages₀ : List Bool) (first₀ before : List ℕ) (p : Listable s starts f messages₀ first₀ before) where
  pub all_fit : length (all_of slot_names (schema_of f.edition s).slots) ≤ length before
  all_fit =
      let r = p.promise.run in
      omega (arith, names_fit s f.edition f.names f.slots r.0 (schema_of f.edition s).slots r.1 r.2, p.room)

  pub sofar_start : Sofar s f messages₀ first₀ before before 0 0
  unfolding all_of
  sofar_start = record { few = omega arith; fill = refl; tabled = tabled_none messages₀ first₀ before p.marks p.places }

  module _ (messages : List Bool) (first parts : List ℕ) (used i : ℕ) (h : i < f.slots) (t : Sofar s f messages first before parts used i)
      (m : Bool) (used' : ℕ) (parts' : List ℕ) (l : ListsSlot (slot_of (schema_of f.edition s) i) (filled parts used) (filled parts' used') m) where
    next_slot : take (i + 1) (schema_of f.edition s).slots ≡ take i (schema_of f.edition s).slots ++ (slot_of (schema_of f.edition s) i ∷ [])
    unfolding slot_of
    next_slot = ap (λ (n : ℕ). take n (schema_of f.edition s).slots) (add-one i) ∙ take-suc (schema_of f.edition s).slots i empty (omega (arith, p.promise.count))

    so_long : length (take i (schema_of f.edition s).slots) ≡ i
    so_long = length-take-le i (schema_of f.edition s).slots (omega (arith, p.promise.count))

    with_room : length (all_of slot_names (take i (schema_of f.edition s).slots ++ (slot_of (schema_of f.edition s) i ∷ []))) ≤ length before
    with_room =
        let q = ap (λ (y : List Slot). length (all_of slot_names y)) next_slot in
        omega (arith, all_fit, all_front slot_names (i + 1) (schema_of f.edition s).slots)

    now_used : used' ≡ length (all_of slot_names (take i (schema_of f.edition s).slots ++ (slot_of (schema_of f.edition s) i ∷ [])))
    now_used = used_next (take i (schema_of f.edition s).slots) (slot_of (schema_of f.edition s) i) messages first before parts t.tabled used t.fill m used' parts' l with_room

    pub small_used : used' ≤ 32768
    small_used = omega (arith, now_used, with_room, p.few)

    pub sofar_on : Sofar s f (set messages i m) (set first (i + 1) used') before parts' used' (i + 1)
    sofar_on =
        let w = tabled_on (take i (schema_of f.edition s).slots) (slot_of (schema_of f.edition s) i) messages first before parts t.tabled used t.fill m used' parts' l with_room (omega (arith, so_long, p.promise.few)) in
        record {
          few = omega arith;
          fill = now_used ∙ ap (λ (y : List Slot). length (all_of slot_names y)) (sym next_slot);
          tabled = subst (λ (y : List Slot). Tabled y (set messages i m) (set first (i + 1) used') before parts') (sym next_slot)
              (subst (λ (n : ℕ). Tabled (take i (schema_of f.edition s).slots ++ (slot_of (schema_of f.edition s) i ∷ [])) (set messages n m) (set first (n + 1) used') before parts') so_long w);
        }
