-- What is found in a schema is what a reader thinks of, and the answer is told by it. Assumes nothing.
use Prim.Native.Nat.{ℕ, zero, suc, ◌≤◌, ◌<◌}
use mathlib.Core.Path.{◌≡◌, refl, sym, ap, subst, ◌∙◌}
use mathlib.Core.List.{List}
use mathlib.Core.Bool.{true, false≢true}
use mathlib.Core.Logic.{◌↔◌, by_cases}
use native.Mathlib.Omega.{arith}
use native.Mathlib.Decide.{dec_lt}
use lib.ListN.{length, get_or, get_or-eq_default}
use Rattle.number.specs.Grammar.{Outcome, done, refused}
use Rattle.tree.specs.declared.Sort.{Sort}
use Rattle.tree.specs.declared.Sort.TheVariants.{Resolved, Expression}
use Rattle.slot.specs.Slot.{Slot, empty, message, enum, flags, union, newtype, config, alias, trait, impl}
use Rattle.slot.specs.declared.Edition.{Edition}
use Rattle.graph.specs.declared.Lowest.{Lowest}
use Rattle.graph.specs.Loops.{lowest_has, none_has, has_lowest, has_none}
use Rattle.image.specs.Schema.{Schema, slot_of}
use Rattle.image.specs.Image.{Image, image_of, frame_in}
use Rattle.image.specs.declared.Frame.{Frame}
use Rattle.loops.specs.Leads.{loop_of}
use Rattle.loops.specs.Refusals.{looped, not_looped, is_looped, is_not_looped}
use Rattle.reader.specs.Reading.{is_empty, lost, lost_name, or_refuse, judged, answered, reading_of, schema_or, schema_of}
use Rattle.reader.specs.Refusals.{LowestWith, Lost, Looped, LowestOnLoop, Passes6, Passes7, Passes8, Passes9, Judged}
use Rattle.reader.specs.declared.Reading.{Reading}
use Rattle.reader.proofs.Numbers.{Low, image_low}

pub is_empty_lem : (x : Slot) → is_empty x ≡ true → x ≡ empty
is_empty_lem empty e = refl
is_empty_lem (message m) e = absurd (false≢true e)
is_empty_lem (enum m) e = absurd (false≢true e)
is_empty_lem (flags m) e = absurd (false≢true e)
is_empty_lem (union m) e = absurd (false≢true e)
is_empty_lem (newtype m) e = absurd (false≢true e)
is_empty_lem config e = absurd (false≢true e)
is_empty_lem (alias m) e = absurd (false≢true e)
is_empty_lem (trait m) e = absurd (false≢true e)
is_empty_lem (impl m) e = absurd (false≢true e)

-- names that are lost, and slots on loops
module _ (S : Schema) where
  lost_told : (n : ℕ) → Lost S n → (lost (slot_of S) (get_or S.finds n 0) ≡ true) × (n < length S.finds)
  unfolding lost
  lost_told n l = (
    ap (lost (slot_of S)) l.1 ∙ ap is_empty l.2,
    by_cases (dec_lt n (length S.finds)) (λ h. h)
        (λ h. let z = sym (get_or-eq_default S.finds 0 {n = n} (omega arith)) ∙ l.1 in absurd (omega arith)),
  )

  lost_holds : (n : ℕ) → lost (slot_of S) (get_or S.finds n 0) ≡ true → Lost S n
  unfolding lost
  lost_holds n e = go (get_or S.finds n 0) refl e
    where
      go : (find : ℕ) → get_or S.finds n 0 ≡ find → lost (slot_of S) find ≡ true → Lost S n
      go zero h k = absurd (false≢true k)
      go (suc i) h k = (i, h, is_empty_lem (slot_of S i) k)

  pub names_at : {n : ℕ} → (lost_name S.finds (slot_of S) ≡ Lowest.At n) ↔ LowestWith (Lost S) n
  unfolding lost_name
  names_at = (
    λ e. let l = lowest_has (Lost S) _ _ lost_told lost_holds e in record { holds = l.0; lowest = l.1 },
    λ l. has_lowest (Lost S) _ _ lost_told lost_holds _ l.holds l.lowest,
  )

  pub names_none : (lost_name S.finds (slot_of S) ≡ Lowest.Nowhere) ↔ ((n : ℕ) → Lost S n → ⊥)
  unfolding lost_name
  names_none = (none_has (Lost S) _ _ lost_told lost_holds, has_none (Lost S) _ _ lost_told lost_holds)

  module _ (sort : Sort) where
    past : (i : ℕ) → length S.slots ≤ i → slot_of S i ≡ empty
    unfolding slot_of
    past i h = get_or-eq_default S.slots empty {n = i} h

    pub loops_at : {x : ℕ} → (loop_of sort S.finds (slot_of S) (length S.slots) ≡ Lowest.At x) ↔ LowestOnLoop sort S x
    loops_at = (
      λ e. let l = looped sort S.finds (slot_of S) (length S.slots) past e in record { holds = l.0; lowest = l.1 },
      λ l. is_looped sort S.finds (slot_of S) (length S.slots) past _ l.holds l.lowest,
    )

    pub loops_none : (loop_of sort S.finds (slot_of S) (length S.slots) ≡ Lowest.Nowhere) ↔ ((x : ℕ) → Looped sort S x → ⊥)
    loops_none = (
      not_looped sort S.finds (slot_of S) (length S.slots) past,
      is_not_looped sort S.finds (slot_of S) (length S.slots) past,
    )

pub refused_at : (k : ℕ) (a : Lowest) (after : Reading) (p : ℕ) → a ≡ Lowest.At p → Reading.Refused k p ≡ or_refuse k a after
refused_at k a after p e = rw e

-- a refusal of another number comes after
passed : (k : ℕ) (a : Lowest) (after : Reading) (r p : ℕ) → (k ≡ r → ⊥) → or_refuse k a after ≡ Reading.Refused r p
    → (a ≡ Lowest.Nowhere) × (after ≡ Reading.Refused r p)
passed k (Lowest.At q) after r p h e = absurd (h (cc))
passed k Lowest.Nowhere after r p h e = (refl, e)

-- and one of a number that does not, from here
met : (k : ℕ) (a : Lowest) (after : Reading) (p : ℕ) → (after ≡ Reading.Refused k p → ⊥) → or_refuse k a after ≡ Reading.Refused k p
    → a ≡ Lowest.At p
met k (Lowest.At q) after p h e = ap Lowest.At (cc)
met k Lowest.Nowhere after p h e = absurd (h e)

not_refused : (f : Frame) (r p : ℕ) → Reading.Accepted f ≡ Reading.Refused r p → ⊥
not_refused f r p e = let z : ◌≡◌ {A = ℕ} 0 1 = cc in omega arith

-- the answer, by what was found
module _ (S : Schema) (f : Frame) where
  abbrev Names : Lowest
  Names = lost_name S.finds (slot_of S)

  abbrev Loops : Sort → Lowest
  Loops sort = loop_of sort S.finds (slot_of S) (length S.slots)

  pub refused_7 : (n : ℕ) → Names ≡ Lowest.At n → Reading.Refused 7 n ≡ judged S f
  unfolding judged
  refused_7 n e = rw e

  module _ (e : Names ≡ Lowest.Nowhere) where
    pub refused_8 : (i : ℕ) → Loops Resolved ≡ Lowest.At i → Reading.Refused 8 i ≡ judged S f
    unfolding judged
    refused_8 i g = rw (e, g)

    pub refused_9 : (i : ℕ) → Loops Resolved ≡ Lowest.Nowhere → Loops Expression ≡ Lowest.At i → Reading.Refused 9 i ≡ judged S f
    unfolding judged
    refused_9 i g h = rw (e, g, h)

    pub none_refused : Loops Resolved ≡ Lowest.Nowhere → Loops Expression ≡ Lowest.Nowhere → Reading.Accepted f ≡ judged S f
    unfolding judged
    none_refused g h = rw (e, g, h)

  pub judged_by : (a b d : Lowest) (x y z : Reading) → Names ≡ a → Loops Resolved ≡ b → Loops Expression ≡ d
      → x ≡ or_refuse 9 d (Reading.Accepted f) → y ≡ or_refuse 8 b x → z ≡ or_refuse 7 a y → z ≡ judged S f
  unfolding judged
  judged_by a b d x y z n l e p q r = r ∙ ap (or_refuse 7 a) (q ∙ ap (or_refuse 8 b) p) ∙ rw (n, l, e)

  -- nothing was found where the answer is acceptance
  pub record Clear (g : Frame) : Type 0 where
    pub names : Names ≡ Lowest.Nowhere
    pub newtypes : Loops Resolved ≡ Lowest.Nowhere
    pub aliases : Loops Expression ≡ Lowest.Nowhere
    pub frame : f ≡ g

  pub clear : (g : Frame) → judged S f ≡ Reading.Accepted g → Clear g
  unfolding judged
  clear g e = go Names refl (Loops Resolved) refl (Loops Expression) refl e
    where
      go : (a : Lowest) → Names ≡ a → (b : Lowest) → Loops Resolved ≡ b → (d : Lowest) → Loops Expression ≡ d
          → or_refuse 7 a (or_refuse 8 b (or_refuse 9 d (Reading.Accepted f))) ≡ Reading.Accepted g → Clear g
      go (Lowest.At n) p b q d r h = let z : ◌≡◌ {A = ℕ} 0 1 = cc in absurd (omega arith)
      go Lowest.Nowhere p (Lowest.At i) q d r h = let z : ◌≡◌ {A = ℕ} 0 1 = cc in absurd (omega arith)
      go Lowest.Nowhere p Lowest.Nowhere q (Lowest.At i) r h = let z : ◌≡◌ {A = ℕ} 0 1 = cc in absurd (omega arith)
      go Lowest.Nowhere p Lowest.Nowhere q Lowest.Nowhere r h = record { names = p; newtypes = q; aliases = r; frame = cc }

  -- and what was found where it is a refusal
  abbrev After8 : Reading
  After8 = or_refuse 9 (Loops Expression) (Reading.Accepted f)

  abbrev After7 : Reading
  After7 = or_refuse 8 (Loops Resolved) After8

  module _ (p : ℕ) where
    is_7 : judged S f ≡ Reading.Refused 7 p → Names ≡ Lowest.At p
    unfolding judged
    is_7 =
        met 7 Names After7 p
        (λ e. let b = passed 8 (Loops Resolved) After8 7 p (λ z. omega arith) e in
        not_refused f 7 p (passed 9 (Loops Expression) (Reading.Accepted f) 7 p (λ z. omega arith) b.1).1)

    is_8 : judged S f ≡ Reading.Refused 8 p → (Names ≡ Lowest.Nowhere) × (Loops Resolved ≡ Lowest.At p)
    unfolding judged
    is_8 e =
        let a = passed 7 Names After7 8 p (λ z. omega arith) e in (
          a.0,
          met 8 (Loops Resolved) After8 p
              (λ g. not_refused f 8 p (passed 9 (Loops Expression) (Reading.Accepted f) 8 p (λ z. omega arith) g).1) a.1,
        )

    is_9 : judged S f ≡ Reading.Refused 9 p → (Names ≡ Lowest.Nowhere) × (Loops Resolved ≡ Lowest.Nowhere) × (Loops Expression ≡ Lowest.At p)
    unfolding judged
    is_9 e =
        let a = passed 7 Names After7 9 p (λ z. omega arith) e in
        let b = passed 8 (Loops Resolved) After8 9 p (λ z. omega arith) a.1 in
        (a.0, b.0, met 9 (Loops Expression) (Reading.Accepted f) p (not_refused f 9 p) b.1)

-- an image's answer
module _ (ed : Edition) (s : List ℕ) where
  module _ (w : Passes6 ed s) where
    pub schema_read : judged (schema_of ed s) (frame_in w.image) ≡ reading_of ed s
    unfolding reading_of schema_of
    schema_read = ap (λ (o : Outcome Image). judged (schema_or o) (frame_in w.image)) w.reads ∙ sym (ap answered w.reads)

  read_6 : (r p : ℕ) → 6 < r → reading_of ed s ≡ Reading.Refused r p → Passes6 ed s
  unfolding reading_of
  read_6 r p h e = go (image_of ed s) refl (image_low ed s) e
    where
      go : (o : Outcome Image) → image_of ed s ≡ o → Low o → answered o ≡ Reading.Refused r p → Passes6 ed s
      go (done i n) x l e = record { image = i; end = n; reads = x }
      go (refused q n) x l e = let z : q ≡ r = cc in absurd (omega arith)

  pub accepted_6 : (f : Frame) → reading_of ed s ≡ Reading.Accepted f → Passes6 ed s
  unfolding reading_of
  accepted_6 f e = go (image_of ed s) refl e
    where
      go : (o : Outcome Image) → image_of ed s ≡ o → answered o ≡ Reading.Accepted f → Passes6 ed s
      go (done i n) x e = record { image = i; end = n; reads = x }
      go (refused q n) x e = absurd (not_refused f q n (sym e))

  passes_7 : Passes6 ed s → lost_name (schema_of ed s).finds (slot_of (schema_of ed s)) ≡ Lowest.Nowhere → Passes7 ed s
  passes_7 w e = record { whole = w; names = (names_none (schema_of ed s)).0 e }

  passes_8 : Passes7 ed s → loop_of Resolved (schema_of ed s).finds (slot_of (schema_of ed s)) (length (schema_of ed s).slots) ≡ Lowest.Nowhere → Passes8 ed s
  passes_8 w e = record { before = w; newtypes = (loops_none (schema_of ed s) Resolved).0 e }

  seven : (n : ℕ) → (reading_of ed s ≡ Reading.Refused 7 n) ↔ (Passes6 ed s × LowestWith (Lost (schema_of ed s)) n)
  seven n = (
    λ e. let w = read_6 7 n (omega arith) e in
        (w, (names_at (schema_of ed s)).0 (is_7 (schema_of ed s) (frame_in w.image) n (schema_read w ∙ e))),
    λ l. sym (refused_7 (schema_of ed s) _ n ((names_at (schema_of ed s)).1 l.1) ∙ schema_read l.0),
  )

  eight : (x : ℕ) → (reading_of ed s ≡ Reading.Refused 8 x) ↔ (Passes7 ed s × LowestOnLoop Resolved (schema_of ed s) x)
  eight x = (
    λ e. let w = read_6 8 x (omega arith) e in
        let a = is_8 (schema_of ed s) (frame_in w.image) x (schema_read w ∙ e) in
        (passes_7 w a.0, (loops_at (schema_of ed s) Resolved).0 a.1),
    λ l. sym (refused_8 (schema_of ed s) _ ((names_none (schema_of ed s)).1 l.0.names) x ((loops_at (schema_of ed s) Resolved).1 l.1) ∙ schema_read l.0.whole),
  )

  nine : (x : ℕ) → (reading_of ed s ≡ Reading.Refused 9 x) ↔ (Passes8 ed s × LowestOnLoop Expression (schema_of ed s) x)
  nine x = (
    λ e. let w = read_6 9 x (omega arith) e in
        let a = is_9 (schema_of ed s) (frame_in w.image) x (schema_read w ∙ e) in
        (passes_8 (passes_7 w a.0) a.1, (loops_at (schema_of ed s) Expression).0 a.2),
    λ l. let b = l.0.before in
        sym (refused_9 (schema_of ed s) _ ((names_none (schema_of ed s)).1 b.names) x ((loops_none (schema_of ed s) Resolved).1 l.0.newtypes) ((loops_at (schema_of ed s) Expression).1 l.1) ∙ schema_read b.whole),
  )

  accepted : ((f : Frame) × (reading_of ed s ≡ Reading.Accepted f)) ↔ Passes9 ed s
  accepted = (
    λ a. let w = accepted_6 a.0 a.1 in
        let c = clear (schema_of ed s) (frame_in w.image) a.0 (schema_read w ∙ a.1) in
        record { before = passes_8 (passes_7 w c.names) c.newtypes; aliases = (loops_none (schema_of ed s) Expression).0 c.aliases },
    λ l. let a = l.before in let b = a.before in
        (frame_in b.whole.image, sym (none_refused (schema_of ed s) _ ((names_none (schema_of ed s)).1 b.names) ((loops_none (schema_of ed s) Resolved).1 a.newtypes) ((loops_none (schema_of ed s) Expression).1 l.aliases) ∙ schema_read b.whole)),
  )

  pub exactly : {r : Reading} → r ≡ reading_of ed s → Judged ed s r
  exactly e = subst (λ (r : Reading). Judged ed s r) (sym e) record { seven = seven; eight = eight; nine = nine; accepted = accepted }
