-- Refusal 15: exactly where the image passes 1 to 9 and a slot brings a size. Assumes nothing.
use Prim.Native.Nat.{ℕ, ◌≤◌, ◌<◌, ◌*◌}
use mathlib.Core.Path.{◌≡◌, refl, sym, ap, ◌∙◌}
use mathlib.Core.List.{List}
use mathlib.Core.Bool.{Bool, true, false, cond}
use mathlib.Core.Option.{Option, none, some, none-ne-some}
use mathlib.Core.Logic.{◌↔◌, by_cases}
use native.Mathlib.Omega.{arith}
use native.Mathlib.Decide.{dec_lt}
use lib.Dec.{ltb}
use lib.ListN.{length, get_or-eq_default}
use Rattle.number.specs.Grammar.{Outcome, done, refused}
use Rattle.tree.specs.declared.Sort.{Sort}
use Rattle.tree.specs.declared.Sort.TheVariants.{Resolved, Expression}
use Rattle.slot.specs.Slot.{empty}
use Rattle.slot.specs.declared.Edition.{Edition}
use Rattle.graph.specs.Ways.{if_found}
use Rattle.graph.specs.Loops.{lowest_has, none_has, has_lowest}
use Rattle.graph.specs.declared.Lowest.{Lowest}
use Rattle.image.specs.Schema.{Schema, slot_of}
use Rattle.image.specs.Image.{Image, image_of, schema_in, frame_in}
use Rattle.image.specs.declared.Frame.{Frame}
use Rattle.loops.specs.Leads.{loop_of}
use Rattle.reader.specs.Reading.{lost_name, or_refuse, judged, answered, reading_of, schema_of}
use Rattle.reader.specs.Refusals.{LowestWith, Passes9}
use Rattle.reader.specs.declared.Reading.{Reading}
use Rattle.reader.proofs.Numbers.{Low, image_low}
use Rattle.reader.proofs.Telling.{exactly}
use Rattle.sizes.specs.declared.Layout.{Layout}
use Rattle.sizes.specs.declared.Size.{Size}
use Rattle.sizes.specs.declared.Operation.TheVariants.{Sum, Product}
use Rattle.sizes.specs.Check.{Checked, is_there, brought, brought_in, stored_slot, check_sizes}
use Rattle.sizes.specs.Check as check
use Rattle.sizes.specs.Demand.{BringsNone}
use Rattle.turns.specs.declared.Entry.TheVariants.{Ordinary, HeadBoard}
use Rattle.turns.specs.declared.Sizing.{Sizing}
use Rattle.turns.specs.Sizing.{layout_of, gated, verdict, worked_in, sizing_in, sizing_of}
use Rattle.turns.specs.Refusals.{Brings, Fifteen}

same_number : {m n p q : ℕ} → Sizing.Refused m p ≡ Sizing.Refused n q → (m ≡ n) × (p ≡ q)
same_number e = (cc, cc)

not_accepted : {A : Type 0} {n p : ℕ} → Sizing.Refused n p ≡ Sizing.Accepted → A
not_accepted e = let z : ◌≡◌ {A = ℕ} 0 1 = cc in absurd (omega arith)

-- ## Reading refuses by 1 to 9

reading_number : {m n p q : ℕ} → Reading.Refused m p ≡ Reading.Refused n q → m ≡ n
reading_number e = cc

judged_low : (S : Schema) (f : Frame) (r p : ℕ) → judged S f ≡ Reading.Refused r p → r ≤ 9
unfolding judged
judged_low S f r p e = three (lost_name S.finds (slot_of S)) (loops Resolved) (loops Expression) e
  where
    loops : Sort → Lowest
    loops sort = loop_of sort S.finds (slot_of S) (length S.slots)

    three : (a b c : Lowest) → or_refuse 7 a (or_refuse 8 b (or_refuse 9 c (Reading.Accepted f))) ≡ Reading.Refused r p → r ≤ 9
    three (Lowest.At x) b c q = omega (arith, reading_number q)
    three Lowest.Nowhere (Lowest.At x) c q = omega (arith, reading_number q)
    three Lowest.Nowhere Lowest.Nowhere (Lowest.At x) q = omega (arith, reading_number q)
    three Lowest.Nowhere Lowest.Nowhere Lowest.Nowhere q = let z : ◌≡◌ {A = ℕ} 0 1 = cc in absurd (omega arith)

reading_low : (ed : Edition) (s : List ℕ) (r p : ℕ) → reading_of ed s ≡ Reading.Refused r p → r ≤ 9
unfolding reading_of
reading_low ed s r p e = go (image_of ed s) (image_low ed s) e
  where
    go : (o : Outcome Image) → Low o → answered o ≡ Reading.Refused r p → r ≤ 9
    go (done i n) l q = judged_low (schema_in i) (frame_in i) r p q
    go (refused k x) l q = omega (arith, reading_number q, l)

-- ## The lowest slot that brings a size

module _ (S : Schema) where
  there : (o : Option Size) → is_there o ≡ true → (s : Size) × (o ≡ some s)
  there none e = let z : ◌≡◌ {A = ℕ} 0 1 = cc in absurd (omega arith)
  there (some s) e = (s, refl)

  brings_told : (i : ℕ) → Brings S i → (is_there (brought S i) ≡ true) × (i < length S.slots)
  unfolding brought slot_of
  brings_told i b = (
    ap is_there b.1,
    by_cases (dec_lt i (length S.slots)) (λ h. h)
        (λ h. absurd (none-ne-some b.0 (sym (ap brought_in (get_or-eq_default S.slots empty {n = i} (omega arith))) ∙ b.1))),
  )

  brings_holds : (i : ℕ) → is_there (brought S i) ≡ true → Brings S i
  brings_holds i e = there (brought S i) e

  pub stored_at : {x : ℕ} → (stored_slot S ≡ Lowest.At x) ↔ LowestWith (Brings S) x
  unfolding stored_slot
  stored_at = (
    λ e. let l = lowest_has (Brings S) _ _ brings_told brings_holds e in record { holds = l.0; lowest = l.1 },
    λ l. has_lowest (Brings S) _ _ brings_told brings_holds _ l.holds l.lowest,
  )

  pub stored_none : stored_slot S ≡ Lowest.Nowhere → BringsNone S
  unfolding stored_slot
  stored_none e i = go (brought S i) refl
    where
      go : (o : Option Size) → brought S i ≡ o → o ≡ none
      go none q = refl
      go (some z) q = absurd (none_has (Brings S) _ _ brings_told brings_holds e i (z, q))

-- ## The answer

module _ (ed : Edition) (places : ℕ) (s : List ℕ) where
  abbrev S : Schema
  S = schema_of ed s

  -- what comes behind the gate is no 15
  later : (L : Layout) (x : ℕ) → worked_in L places S ≡ Sizing.Refused 15 x → ⊥
  unfolding worked_in
  later L x e = go (check_sizes L S) (ltb places (3 * length S.slots)) e
    where
      go : (c : Checked) (b : Bool) → cond b (Sizing.Refused 10 0) (verdict c) ≡ Sizing.Refused 15 x → ⊥
      go c true q = omega (arith, (same_number q).0)
      go (check.accepted st) false q = not_accepted (sym q)
      go (check.refused Sum i) false q = omega (arith, (same_number q).0)
      go (check.refused Product i) false q = omega (arith, (same_number q).0)

  read_passes : (f : Frame) → reading_of ed s ≡ Reading.Accepted f → Passes9 ed s
  read_passes f e = (exactly ed s refl).accepted.0 (f, e)

  -- an image that is read is refused at the gate, or goes on
  at_gate : (after : Sizing) (x : ℕ) → (after ≡ Sizing.Refused 15 x → ⊥) → gated HeadBoard S after ≡ Sizing.Refused 15 x → stored_slot S ≡ Lowest.At x
  unfolding gated
  at_gate after x other e = go (stored_slot S) refl e
    where
      go : (l : Lowest) → stored_slot S ≡ l → if_found (Sizing.Refused 15) l after ≡ Sizing.Refused 15 x → l ≡ Lowest.At x
      go (Lowest.At y) q h = ap Lowest.At (same_number h).1
      go Lowest.Nowhere q h = absurd (other h)

  past_gate : (after : Sizing) → gated HeadBoard S after ≡ Sizing.Accepted → stored_slot S ≡ Lowest.Nowhere
  unfolding gated
  past_gate after e = go (stored_slot S) refl e
    where
      go : (l : Lowest) → stored_slot S ≡ l → if_found (Sizing.Refused 15) l after ≡ Sizing.Accepted → l ≡ Lowest.Nowhere
      go (Lowest.At y) q h = not_accepted h
      go Lowest.Nowhere q h = refl

  -- by what reading answers
  module _ (x : ℕ) where
    refused_by : sizing_of HeadBoard ed places s ≡ Sizing.Refused 15 x → Passes9 ed s × LowestWith (Brings S) x
    unfolding sizing_of sizing_in
    refused_by e = go (reading_of ed s) refl e
      where
        go : (r : Reading) → reading_of ed s ≡ r → sizing_in HeadBoard places S r ≡ Sizing.Refused 15 x → Passes9 ed s × LowestWith (Brings S) x
        go (Reading.Refused k p) q h = let l = reading_low ed s k p q in absurd (omega (arith, (same_number h).0))
        go (Reading.Accepted f) q h =
            (read_passes f q, (stored_at S).0 (at_gate _ x (later (layout_of HeadBoard) x) h))

    refuses : Passes9 ed s × LowestWith (Brings S) x → sizing_of HeadBoard ed places s ≡ Sizing.Refused 15 x
    unfolding sizing_of sizing_in gated
    refuses (p, l) =
        let a = (exactly ed s refl).accepted.1 p in
        let after = worked_in (layout_of HeadBoard) places S in
        ap (sizing_in HeadBoard places S) a.1 ∙ ap (λ (y : Lowest). if_found (Sizing.Refused 15) y after) ((stored_at S).1 l)

    never : sizing_of Ordinary ed places s ≡ Sizing.Refused 15 x → ⊥
    unfolding sizing_of sizing_in gated
    never e = go (reading_of ed s) refl e
      where
        go : (r : Reading) → reading_of ed s ≡ r → sizing_in Ordinary places S r ≡ Sizing.Refused 15 x → ⊥
        go (Reading.Refused k p) q h = let l = reading_low ed s k p q in omega (arith, (same_number h).0)
        go (Reading.Accepted f) q h = later (layout_of Ordinary) x h

  brings_none : sizing_of HeadBoard ed places s ≡ Sizing.Accepted → BringsNone S
  unfolding sizing_of sizing_in
  brings_none e = go (reading_of ed s) e
    where
      go : (r : Reading) → sizing_in HeadBoard places S r ≡ Sizing.Accepted → BringsNone S
      go (Reading.Refused k p) h = not_accepted h
      go (Reading.Accepted f) h = stored_none S (past_gate _ h)

  pub fifteen : Fifteen ed places s
  fifteen = record { exactly = λ x. (refused_by x, refuses x); ordinary = never; accepted = brings_none }
