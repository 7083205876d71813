-- Slots with where they start, and a run of them. Assumes nothing.
use Prim.Native.Nat.{ℕ, zero, suc, ◌+◌, ◌-◌, ◌≤◌, ◌<◌}
use mathlib.Core.Path.{◌≡◌, refl, sym, ap, ap₂, ◌∙◌}
use mathlib.Core.List.{List, ◌∷◌}
use native.Mathlib.Numerals.{add-one}
use native.Mathlib.Omega.{arith}
use lib.ListN.{length, get_or, set, length-set}
use lib.Seq.{sets}
use Rattle.number.specs.Grammar.{Grammar, give, ◌>>=◌, many, Outcome, done, read}
use Rattle.number.specs.Answers.{next}
use Rattle.number.specs.declared.Next.{Next}
use Rattle.number.proofs.Reading.{next_make, next_at, next_refused, read_done, given, front, many_none, many_on, many_stop}
use Rattle.slot.specs.Slot.{Slot, slot_at}
use Rattle.slot.specs.declared.Edition.{Edition}
use Rattle.image.specs.Image.{Placed, placed_at, starts_of, contents_of, ahead, readable}

module _ (ed : Edition) (names : ℕ) (s : List ℕ) where
  pub placed_next : (at : ℕ) → next (read (placed_at ed names) s at) ≡ next (read (slot_at ed names) s at)
  unfolding placed_at read ◌>>=◌
  placed_next at = next_make (slot_at ed names) (λ x. record { start = at; content = x }) s at

  -- what a placed slot is
  pub record PlacedAt (at : ℕ) (x : Placed) (end : ℕ) : Type 0 where
    pub starts : x.start ≡ at
    pub holds : read (slot_at ed names) s at ≡ done x.content end

  pub placed_is : (at : ℕ) (x : Placed) (end : ℕ) → read (placed_at ed names) s at ≡ done x end → PlacedAt at x end
  unfolding placed_at read ◌>>=◌
  placed_is at x end e =
      let a = read_done (slot_at ed names) (λ c. give (record { start = at; content = c })) s at x end e in
      let g = given a.rest in
      record {
        starts = ap (λ (y : Placed). y.start) (sym g.0);
        holds = a.here ∙ ap (done a.first) g.1 ∙ ap (λ (y : Placed). done y.content end) g.0;
      }

  pub placed_start : (at n : ℕ) (x : Placed) → read (placed_at ed names) s at ≡ done x n → x.start ≡ at
  placed_start at n x e = (placed_is at x n e).starts

-- slot i of a run that was read whole starts where the table says, and reads back
pub record Entry (ed : Edition) (names : ℕ) (s : List ℕ) (start : ℕ) (x : Slot) : Type 0 where
  pub end : ℕ
  pub reads : read (slot_at ed names) s start ≡ done x end

entry_first : (ed : Edition) (names : ℕ) (s : List ℕ) (at : ℕ) (x : Placed) (xs ys : List Placed) (n : ℕ) (d : Slot) → read (placed_at ed names) s at ≡ done x n → xs ≡ x ∷ ys
    → Entry ed names s (get_or (starts_of xs) 0 0) (get_or (contents_of xs) 0 d)
entry_first ed names s at x xs ys n d e w =
    let p = placed_is ed names s at x n e in
    rw (w, p.starts) (record { end = n; reads = p.holds })

entry_later : (ed : Edition) (names : ℕ) (s : List ℕ) (x : Placed) (xs ys : List Placed) (i : ℕ) (d : Slot) → xs ≡ x ∷ ys
    → Entry ed names s (get_or (starts_of ys) i 0) (get_or (contents_of ys) i d) → Entry ed names s (get_or (starts_of xs) (suc i) 0) (get_or (contents_of xs) (suc i) d)
entry_later ed names s x xs ys i d w r = rw w r

pub entry : (ed : Edition) (names : ℕ) (s : List ℕ) (left at : ℕ) (xs : List Placed) (end : ℕ) → read (many left (placed_at ed names)) s at ≡ done xs end
    → (i : ℕ) (d : Slot) → i < left → Entry ed names s (get_or (starts_of xs) i 0) (get_or (contents_of xs) i d)
entry ed names s zero at xs end e i d h = absurd (omega arith)
entry ed names s (suc left) at xs end e zero d h =
    let f = front (placed_at ed names) s left at xs end e in
    entry_first ed names s at f.first xs f.others f.middle d f.here f.whole
entry ed names s (suc left) at xs end e (suc i) d h =
    let f = front (placed_at ed names) s left at xs end e in
    entry_later ed names s f.first xs f.others i d f.whole (entry ed names s left f.middle f.others end f.rest i d (omega arith))

-- a run that was read whole was read
pub readable_all : {A : Type 0} (g : Grammar A) (s : List ℕ) (left at : ℕ) (xs : List A) (end : ℕ) → read (many left g) s at ≡ done xs end → readable left g s at ≡ xs
unfolding readable many read
readable_all g s zero at xs end e = (given e).0
readable_all {A} g s (suc left) at xs end e =
    let f = front g s left at xs end e in
    ap (λ (o : Outcome A). ahead o (λ n. readable left g s n)) f.here ∙ ap (λ (l : List A). f.first ∷ l) (readable_all g s left f.middle f.others end f.rest) ∙ sym f.whole

-- `i` of `count` slots have been read, up to p, and the table holds where they start
module _ (ed : Edition) (names : ℕ) (s : List ℕ) (count at : ℕ) (l₀ : List ℕ) where
  abbrev starting : (left at : ℕ) → List ℕ
  starting left p = starts_of (readable left (placed_at ed names) s p)

  pub record Turn (p i : ℕ) (l : List ℕ) : Type 0 where
    pub low : i ≤ count
    pub long : length l ≡ length l₀
    pub ends : next (read (many count (placed_at ed names)) s at) ≡ next (read (many (count - i) (placed_at ed names)) s p)
    pub written : sets l₀ 0 (starting count at) ≡ sets l i (starting (count - i) p)

  abbrev pub Said : Next → List ℕ → Type 0
  Said end l = (end ≡ next (read (many count (placed_at ed names)) s at)) × (l ≡ sets l₀ 0 (starting count at))

  pub first_turn : Turn at 0 l₀
  first_turn = let z : count - 0 ≡ count = omega arith in record { low = omega arith; long = refl; ends = rw z; written = rw z }

  module _ (p i : ℕ) (l : List ℕ) (t : Turn p i l) where
    pub last_turn : count ≤ i → Said (Next.At p) l
    unfolding readable
    last_turn h =
        let z : count - i ≡ 0 = omega arith in
        (sym (t.ends ∙ many_none (placed_at ed names) s p (count - i) (omega arith)), sym (t.written ∙ rw z))

    module _ (h : i < count) where
      more : count - i ≡ suc (count - (i + 1))
      more = omega arith

      pub stop_turn : (r q : ℕ) → next (read (slot_at ed names) s p) ≡ Next.Refused r q → Said (Next.Refused r q) l
      unfolding readable
      stop_turn r q e =
          let f = placed_next ed names s p ∙ e in (
            sym (t.ends ∙ many_stop (placed_at ed names) s p (count - i) (omega arith) r q f),
            sym (t.written ∙ rw more (ap (λ (o : Outcome Placed). sets l i (starts_of (ahead o (λ n. readable (count - (i + 1)) (placed_at ed names) s n)))) (next_refused (read (placed_at ed names) s p) f))),
          )

      pub next_turn : (n : ℕ) (l' : List ℕ) → next (read (slot_at ed names) s p) ≡ Next.At n → l' ≡ set l i p → Turn n (i + 1) l'
      unfolding readable
      next_turn n l' e m =
          let f = placed_next ed names s p ∙ e in
          let x = next_at (read (placed_at ed names) s p) f in
          let d : count - i - 1 ≡ count - (i + 1) = omega arith in
          rw m
          record {
            low = omega arith;
            long = length-set l i p ∙ t.long;
            ends = t.ends ∙ many_on (placed_at ed names) s p (count - i) (omega arith) n f ∙ ap (λ (k : ℕ). next (read (many k (placed_at ed names)) s n)) d;
            written = t.written
                ∙ rw more
                (ap (λ (o : Outcome Placed). sets l i (starts_of (ahead o (λ k. readable (count - (i + 1)) (placed_at ed names) s k)))) x.1
                ∙ ap₂ (λ (v k : ℕ). sets (set l i v) k (starting (count - (i + 1)) n)) (placed_start ed names s p n x.0 x.1) (sym (add-one i)));
          }
