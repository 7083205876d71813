-- Marks in a table. Assumes nothing.
use Prim.Native.Nat.{ℕ, ◌<◌, ◌^◌}
use mathlib.Core.Path.{◌≡◌, refl, sym, ap, subst, ◌∙◌}
use mathlib.Core.List.{List, [], ◌∷◌}
use mathlib.Core.Bool.{Bool, true, false, ◌||◌}
use native.Mathlib.Omega.{arith}
use lib.ListN.{length, get_or, set, replicate, length-set, length-replicate, get_or-replicate}
use lib.Dec.{eqb}
use lib.Seq.{get_or-set_same, get_or-set_other}
use borrow.Author.Tests.{eqb-true, eqb-false}
use Rattle.number.specs.Grammar.{slot, number, many, done, read}
use Rattle.graph.specs.Ways.{has}
use Rattle.image.specs.declared.Frame.{Frame}
use Rattle.reader.specs.Reading.{schema_of}
use Rattle.rows.specs.Rows.{Marked, Known, Ready}

-- a table with the slots of a list marked
unfoldable pub marked : List Bool → List ℕ → List Bool
marked l [] = l
marked l (d ∷ ds) = marked (set l d true) ds

pub mark_first : (l l' : List Bool) (d : ℕ) → l' ≡ set l d true → (ds : List ℕ) → marked l (d ∷ ds) ≡ marked l' ds
unfolding marked
mark_first l l' d e ds = ap (λ (x : List Bool). marked x ds) (sym e)

pub mark_none : (l : List Bool) → marked l [] ≡ l
unfolding marked
mark_none l = refl

or-false : (b : Bool) → b ≡ (b || false)
or-false true = refl
or-false false = refl

or-true : (b c : Bool) → true ≡ (b || (true || c))
or-true true c = refl
or-true false c = refl

marks_are : (ds : List ℕ) (l : List Bool) → Marked l ds (marked l ds)
unfolding marked has
marks_are [] l i h = or-false (get_or l i false)
marks_are (d ∷ ds) l i h = marks_are ds (set l d true) i (rw (length-set l d true) h) ∙ go (eqb i d) refl
  where
    go : (b : Bool) → eqb i d ≡ b → (get_or (set l d true) i false || has i ds) ≡ (get_or l i false || (eqb i d || has i ds))
    go true q =
        let e : i ≡ d = eqb-true i d q in
        let g : get_or (set l d true) i false ≡ true = rw e (get_or-set_same l d true false (rw e at h)) in
        rw (q, g) (or-true (get_or l i false) (has i ds))
    go false q = rw (q, get_or-set_other l d i true false (λ e. eqb-false i d q e))

pub marked_is : (l l' : List Bool) (ds : List ℕ) → marked l ds ≡ l' → Marked l ds l'
marked_is l l' ds e = subst (Marked l ds) e (marks_are ds l)

-- in a table that had no mark
pub marks_alone : (n : ℕ) (l : List Bool) (ds : List ℕ) → Marked (replicate n false) ds l → (i : ℕ) → i < n → get_or l i false ≡ has i ds
marks_alone n l ds m i h =
    m i (rw (length-replicate n false) h) ∙ rw (get_or-replicate n i false false h)

-- the declaration list of an accepted image
pub known : (s starts : List ℕ) (f : Frame) (rows : List ℕ) → Ready s starts f rows → (l : List Bool) → length l ≡ 512
    → ((ds : List ℕ) (n : ℕ) → read (many f.declarations (number slot (2 ^ 32))) s f.declared ≡ done ds n → Marked (replicate 512 false) ds l)
    → Known s starts f l rows
known s starts f rows ready l long m =
    let few = ready.promise.few in
    record {
      promise = ready.promise;
      room = omega arith;
      places = ready.places;
      declared = λ i h. marks_alone 512 l (schema_of f.edition s).declared (m (schema_of f.edition s).declared ready.promise.declared_end ready.promise.declared) i (omega arith);
    }
