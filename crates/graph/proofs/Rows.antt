-- The table as places are set in it, and the rounds of the closure. Assumes nothing.
use Prim.Native.Nat.{ℕ, suc, ◌+◌, ◌*◌, ◌-◌, ◌/◌, ◌%◌, ◌^◌, ◌<◌, ◌≤◌}
use native.Mathlib.Omega.{arith}
use native.Mathlib.Numerals.{add-one}
use native.Mathlib.Decide.{dec_lt, ℕ_discrete}
use mathlib.Core.Path.{◌≡◌, refl, sym, ap, ◌∙◌}
use mathlib.Core.List.{List}
use mathlib.Core.Logic.{by_cases, ◌↔◌}
use mathlib.Core.Bool.{Bool, true, false, cond, ◌&&◌, ◌||◌, or-false, or-true, or_assoc, and-false, and-or_distrib_right}
use borrow.Author.Tests.{lt-ltb, le-ltb, eq-eqb, ne_eqb}
use lib.ListN.{length, get_or, set, take, drop, length-set, length-take, length-drop}
use lib.Seq.{get_or-set_same, get_or-set_other, get_or-take, get_or-drop}
use lib.Bits.{bit_or}
use lib.Dec.{ltb, eqb}
use Rattle.graph.specs.declared.Lowest.{Lowest}
use Rattle.graph.specs.Loops.{lowest_same}
use Rattle.graph.specs.Ways.{Leads, via, lowest, lowest_looped}
use Rattle.graph.specs.Table.{bit, bit_zero, grid, Grown, Marked, Round, Closed, Unmarked}
use Rattle.graph.proofs.Bits.{bit_or_lem, bit_shifted, no_bits, same_place}

ltb_next : (b j : ℕ) → ltb b (j + 1) ≡ (ltb b j || eqb b j)
ltb_next b j =
    by_cases (dec_lt b j) (λ l. rw (lt-ltb b (j + 1) (omega arith), lt-ltb b j l))
    (λ l. by_cases (ℕ_discrete b j)
    (λ e. rw (lt-ltb b (j + 1) (omega arith), eq-eqb b j e) (sym (or-true (ltb b j))))
    (λ e. rw (le-ltb b (j + 1) (omega arith), le-ltb b j (omega arith), ne_eqb b j e)))

-- where x is j, what is said of j may be said of x
pub at_same : (x j : ℕ) (f : ℕ → Bool) → (eqb x j && f j) ≡ (eqb x j && f x)
at_same x j f =
    by_cases (ℕ_discrete x j) (λ e. ap (λ (y : ℕ). eqb x j && f y) (sym e)) (λ n. rw (ne_eqb x j n))

-- row k does not change as it takes in itself, so that the code may work in place
row_stays : (y p q : Bool) → (y || (p && (q && y))) ≡ y
row_stays true p q = refl
row_stays false true q = and-false q
row_stays false false q = refl

same_either : (t x : Bool) → cond t x x ≡ x
same_either true x = refl
same_either false x = refl

pub grown_none : {m : List ℕ} {more : Leads} → ((a b : ℕ) → a * 8 + 8 ≤ length m → b < 512 → more a b ≡ false) → Grown m more m
grown_none h = record { long = refl; places = λ a b p q. rw (h a b p q) (sym (or-false _)) }

pub grown_as : {m m' : List ℕ} {more more' : Leads} → Grown m more m'
    → ((a b : ℕ) → a * 8 + 8 ≤ length m → b < 512 → more a b ≡ more' a b) → Grown m more' m'
grown_as g h = record { long = g.long; places = λ a b p q. g.places a b p q ∙ rw (h a b p q) }

-- a loop's turns: turn j sets the places of h whose key is j
module _ (key : ℕ → ℕ → ℕ) (h : Leads) (m₀ : List ℕ) where
  abbrev pub Turns : ℕ → List ℕ → Type 0
  Turns j m = Grown m₀ (λ a b. ltb (key a b) j && h a b) m

  pub turns_start : Turns 0 m₀
  turns_start = grown_none (λ a b p q. rw (le-ltb (key a b) 0 (omega arith)))

  pub turns_on : (j : ℕ) (m m' : List ℕ) → Turns j m → Grown m (λ a b. eqb (key a b) j && h a b) m' → Turns (j + 1) m'
  turns_on j m m' r g =
      record {
        long = g.long ∙ r.long;
        places = λ a b p q.
            g.places a b (omega (arith, r.long)) q
            ∙ rw (r.places a b p q, ltb_next (key a b) j, and-or_distrib_right (ltb (key a b) j) (eqb (key a b) j) (h a b))
            (or_assoc (grid m₀ a b) (ltb (key a b) j && h a b) (eqb (key a b) j && h a b));
      }

-- word j of row i takes in the bits of v
module _ (m : List ℕ) (i j v : ℕ) where
  abbrev pub put : List ℕ
  put = set m (i * 8 + j) (bit_or (get_or m (i * 8 + j) 0) v)

  abbrev bits : Leads
  bits a b = eqb (b / 64) j && (eqb a i && bit v (b % 64))

  module _ (il : i * 8 + 8 ≤ length m) (jl : j < 8) where
    put_at : (a b : ℕ) → b < 512 → Dec (a ≡ i) → Dec (b / 64 ≡ j) → grid put a b ≡ (grid m a b || bits a b)
    unfolding grid
    put_at a b q (yes e) (yes f) =
        rw (eq-eqb a i e, eq-eqb (b / 64) j f, e, f, get_or-set_same m (i * 8 + j) _ 0 (omega arith)) (bit_or_lem _ v (b % 64))
    put_at a b q (yes e) (no f) =
        rw (ne_eqb (b / 64) j f, get_or-set_other m (i * 8 + j) (a * 8 + b / 64) _ 0 (λ z. f (omega arith))) (sym (or-false _))
    put_at a b q (no e) f =
        rw (ne_eqb a i e, and-false (eqb (b / 64) j), get_or-set_other m (i * 8 + j) (a * 8 + b / 64) _ 0 (λ z. e (omega arith)))
        (sym (or-false _))

    stored : Grown m bits put
    stored =
        record {
          long = length-set m (i * 8 + j) _;
          places = λ a b p q. put_at a b q (ℕ_discrete a i) (ℕ_discrete (b / 64) j);
        }

module _ (m : List ℕ) (a b : ℕ) where
  pub marked : a * 8 + 8 ≤ length m → b < 512 → Marked m a b (put m a (b / 64) (1 * 2 ^ (b % 64) % 2 ^ 64))
  marked al bl =
      grown_as (stored m a (b / 64) (1 * 2 ^ (b % 64) % 2 ^ 64) al (omega arith))
      (λ x y p q. rw (bit_shifted (b % 64) (y % 64) (omega arith)) (same_place (eqb x a) y b))

pub empty : (m : List ℕ) (a : ℕ) → ((j : ℕ) → j < 8 → get_or m (a * 8 + j) 0 ≡ 0) → Unmarked m a
unfolding grid
empty m a h b l = rw (h (b / 64) (omega arith)) (bit_zero (b % 64))

-- a word that is not 0 has a mark
pub marked_word : (m : List ℕ) (a j : ℕ) → j < 8 → get_or m (a * 8 + j) 0 < 2 ^ 64 → Unmarked m a → get_or m (a * 8 + j) 0 ≡ 0
unfolding grid
marked_word m a j h l u =
    no_bits 64 _ l
    (λ i k. let d : (j * 64 + i) / 64 ≡ j = omega arith in let e : (j * 64 + i) % 64 ≡ i = omega arith in rw (d, e) at (u (j * 64 + i) (omega arith)))

-- a row has no mark where each of its words is 0
pub row_told : (m : List ℕ) (a : ℕ) → a * 8 + 8 ≤ length m → ((i : ℕ) → get_or m i 0 < 2 ^ 64) → (r : Bool)
    → (r ≡ true) ↔ ((k : ℕ) → k < length (take (a * 8 + 8 - a * 8) (drop (a * 8) m)) → get_or (take (a * 8 + 8 - a * 8) (drop (a * 8) m)) k 0 ≡ 0)
    → (r ≡ true) ↔ Unmarked m a
row_told m a l fits r h = (
  λ e. empty m a (λ j b. sym (word j b) ∙ h.0 e j (short j b)),
  λ u. h.1 (λ k b. let k8 : k < 8 = omega (arith, length-take {A = ℕ}) in word k k8 ∙ marked_word m a k k8 (fits (a * 8 + k)) u),
)
  where
    word : (j : ℕ) → j < 8 → get_or (take (a * 8 + 8 - a * 8) (drop (a * 8) m)) j 0 ≡ get_or m (a * 8 + j) 0
    word j b = let p : j < a * 8 + 8 - a * 8 = omega arith in rw (get_or-take, get_or-drop)

    short : (j : ℕ) → j < 8 → j < length (take (a * 8 + 8 - a * 8) (drop (a * 8) m))
    short j b = omega (arith, length-take {A = ℕ}, length-drop {A = ℕ})

-- row i has taken in the words of row k below j
abbrev pub Words : List ℕ → (i k j : ℕ) → List ℕ → Type 0
Words m₀ i k = Turns (λ a b. b / 64) (λ a b. eqb a i && grid m₀ k b) m₀

module _ (m₀ : List ℕ) (i k : ℕ) where
  pub words_on : (j : ℕ) (m : List ℕ) → Words m₀ i k j m → i * 8 + 8 ≤ length m₀ → k * 8 + 8 ≤ length m₀ → j < 8
      → Words m₀ i k (j + 1) (put m i j (get_or m (k * 8 + j) 0))
  unfolding grid
  words_on j m r il kl jl =
      turns_on _ _ m₀ j m _ r
      (grown_as (stored m i j (get_or m (k * 8 + j) 0) (omega (arith, r.long)) jl)
      (λ a b p q. at_same (b / 64) j (λ z. eqb a i && bit (get_or m (k * 8 + z) 0) (b % 64))
      ∙ rw (r.places k b kl q, row_stays)))

-- the rows below i have been through round k
abbrev pub Rows : List ℕ → (k i : ℕ) → List ℕ → Type 0
Rows m₀ k = Turns (λ a b. a) (λ a b. grid m₀ a k && grid m₀ k b) m₀

pub closed_start : (m : List ℕ) (n : ℕ) → Closed m 0 n m
unfolding via
closed_start m n = record { long = refl; places = λ a b p q. sym (same_either (ltb a n) (grid m a b)) }

module _ (m₀ : List ℕ) (k n : ℕ) (m : List ℕ) (f : n * 8 ≤ length m₀) (h : n ≤ 512) (c : Closed m₀ k n m) where
  pub ways : (a b : ℕ) → a < n → b < 512 → grid m a b ≡ via (grid m₀) k a b
  ways a b p q = c.places a b (omega arith) q ∙ rw (lt-ltb a n p)

  pub closed_on : (m' : List ℕ) → k < n → Round m k n m' → Closed m₀ (k + 1) n m'
  unfolding via
  closed_on m' l r =
      record {
        long = r.long ∙ c.long;
        places = λ a b p q. r.places a b (omega (arith, c.long)) q
            ∙ by_cases (dec_lt a n)
            (λ t. rw (add-one, lt-ltb a n t, ways a b t q, ways a k t (omega arith), ways k b l q))
            (λ t. rw (le-ltb a n (omega arith)) (or-false (grid m a b) ∙ c.places a b p q ∙ rw (le-ltb a n (omega arith))));
      }

  pub lowest_is : (r : Lowest) → k ≡ n → r ≡ lowest (λ i. grid m i i) n 0 → r ≡ lowest_looped (grid m₀) n
  lowest_is r z e = e ∙ lowest_same _ _ n 0 (λ j l. ways j j (omega arith) (omega arith) ∙ rw z)

-- the search for the lowest number goes on at i
module _ (p : ℕ → Bool) (n i : ℕ) where
  low_on : i < n → lowest p (n - i) i ≡ cond (p i) (Lowest.At i) (lowest p (n - (i + 1)) (i + 1))
  unfolding lowest
  low_on h = let z : n - i ≡ suc (n - (i + 1)) = omega arith in rw (z, add-one)

  pub low_at : i < n → p i ≡ true → lowest p (n - i) i ≡ Lowest.At i
  low_at h e = low_on h ∙ rw e

  pub low_next : i < n → p i ≡ false → lowest p (n - i) i ≡ lowest p (n - (i + 1)) (i + 1)
  low_next h e = low_on h ∙ rw e

  pub low_none : n ≤ i → lowest p (n - i) i ≡ Lowest.Nowhere
  unfolding lowest
  low_none h = let z : n - i ≡ 0 = omega arith in rw z
