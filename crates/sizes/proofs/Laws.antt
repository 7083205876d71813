-- The laws by which the operations on sizes keep a relation between lengths and the two ends of a size. Demand 3 has two such
-- relations: every length lies between the ends, and the ends are lengths.
use Rattle.std.specs.Prelude.{◌≡◌, refl, ℕ, zero, suc, ◌+◌, ◌*◌, min, max, ◌≤◌, ◌⊎◌, ◌↔◌}
use Rattle.std.proofs.Common.{arith, mul-le-mul_left, mul-le-mul_right, inl, inr, ⊎_elim}
use Rattle.std.proofs.Math.Decide.{dec_le}
use Rattle.std.proofs.Math.Nat.{min-eq_left, max-eq_right}
use Rattle.std.proofs.Math.Option.{Option, none, some}
use Rattle.std.proofs.Math.Logic.{by_cases}
use Rattle.number.specs.Shortest.{groups_of}
use Rattle.number.proofs.Shortest.{groups_one, groups_some, groups_rise}
use Rattle.sizes.specs.Sizes.{both}
use Rattle.sizes.specs.Lengths.{InSpan, AtMost}
use Rattle.sizes.specs.Demand.{AtLargest}

-- ## Ways to make lengths of lengths

-- one of each
abbrev pub Plus : (P Q : ℕ → Type 0) → ℕ → Type 0
Plus P Q n = (a : ℕ) × (b : ℕ) × P a × Q b × (n ≡ a + b)

-- so many bits more
abbrev pub More : (bits : ℕ) → (P : ℕ → Type 0) → ℕ → Type 0
More k P n = (m : ℕ) × P m × (n ≡ k + m)

-- so many of them
pub data Sums (P : ℕ → Type 0) : (count n : ℕ) → Type 0 where
  no_more : Sums P 0 0
  one_more : {k n m : ℕ} → P n → Sums P k m → Sums P (suc k) (n + m)

-- a count, at most so great, in groups, and that many of them
pub record CountOf (P : ℕ → Type 0) (most n : ℕ) : Type 0 where
  pub count : ℕ
  pub few : count ≤ most
  pub bits : ℕ
  pub elements : Sums P count bits
  pub whole : n ≡ 8 * groups_of count + bits

-- one or the other
abbrev pub Either : (P Q : ℕ → Type 0) → ℕ → Type 0
Either P Q n = P n ⊎ Q n

-- between lengths and the ends of a size
abbrev pub Relation : Type 1
Relation = (lengths : ℕ → Type 0) → (smallest : ℕ) → (largest : Option ℕ) → Type 0

-- what a rounding rule makes of lengths
abbrev pub RoundedTo : (up : ℕ → ℕ) → (P : ℕ → Type 0) → ℕ → Type 0
RoundedTo up P n = (m : ℕ) × P m × (n ≡ up m)

-- a rounding rule keeps the order
abbrev pub Rising : (ℕ → ℕ) → Type 0
Rising up = (m n : ℕ) → m ≤ n → up m ≤ up n

abbrev pub upper : (up : ℕ → ℕ) → Option ℕ → Option ℕ
upper up (some h) = some (up h)
upper up none = none

pub record Laws (R : Relation) : Type 1 where
  pub rounded : (up : ℕ → ℕ) → Rising up → (P : ℕ → Type 0) (l : ℕ) (h : Option ℕ) → R P l h → R (RoundedTo up P) (up l) (upper up h)
  pub same : {P : ℕ → Type 0} (Q : ℕ → Type 0) (l : ℕ) (h : Option ℕ) → ((n : ℕ) → P n ↔ Q n) → R P l h → R Q l h
  pub exact : (b : ℕ) → R (λ n. n ≡ b) b (some b)
  pub up_from : (l : ℕ) → R (λ n. l ≤ n) l none
  pub span : (end : ℕ) → InSpan end end → R (InSpan end) 8 (some end)
  pub optional : (P : ℕ → Type 0) (l : ℕ) (h : Option ℕ) → R P l h →
      R (Either (λ n. n ≡ 1) (More 1 P)) 1 (both ◌+◌ (some 1) h)
  pub times : (k : ℕ) (P : ℕ → Type 0) (l : ℕ) (h : Option ℕ) → R P l h → R (Sums P k) (l * k) (both ◌*◌ h (some k))
  pub counted : (most : ℕ) (P : ℕ → Type 0) → R (CountOf P most) 8 none
  pub up_to : (most : ℕ) (P : ℕ → Type 0) (l h : ℕ) → R P l (some h) → R (CountOf P most) 8 (some (8 * groups_of most + h * most))
  pub dropped : (P : ℕ → Type 0) (l : ℕ) (h : Option ℕ) → R P l h → R P l none
  pub either : (P Q : ℕ → Type 0) (l m : ℕ) (h k : Option ℕ) → R P l h → R Q m k →
      R (Either P Q) (min l m) (both max h k)
  pub more : (k : ℕ) (P : ℕ → Type 0) (l : ℕ) (h : Option ℕ) → R P l h → R (More k P) (k + l) (both ◌+◌ (some k) h)
  pub plus : (P Q : ℕ → Type 0) (l m : ℕ) (h k : Option ℕ) → R P l h → R Q m k → R (Plus P Q) (l + m) (both ◌+◌ h k)

-- ## Every length lies between the ends

pub record Between (l : ℕ) (h : Option ℕ) (n : ℕ) : Type 0 where
  pub not_below : l ≤ n
  pub not_above : AtMost n h

pub record Around (P : ℕ → Type 0) (l : ℕ) (h : Option ℕ) : Type 0 where
  pub ordered : AtMost l h
  pub between : (n : ℕ) → P n → Between l h n

sums_between : (P : ℕ → Type 0) (l : ℕ) (h : Option ℕ) → ((n : ℕ) → P n → Between l h n) → {k n : ℕ} → Sums P k n →
    Between (l * k) (both ◌*◌ h (some k)) n
sums_between P l (some h) f no_more = omega arith
sums_between P l none f no_more = omega arith
sums_between P l (some h) f (one_more {n = n} p ps) = let a = f n p in let b = sums_between P l (some h) f ps in omega arith
sums_between P l none f (one_more {n = n} p ps) = let a = f n p in let b = sums_between P l none f ps in omega arith

times_ordered : (k l : ℕ) (h : Option ℕ) → AtMost l h → AtMost (l * k) (both ◌*◌ h (some k))
times_ordered k l (some h) o = mul-le-mul_right k o
times_ordered k l none o = tt

-- a count takes a group
from_eight : (count bits : ℕ) → 8 ≤ 8 * groups_of count + bits
unfolding groups_of
from_eight k n = omega (arith, groups_some 9 k)

-- a lesser count takes no more groups, and no more of a largest
within_most : (most k h n : ℕ) → k ≤ most → n ≤ h * k → 8 * groups_of k + n ≤ 8 * groups_of most + h * most
unfolding groups_of
within_most most k h n le s = omega (arith, groups_rise 9 k most le, mul-le-mul_left h le)

plus_between : (l m : ℕ) (h k : Option ℕ) (a b : ℕ) → Between l h a → Between m k b →
    Between (l + m) (both ◌+◌ h k) (a + b)
plus_between l m (some h) (some k) a b p q = omega arith
plus_between l m (some h) none a b p q = omega arith
plus_between l m none k a b p q = record { not_below = omega arith; not_above = tt }

plus_ordered : (l m : ℕ) (h k : Option ℕ) → AtMost l h → AtMost m k → AtMost (l + m) (both ◌+◌ h k)
plus_ordered l m (some h) (some k) o o' = omega arith
plus_ordered l m (some h) none o o' = tt
plus_ordered l m none k o o' = tt

left_between : (l m : ℕ) (h k : Option ℕ) (n : ℕ) → Between l h n → Between (min l m) (both max h k) n
left_between l m (some h) (some k) n p = omega arith
left_between l m (some h) none n p = omega arith
left_between l m none k n p = record { not_below = omega arith; not_above = tt }

right_between : (l m : ℕ) (h k : Option ℕ) (n : ℕ) → Between m k n → Between (min l m) (both max h k) n
right_between l m (some h) (some k) n p = omega arith
right_between l m (some h) none n p = omega arith
right_between l m none k n p = record { not_below = omega arith; not_above = tt }

either_ordered : (l m : ℕ) (h k : Option ℕ) → AtMost l h → AtMost (min l m) (both max h k)
either_ordered l m (some h) (some k) o = omega arith
either_ordered l m (some h) none o = tt
either_ordered l m none k o = tt

optional_between : (l : ℕ) (h : Option ℕ) (n : ℕ) → Between l h n → Between 1 (both ◌+◌ (some 1) h) (1 + n)
optional_between l (some h) n p = omega arith
optional_between l none n p = omega arith

absent_between : (h : Option ℕ) → Between 1 (both ◌+◌ (some 1) h) 1
absent_between (some h) = omega arith
absent_between none = omega arith

optional_ordered : (h : Option ℕ) → AtMost 1 (both ◌+◌ (some 1) h)
optional_ordered (some h) = omega arith
optional_ordered none = tt

upper_ordered : (up : ℕ → ℕ) → Rising up → (l : ℕ) (h : Option ℕ) → AtMost l h → AtMost (up l) (upper up h)
upper_ordered up rise l (some h) o = rise l h o
upper_ordered up rise l none o = tt

upper_between : (up : ℕ → ℕ) → Rising up → (l : ℕ) (h : Option ℕ) (n : ℕ) → Between l h n → Between (up l) (upper up h) (up n)
upper_between up rise l (some h) n b = record { not_below = rise l n b.not_below; not_above = rise n h b.not_above }
upper_between up rise l none n b = record { not_below = rise l n b.not_below; not_above = tt }

pub around : Laws Around
around = record {
  rounded = λ up rise P l h a. record {
    ordered = upper_ordered up rise l h a.ordered;
    between = λ n (m, p, e). rw e (upper_between up rise l h m (a.between m p));
  };
  same = λ Q l h f a. record { ordered = a.ordered; between = λ n q. a.between n ((f n).1 q) };
  exact = λ b. record { ordered = omega arith; between = λ n e. omega arith };
  up_from = λ l. record { ordered = tt; between = λ n e. omega arith };
  span = λ end e. record { ordered = e.least; between = λ n p. omega arith };
  optional = λ P l h a. record {
    ordered = optional_ordered h;
    between = λ n. ⊎_elim (λ e. rw e (absent_between h)) (λ (m, p, e). rw e (optional_between l h m (a.between m p)));
  };
  times = λ k P l h a. record { ordered = times_ordered k l h a.ordered; between = λ n s. sums_between P l h a.between s };
  counted = λ most P. record { ordered = tt; between = λ n c. rw c.whole (record { not_below = from_eight c.count c.bits; not_above = tt }) };
  up_to = λ most P l h a. record {
    ordered = from_eight most (h * most);
    between = λ n c.
        let s = (sums_between P l (some h) a.between c.elements).not_above in
        rw c.whole (record { not_below = from_eight c.count c.bits; not_above = within_most most c.count h c.bits c.few s });
  };
  dropped = λ P l h a. record { ordered = tt; between = λ n p. record { not_below = (a.between n p).not_below; not_above = tt } };
  either = λ P Q l m h k a b. record {
    ordered = either_ordered l m h k a.ordered;
    between = λ n. ⊎_elim (λ p. left_between l m h k n (a.between n p)) (λ q. right_between l m h k n (b.between n q));
  };
  more = λ k P l h a. record {
    ordered = plus_ordered k l (some k) h (omega arith) a.ordered;
    between = λ n (m, p, e). rw e (plus_between k l (some k) h k m (omega arith) (a.between m p));
  };
  plus = λ P Q l m h k a b. record {
    ordered = plus_ordered l m h k a.ordered b.ordered;
    between = λ n (x, y, p, q, e). rw e (plus_between l m h k x y (a.between x p) (b.between y q));
  };
}

-- ## The ends are lengths

pub record Ends (P : ℕ → Type 0) (l : ℕ) (h : Option ℕ) : Type 0 where
  pub low : P l
  pub high : AtLargest P h

high_map : (P Q : ℕ → Type 0) → ((n : ℕ) → P n → Q n) → (h : Option ℕ) → AtLargest P h → AtLargest Q h
high_map P Q f (some h) p = f h p
high_map P Q f none p = tt

-- by an operation on both largest
high_both : (P Q X : ℕ → Type 0) (op : ℕ → ℕ → ℕ) → ((a b : ℕ) → P a → Q b → X (op a b)) → (h k : Option ℕ) →
    AtLargest P h → AtLargest Q k → AtLargest X (both op h k)
high_both P Q X op f (some h) (some k) p q = f h k p q
high_both P Q X op f (some h) none p q = tt
high_both P Q X op f none k p q = tt

pub sums_of : (P : ℕ → Type 0) (n : ℕ) → P n → (k : ℕ) → Sums P k (n * k)
sums_of P n p zero = let e : n * 0 ≡ 0 = omega arith in rw e no_more
sums_of P n p (suc k) = let e : n * suc k ≡ n + n * k = omega arith in rw e (one_more p (sums_of P n p k))

at_min : (X : ℕ → Type 0) (a b : ℕ) → X a → X b → X (min a b)
at_min X a b p q = by_cases (dec_le a b) (λ h. rw (min-eq_left h) p) (λ h. let e : min a b ≡ b = omega arith in rw e q)

at_max : (X : ℕ → Type 0) (a b : ℕ) → X a → X b → X (max a b)
at_max X a b p q = by_cases (dec_le a b) (λ h. rw (max-eq_right h) q) (λ h. let e : max a b ≡ a = omega arith in rw e p)

one_group : 8 ≡ 8 * groups_of 0 + 0
unfolding groups_of
one_group = omega (arith, groups_one 9 0 (omega arith))

no_elements : (P : ℕ → Type 0) (most : ℕ) → CountOf P most 8
no_elements P most = record { count = 0; few = omega arith; bits = 0; elements = no_more; whole = one_group }

high_upper : (up : ℕ → ℕ) (P : ℕ → Type 0) (h : Option ℕ) → AtLargest P h → AtLargest (RoundedTo up P) (upper up h)
high_upper up P (some h) p = (h, p, refl)
high_upper up P none p = tt

pub ends : Laws Ends
ends = record {
  rounded = λ up rise P l h a. record { low = (l, a.low, refl); high = high_upper up P h a.high };
  same = λ {P} Q l h f a. record { low = (f l).0 a.low; high = high_map P Q (λ n. (f n).0) h a.high };
  exact = λ b. record { low = refl; high = refl };
  up_from = λ l. record { low = omega arith; high = tt };
  span = λ end e. record { low = omega arith; high = e };
  optional = λ P l h a. record {
    low = inl refl;
    high = high_both (λ n. n ≡ 1) P _ ◌+◌ (λ x n e p. inr (n, p, omega arith)) (some 1) h refl a.high;
  };
  times = λ k P l h a. record {
    low = sums_of P l a.low k;
    high = high_both P (λ n. n ≡ k) (Sums P k) ◌*◌ (λ n x p e. rw e (sums_of P n p k)) h (some k) a.high refl;
  };
  counted = λ most P. record { low = no_elements P most; high = tt };
  up_to = λ most P l h a. record {
    low = no_elements P most;
    high = record { count = most; few = omega arith; bits = h * most; elements = sums_of P h a.high most; whole = refl };
  };
  dropped = λ P l h a. record { low = a.low; high = tt };
  either = λ P Q l m h k a b. record {
    low = at_min (Either P Q) l m (inl a.low) (inr b.low);
    high = high_both P Q (Either P Q) max (λ x y p q. at_max (Either P Q) x y (inl p) (inr q)) h k a.high b.high;
  };
  more = λ k P l h a. record {
    low = (l, a.low, refl);
    high = high_both (λ n. n ≡ k) P (More k P) ◌+◌ (λ x n e p. (n, p, omega arith)) (some k) h refl a.high;
  };
  plus = λ P Q l m h k a b. record {
    low = (l, m, a.low, b.low, refl);
    high = high_both P Q (Plus P Q) ◌+◌ (λ x y p q. (x, y, p, q, refl)) h k a.high b.high;
  };
}
