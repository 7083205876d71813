-- Lists in tables. Assumes nothing.
use Prim.Native.Nat.{ℕ, zero, suc, ◌+◌, ◌-◌, ◌≤◌, ◌<◌}
use mathlib.Core.Path.{◌≡◌, refl, sym, ap, ◌∙◌}
use mathlib.Core.List.{List, [], ◌∷◌, ◌++◌, append_assoc, append-nil}
use mathlib.Core.Logic.{by_cases}
use native.Mathlib.Omega.{arith}
use native.Mathlib.Decide.{dec_lt, ℕ_discrete}
use lib.ListN.{length, get_or, set, drop, replicate, length-set, length-replicate, length-append, get_or-append, get_or-eq_default}
use lib.Seq.{sets, sets-eq, ext_get_or, get_or-set_same, get_or-set_other, get_or-append-add, get_or-drop}
use Rattle.table.specs.Fitted.{fitted}

pub fitted_length : (n : ℕ) (l : List ℕ) → length (fitted n l) ≡ n
unfolding fitted
fitted_length zero l = refl
fitted_length (suc n) [] = ap suc (fitted_length n [])
fitted_length (suc n) (x ∷ l) = ap suc (fitted_length n l)

pub fitted_at : (n : ℕ) (l : List ℕ) (i : ℕ) → i < n → get_or (fitted n l) i 0 ≡ get_or l i 0
unfolding fitted
fitted_at zero l i h = absurd (omega arith)
fitted_at (suc n) [] zero h = refl
fitted_at (suc n) [] (suc i) h = fitted_at n [] i (omega arith)
fitted_at (suc n) (x ∷ l) zero h = refl
fitted_at (suc n) (x ∷ l) (suc i) h = fitted_at n l i (omega arith)

-- a table of zeros holds an empty list
pub zeros_fitted : (n : ℕ) → replicate n 0 ≡ fitted n []
unfolding fitted
zeros_fitted zero = refl
zeros_fitted (suc n) = ap (λ (l : List ℕ). 0 ∷ l) (zeros_fitted n)

-- the places below i are written
pub record Written (table before now : List ℕ) (i : ℕ) : Type 0 where
  pub low : i ≤ length before
  pub long : length now ≡ length before
  pub same : (k : ℕ) → k < i → get_or now k 0 ≡ get_or table k 0

pub none_written : (table before : List ℕ) → Written table before before 0
none_written table before = record { low = omega arith; long = refl; same = λ k h. absurd (omega arith) }

pub one_written : (table before now : List ℕ) (i : ℕ) (v : ℕ) → Written table before now i → i < length now → v ≡ get_or table i 0
    → Written table before (set now i v) (i + 1)
one_written table before now i v w h e =
    record {
      low = omega (arith, w.long);
      long = length-set now i v ∙ w.long;
      same = λ k l. by_cases (ℕ_discrete k i)
          (λ q. ap (λ (j : ℕ). get_or (set now i v) j 0) q ∙ get_or-set_same now i v 0 h ∙ e ∙ ap (λ (j : ℕ). get_or table j 0) (sym q))
          (λ q. get_or-set_other now i k v 0 q ∙ w.same k (omega arith));
    }

pub all_written : (table before now : List ℕ) (i : ℕ) → Written table before now i → length now ≤ i → now ≡ fitted (length before) table
all_written table before now i w h =
    ext_get_or 0 now (fitted (length before) table) (w.long ∙ sym (fitted_length (length before) table))
    (λ k l. w.same k (omega arith) ∙ sym (fitted_at (length before) table k (omega (arith, w.long))))

pub zeros_at : (n i : ℕ) → ◌≡◌ {A = ℕ} (get_or (replicate n 0) i 0) 0
zeros_at zero i = refl
zeros_at (suc n) zero = refl
zeros_at (suc n) (suc i) = zeros_at n i

-- a list written into zeros says at each place what the list says
pub written_at : (n : ℕ) (t : List ℕ) → length t ≤ n → (i : ℕ) → get_or (sets (replicate n 0) 0 t) i 0 ≡ get_or t i 0
written_at n t h i =
    ap (λ (l : List ℕ). get_or l i 0) (sets-eq t (replicate n 0) 0 (rw (length-replicate {A = ℕ} n 0) (omega arith)))
    ∙ by_cases (dec_lt i (length t))
    (λ k. get_or-append t (drop (0 + length t) (replicate n 0)) 0 i k)
    (λ k. past i (omega arith) ∙ sym (get_or-eq_default t 0 {n = i} (omega arith)))
  where
    past : (j : ℕ) → length t ≤ j → get_or (t ++ drop (0 + length t) (replicate n 0)) j 0 ≡ 0
    past j k =
        let e : j ≡ length t + (j - length t) = omega arith in
        ap (λ (m : ℕ). get_or (t ++ drop (0 + length t) (replicate n 0)) m 0) e
        ∙ get_or-append-add t (drop (0 + length t) (replicate n 0)) (j - length t) 0
        ∙ get_or-drop (0 + length t) (replicate n 0) (j - length t) 0
        ∙ zeros_at n _

-- with room for all of it, the list is its front
pub fitted_front : (n : ℕ) (l : List ℕ) → length l ≤ n → (rest : List ℕ) × (fitted n l ≡ l ++ rest)
unfolding fitted
fitted_front n [] h = (fitted n [], refl)
fitted_front zero (x ∷ l) h = absurd (omega arith)
fitted_front (suc n) (x ∷ l) h = let r = fitted_front n l (omega arith) in (r.0, ap (λ (k : List ℕ). x ∷ k) r.1)

-- a list that grows by one
pub fitted_next : (n : ℕ) (l : List ℕ) (v : ℕ) → set (fitted n l) (length l) v ≡ fitted n (l ++ (v ∷ []))
unfolding fitted
fitted_next zero l v = refl
fitted_next (suc n) [] v = refl
fitted_next (suc n) (x ∷ l) v = ap (λ (k : List ℕ). x ∷ k) (fitted_next n l v)

-- one run of stores after another
pub sets_append : (a b l : List ℕ) (i : ℕ) → sets l i (a ++ b) ≡ sets (sets l i a) (i + length a) b
sets_append [] b l i = ap (λ (k : ℕ). sets l k b) (omega arith)
sets_append (x ∷ a) b l i = sets_append a b (set l i x) (suc i) ∙ ap (λ (k : ℕ). sets (sets (set l i x) (suc i) a) k b) (omega arith)

-- a table that holds a list, written on
pub written_on : (n : ℕ) (l t : List ℕ) → sets (fitted n l) (length l) t ≡ fitted n (l ++ t)
written_on n l [] = ap (fitted n) (sym (append-nil l))
written_on n l (v ∷ t) =
    ap (λ (k : List ℕ). sets k (suc (length l)) t) (fitted_next n l v)
    ∙ ap (λ (i : ℕ). sets (fitted n (l ++ (v ∷ []))) i t) (omega (arith, length-append l (v ∷ [])))
    ∙ written_on n (l ++ (v ∷ [])) t
    ∙ ap (fitted n) (append_assoc l (v ∷ []) t)
