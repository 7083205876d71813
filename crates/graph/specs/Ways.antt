-- Ways through a graph of numbers, as a reader thinks of them (`Path`) and as they are computed (`via`).
use Rattle.std.specs.Prelude.{ℕ, zero, suc, ◌≡◌, List, [], ◌∷◌, Bool, true, false, cond, ◌&&◌, ◌||◌, eqb}
use Rattle.graph.specs.declared.Lowest.{Lowest}

-- which number leads to which, in one step
abbrev pub Leads : Type 0
Leads = ℕ → ℕ → Bool

-- one step or more
pub data Path (e : Leads) : ℕ → ℕ → Type 0 where
  step : {i j : ℕ} → e i j ≡ true → Path e i j
  onto : {i j k : ℕ} → e i j ≡ true → Path e j k → Path e i k

-- a way from a to b on which every number between is below n
unfoldable pub via : Leads → (n : ℕ) → Leads
via e zero a b = e a b
via e (suc k) a b = via e k a b || (via e k a k && via e k k b)

-- the lowest of `left` numbers, from one on, that a test passes
unfoldable pub lowest : (ℕ → Bool) → (left from : ℕ) → Lowest
lowest p zero i = Lowest.Nowhere
lowest p (suc n) i = cond (p i) (Lowest.At i) (lowest p n (suc i))

-- an answer that names the lowest where there is one, else another
abbrev pub if_found : {A : Type 0} → (ℕ → A) → Lowest → A → A
if_found named (Lowest.At i) other = named i
if_found named Lowest.Nowhere other = other

-- the lowest number below n that leads back to itself
abbrev pub lowest_looped : Leads → (n : ℕ) → Lowest
lowest_looped e n = lowest (λ i. via e n i i) n 0

-- from i no more than b nodes follow one another
unfoldable pub Ends : (Node : ℕ → Type 0) → Leads → (b i : ℕ) → Type 0
Ends Node e zero i = Node i → ⊥
Ends Node e (suc b) i = Node i → (j : ℕ) → e i j ≡ true → Ends Node e b j

-- is a number in a list
unfoldable pub has : ℕ → List ℕ → Bool
has x [] = false
has x (y ∷ l) = eqb x y || has x l
