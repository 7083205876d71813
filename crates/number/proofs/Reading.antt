-- Laws of reading, for the code that goes through a grammar step by step.
--     follow-..                   cursors
--     read-bind, next-read        a sequence, from its first part; next-make: what is made of it is left out
--     read_done, next-at          a sequence that was read whole: its parts; a reading that ended
--     many-..                     a run of things, from its front
-- Assumes nothing.
use Prim.Native.Nat.{ℕ, zero, suc, ◌-◌, ◌≤◌, ◌<◌}
use mathlib.Core.Path.{◌≡◌, refl, sym, ap, ◌∙◌}
use mathlib.Core.List.{List, ◌∷◌}
use native.Mathlib.Omega.{arith}
use lib.ListN.{length}
use Rattle.number.specs.Grammar.{Role, count, Grammar, give, take, place, refuse, ◌>>=◌, number, many, counted, Outcome, done, refused, and_then, below, read}
use Rattle.number.specs.Answers.{outcome, next, follow}
use Rattle.number.specs.declared.Ranged.{Ranged}
use Rattle.number.specs.declared.Next.{Next}

pub follow_at : (x : Next) → follow x Next.At ≡ x
unfolding follow
follow_at (Next.At k) = refl
follow_at (Next.Refused r q) = refl

pub follow_on : (x : Next) (g : ℕ → Next) (n : ℕ) → x ≡ Next.At n → follow x g ≡ g n
unfolding follow
follow_on x g n e = rw e

pub follow_stop : (x : Next) (g : ℕ → Next) (r p : ℕ) → x ≡ Next.Refused r p → follow x g ≡ Next.Refused r p
unfolding follow
follow_stop x g r p e = rw e

pub follow_same : (x : Next) (g h : ℕ → Next) → ((n : ℕ) → g n ≡ h n) → follow x g ≡ follow x h
unfolding follow
follow_same (Next.At n) g h e = e n
follow_same (Next.Refused r p) g h e = refl

pub follow_follow : (x : Next) (g h : ℕ → Next) → follow (follow x g) h ≡ follow x (λ n. follow (g n) h)
unfolding follow
follow_follow (Next.At n) g h = refl
follow_follow (Next.Refused r p) g h = refl

then_same : {A B : Type 0} (m : Outcome A) (f g : A → ℕ → Outcome B) → ((a : A) (n : ℕ) → f a n ≡ g a n) → and_then m f ≡ and_then m g
unfolding and_then
then_same (done a n) f g h = h a n
then_same (refused r p) f g h = refl

then_then : {A B C : Type 0} (m : Outcome A) (f : A → ℕ → Outcome B) (g : B → ℕ → Outcome C)
    → and_then m (λ a n. and_then (f a n) g) ≡ and_then (and_then m f) g
unfolding and_then
then_then (done a n) f g = refl
then_then (refused r p) f g = refl

pub then_on : {A B : Type 0} (m : Outcome A) (f : A → ℕ → Outcome B) {a : A} {n : ℕ} → m ≡ done a n → and_then m f ≡ f a n
unfolding and_then
then_on m f e = rw e

pub then_stop : {A B : Type 0} (m : Outcome A) (f : A → ℕ → Outcome B) {r p : ℕ} → m ≡ refused r p → and_then m f ≡ refused r p
unfolding and_then
then_stop m f e = rw e

-- what was given, where a reading ends
pub given : {A : Type 0} {a b : A} {at end : ℕ} → done a at ≡ done b end → (a ≡ b) × (at ≡ end)
given e = (cc, cc)

-- what was read was not refused
pub not_done : {A : Type 0} {m : Outcome A} {r p : ℕ} {a : A} {n : ℕ} → m ≡ refused r p → m ≡ done a n → ⊥
not_done e f = let z : ◌≡◌ {A = ℕ} 0 1 = cc in omega arith

-- reading a sequence is reading its first part, and then what follows
pub read_bind : {A B : Type 0} (g : Grammar A) (f : A → Grammar B) (s : List ℕ) (at : ℕ)
    → read (◌>>=◌ g f) s at ≡ and_then (read g s at) (λ a n. read (f a) s n)
unfolding read ◌>>=◌ and_then
read_bind (give a) f s at = refl
read_bind (take role limit k) f s at =
    then_same (below limit s at) _ _ (λ v n. read_bind (k v) f s n) ∙ then_then (below limit s at) _ _
read_bind (place k) f s at = read_bind (k at) f s at
read_bind (refuse r p) f s at = refl

pub next_then : {A B : Type 0} (m : Outcome A) (f : A → ℕ → Outcome B) (g : ℕ → Next)
    → ((a : A) (n : ℕ) → next (f a n) ≡ g n) → next (and_then m f) ≡ follow (next m) g
unfolding and_then follow
next_then (done a n) f g h = h a n
next_then (refused r p) f g h = refl

-- where a sequence ends, from where its first part ends
pub next_read : {A B : Type 0} (g : Grammar A) (f : A → Grammar B) (s : List ℕ) (at : ℕ) (h : ℕ → Next)
    → ((a : A) (n : ℕ) → next (read (f a) s n) ≡ h n) → next (read (◌>>=◌ g f) s at) ≡ follow (next (read g s at)) h
next_read g f s at h e = ap next (read_bind g f s at) ∙ next_then (read g s at) _ h e

-- with something made of it, it ends where it did
pub next_make : {A B : Type 0} (g : Grammar A) (f : A → B) (s : List ℕ) (at : ℕ) → next (read (◌>>=◌ g (λ a. give (f a))) s at) ≡ next (read g s at)
unfolding read
next_make g f s at = next_read g _ s at Next.At (λ a n. refl) ∙ follow_at (next (read g s at))

-- a number by itself
pub read_number : (role : Role) (limit : ℕ) (s : List ℕ) (at : ℕ) → read (number role limit) s at ≡ below limit s at
unfolding read and_then
read_number role limit s at = itself (below limit s at)
  where
    itself : (m : Outcome ℕ) → and_then m (λ v n. done v n) ≡ m
    itself (done v n) = refl
    itself (refused r p) = refl

pub number_next : (role : Role) (limit : ℕ) (s : List ℕ) (at : ℕ) (m : Outcome ℕ) → below limit s at ≡ m → next (read (number role limit) s at) ≡ next m
number_next role limit s at m e = ap next (read_number role limit s at ∙ e)

pub number_value : (role : Role) (limit : ℕ) (s : List ℕ) (at v n : ℕ) → below limit s at ≡ done v n → (x : ℕ) {m : ℕ} → read (number role limit) s at ≡ done x m → x ≡ v
number_value role limit s at v n e x f = (given (sym f ∙ read_number role limit s at ∙ e)).0

-- what follows a number
module _ {A : Type 0} (role : Role) (limit : ℕ) (k : ℕ → Grammar A) (s : List ℕ) (at : ℕ) where
  pub number_on : (v n : ℕ) → below limit s at ≡ done v n → read (◌>>=◌ (number role limit) k) s at ≡ read (k v) s n
  unfolding read ◌>>=◌ and_then
  number_on v n e = rw e

  pub number_refused : (r p : ℕ) → below limit s at ≡ refused r p → read (◌>>=◌ (number role limit) k) s at ≡ refused r p
  unfolding read ◌>>=◌ and_then
  number_refused r p e = rw e

-- what a reader of a number told, once its answer was matched
pub told : {x y : Ranged} {m : Outcome ℕ} → outcome x ≡ m → x ≡ y → m ≡ outcome y
told e q = sym e ∙ ap outcome q

-- the parts of a sequence that was read whole
pub record Parts {A B : Type 0} (g : Grammar A) (f : A → Grammar B) (s : List ℕ) (at : ℕ) (b : B) (end : ℕ) : Type 0 where
  pub first : A
  pub middle : ℕ
  pub here : read g s at ≡ done first middle
  pub rest : read (f first) s middle ≡ done b end

pub then_done : {A B : Type 0} (m : Outcome A) (f : A → ℕ → Outcome B) {b : B} {n : ℕ}
    → and_then m f ≡ done b n → (a : A) × (k : ℕ) × (m ≡ done a k) × (f a k ≡ done b n)
unfolding and_then
then_done (done a k) f e = (a, k, refl, e)
then_done (refused r p) f e = let z : ◌≡◌ {A = ℕ} 0 1 = cc in absurd (omega arith)

pub read_done : {A B : Type 0} (g : Grammar A) (f : A → Grammar B) (s : List ℕ) (at : ℕ) (b : B) (end : ℕ)
    → read (◌>>=◌ g f) s at ≡ done b end → Parts g f s at b end
read_done g f s at b end e =
    let t = then_done (read g s at) _ (sym (read_bind g f s at) ∙ e) in
    record { first = t.0; middle = t.1; here = t.2; rest = t.3 }

pub next_at : {A : Type 0} (m : Outcome A) {n : ℕ} → next m ≡ Next.At n → (a : A) × (m ≡ done a n)
next_at (done a k) e = (a, ap (done a) (cc))
next_at (refused r p) e = let z : ◌≡◌ {A = ℕ} 0 1 = cc in absurd (omega arith)

pub next_refused : {A : Type 0} (m : Outcome A) {r p : ℕ} → next m ≡ Next.Refused r p → m ≡ refused r p
next_refused (done a k) e = let z : ◌≡◌ {A = ℕ} 0 1 = cc in absurd (omega arith)
next_refused (refused r p) e = cc

module _ {A : Type 0} (g : Grammar A) (s : List ℕ) (at : ℕ) where
  pub many_none : (left : ℕ) → left ≤ 0 → next (read (many left g) s at) ≡ Next.At at
  unfolding many read
  many_none zero h = refl
  many_none (suc left) h = absurd (omega arith)

  -- whatever the first reading gives
  pub many_first : (left : ℕ) → 0 < left → next (read (many left g) s at) ≡ follow (next (read g s at)) (λ n. next (read (many (left - 1) g) s n))
  unfolding many
  many_first zero h = absurd (omega arith)
  many_first (suc left) h =
      let d : suc left - 1 ≡ left = omega arith in
      rw d (next_read g _ s at (λ n. next (read (many left g) s n)) (λ x n. next_make (many left g) (λ xs. x ∷ xs) s n))

  pub many_on : (left : ℕ) → 0 < left → (n : ℕ) → next (read g s at) ≡ Next.At n → next (read (many left g) s at) ≡ next (read (many (left - 1) g) s n)
  many_on left h n e = many_first left h ∙ follow_on _ _ n e

  pub many_stop : (left : ℕ) → 0 < left → (r q : ℕ) → next (read g s at) ≡ Next.Refused r q → next (read (many left g) s at) ≡ Next.Refused r q
  many_stop left h r q e = many_first left h ∙ follow_stop _ _ r q e

-- a run of readings from a cursor: a turn, and the end
module _ {A : Type 0} (g : Grammar A) (s : List ℕ) (left : ℕ) where
  pub turn : 0 < left → (x y : Next) → y ≡ follow x (λ n. next (read g s n))
      → follow x (λ n. next (read (many left g) s n)) ≡ follow y (λ n. next (read (many (left - 1) g) s n))
  turn h x y e = rw e (follow_same x _ _ (λ n. many_first g s n left h) ∙ sym (follow_follow x _ _))

  pub no_turn : left ≤ 0 → (x : Next) → follow x (λ n. next (read (many left g) s n)) ≡ x
  no_turn h x = follow_same x _ Next.At (λ n. many_none g s n left h) ∙ follow_at x

-- a count, and so many things
module _ {A : Type 0} (g : Grammar A) (s : List ℕ) (at : ℕ) where
  pub counted_on : (c n : ℕ) → below 65537 s at ≡ done c n → read (counted g) s at ≡ read (many c g) s n
  unfolding counted
  counted_on c n e = number_on count 65537 (λ x. many x g) s at c n e

  pub counted_refused : (r q : ℕ) → below 65537 s at ≡ refused r q → read (counted g) s at ≡ refused r q
  unfolding counted
  counted_refused r q e = number_refused count 65537 (λ x. many x g) s at r q e

-- the code's steps through a sequence, by how many parts it has
module _ (s : List ℕ) where
  abbrev pub ends : {A : Type 0} → Grammar A → ℕ → Next
  ends g n = next (read g s n)

  step : {A B : Type 0} (g : Grammar A) (k : A → Grammar B) (cursor a r : Next) (rest : ℕ → Next) → a ≡ follow cursor (ends g)
      → ((x : A) (n : ℕ) → ends (k x) n ≡ rest n) → r ≡ follow a rest → r ≡ follow cursor (ends (◌>>=◌ g k))
  step g k cursor a r rest e h f = f ∙ rw e (follow_follow cursor _ rest ∙ follow_same cursor _ _ (λ n. sym (next_read g k s n rest h)))

  pub steps2 : {A B C : Type 0} (f : Grammar A) (g : Grammar B) (m : A → B → C) (cursor a r : Next)
      → a ≡ follow cursor (ends f) → r ≡ follow a (ends g)
      → r ≡ follow cursor (ends (◌>>=◌ f (λ x. ◌>>=◌ g (λ y. give (m x y)))))
  steps2 f g m cursor a r e h = step f _ cursor a r (ends g) e (λ x n. next_make g (m x) s n) h

  pub steps3 : {A B C D : Type 0} (f : Grammar A) (g : Grammar B) (h : Grammar C) (m : A → B → C → D) (cursor a b r : Next)
      → a ≡ follow cursor (ends f) → b ≡ follow a (ends g) → r ≡ follow b (ends h)
      → r ≡ follow cursor (ends (◌>>=◌ f (λ x. ◌>>=◌ g (λ y. ◌>>=◌ h (λ z. give (m x y z))))))
  steps3 f g h m cursor a b r e i j =
      step f _ cursor a r _ e (λ x n. next_read g _ s n (ends h) (λ y k. next_make h (m x y) s k))
      (j ∙ rw i (follow_follow a _ _))

  pub steps4 : {A B C D E : Type 0} (f : Grammar A) (g : Grammar B) (h : Grammar C) (i : Grammar D) (m : A → B → C → D → E) (cursor a b d r : Next)
      → a ≡ follow cursor (ends f) → b ≡ follow a (ends g) → d ≡ follow b (ends h) → r ≡ follow d (ends i)
      → r ≡ follow cursor (ends (◌>>=◌ f (λ x. ◌>>=◌ g (λ y. ◌>>=◌ h (λ z. ◌>>=◌ i (λ w. give (m x y z w)))))))
  steps4 f g h i m cursor a b d r e j k l =
      step f _ cursor a r _ e
      (λ x n. next_read g _ s n _ (λ y o. next_read h _ s o (ends i) (λ z p. next_make i (m x y z) s p)))
      (l ∙ rw (k, j) (simp follow_follow))

  pub steps5 : {A B C D E F : Type 0} (f : Grammar A) (g : Grammar B) (h : Grammar C) (i : Grammar D) (j : Grammar E) (m : A → B → C → D → E → F) (cursor a b d t r : Next)
      → a ≡ follow cursor (ends f) → b ≡ follow a (ends g) → d ≡ follow b (ends h) → t ≡ follow d (ends i) → r ≡ follow t (ends j)
      → r ≡ follow cursor (ends (◌>>=◌ f (λ x. ◌>>=◌ g (λ y. ◌>>=◌ h (λ z. ◌>>=◌ i (λ w. ◌>>=◌ j (λ v. give (m x y z w v))))))))
  steps5 f g h i j m cursor a b d t r e k l o q =
      step f _ cursor a r _ e
      (λ x n. next_read g _ s n _ (λ y p. next_read h _ s p _ (λ z u. next_read i _ s u (ends j) (λ w v. next_make j (m x y z w) s v))))
      (q ∙ rw (o, l, k) (simp follow_follow))

-- a run that was read whole, from its front
pub record Front {A : Type 0} (g : Grammar A) (s : List ℕ) (left at : ℕ) (xs : List A) (end : ℕ) : Type 0 where
  pub first : A
  pub others : List A
  pub middle : ℕ
  pub here : read g s at ≡ done first middle
  pub rest : read (many left g) s middle ≡ done others end
  pub whole : xs ≡ first ∷ others

pub front : {A : Type 0} (g : Grammar A) (s : List ℕ) (left at : ℕ) (xs : List A) (end : ℕ) → read (many (suc left) g) s at ≡ done xs end → Front g s left at xs end
unfolding many read
front g s left at xs end e =
    let a = read_done g _ s at xs end e in
    let b = read_done (many left g) _ s a.middle xs end a.rest in
    let q = given b.rest in
    record { first = a.first; others = b.first; middle = a.middle; here = a.here; rest = b.here ∙ ap (done b.first) q.1; whole = sym q.0 }

pub many_length : {A : Type 0} (g : Grammar A) (s : List ℕ) (left at : ℕ) (xs : List A) (n : ℕ) → read (many left g) s at ≡ done xs n → length xs ≡ left
unfolding many read
many_length g s zero at xs n e = ap length (sym (given e).0)
many_length g s (suc left) at xs n e =
    let f = front g s left at xs n e in
    rw f.whole (ap suc (many_length g s left f.middle f.others n f.rest))
