-- Leaves of two bytes read as trees. Assumes nothing.
use Prim.Native.Nat.{ℕ, ◌+◌, ◌<◌, ◌≤◌}
use mathlib.Core.Path.{◌≡◌, refl, sym, ap, ◌∙◌}
use mathlib.Core.List.{List}
use mathlib.Core.Bool.{Bool, true, false, cond}
use native.Mathlib.Omega.{arith}
use lib.Dec.{ltb}
use lib.ListN.{length, get_or, get_or-eq_default}
use borrow.Author.Tests.{lt-ltb, le-ltb, ltb-true, ltb-false}
use Rattle.number.specs.Grammar.{kind, value, done, below, read}
use Rattle.number.specs.Answers.{next}
use Rattle.number.specs.declared.Next.{Next}
use Rattle.number.proofs.Reading.{number_on, then_on}
use Rattle.number.proofs.InRange.{byte_in_range}
use Rattle.tree.specs.Tree.{leaf}
use Rattle.tree.specs.TreeAt.{kinds_of, id_role, ids_of, none, body_at, head_at, fill, tree_at}
use Rattle.tree.specs.Short.{short_limits, short_limit, short_leaf, is_short}
use Rattle.tree.specs.declared.Sort.{Sort}
use Rattle.tree.specs.declared.Sort.TheVariants.{Resolved, Expression}
use Rattle.tree.proofs.Ranges.{each}
use Rattle.tree.proofs.Levels.{nested_on}

pub short_past : (k : ℕ) → 4 ≤ k → 0 ≡ short_limit k
unfolding short_limit
short_past k h = sym (get_or-eq_default short_limits 0 {n = k} h)

-- kinds that have a limit
pub limited : (k v : ℕ) → v < short_limit k → k < 4
limited k v h = go (ltb k 4) refl
  where
    go : (b : Bool) → ltb k 4 ≡ b → k < 4
    go true e = ltb-true _ _ e
    go false e = absurd (omega (arith, short_past k (ltb-false _ _ e)))

pub number_below : (k v : ℕ) → v < short_limit k → v < 128
unfolding short_limit
number_below k v h = each (λ x. v < short_limit x → v < 128) 0 4 ((λ a. omega arith), ((λ a. omega arith), ((λ a. omega arith), ((λ a. a), tt)))) k (omega arith) (limited k v h) h

-- ## The code's tests

module _ (ids : ℕ) (s : List ℕ) (at : ℕ) where
  pub too_near : length s < at + 2 → false ≡ is_short ids s at
  unfolding is_short
  too_near h = simp (lt-ltb _ _ h)

  pub no_id : at + 2 ≤ length s → (v : ℕ) → v ≡ get_or s (at + 1) 0 → ids ≤ v → false ≡ is_short ids s at
  unfolding is_short
  no_id h v e i = simp (le-ltb _ _ h, le-ltb (get_or s (at + 1) 0) ids (omega arith))

  pub by_bytes : at + 2 ≤ length s → (k v : ℕ) → k ≡ get_or s at 0 → v ≡ get_or s (at + 1) 0 → v < ids → (l : ℕ) → l ≡ short_limit k → ltb v l ≡ is_short ids s at
  unfolding is_short
  by_bytes h k v e f i l g = rw (g, e, f) (simp (le-ltb _ _ h, lt-ltb (get_or s (at + 1) 0) ids (omega arith)))

-- ## The tree that is read

some_kinds : (sort : Sort) → 4 ≤ kinds_of sort
some_kinds Resolved = omega arith
some_kinds Expression = omega arith

module _ (sort : Sort) (names : ℕ) (s : List ℕ) (at k v : ℕ) (kind_is_lem : k ≡ get_or s at 0) (number_is : v ≡ get_or s (at + 1) 0)
    (long : at + 2 ≤ length s) (limit : v < short_limit k) (id : v < ids_of sort names) where
  body_reads : (x : ℕ) → x < 4 → v < short_limit x → read (body_at sort names x) s (at + 1) ≡ done (none (short_leaf x v)) (at + 2)
  unfolding short_limit body_at read
  body_reads x l =
      each (λ y. v < short_limit y → read (body_at sort names y) s (at + 1) ≡ done (none (short_leaf y v)) (at + 2)) 0 4 (
        (λ a. number_on value 14 _ s (at + 1) v (at + 2) (last 14 (omega arith) a)),
        (
          (λ a. absurd (omega arith)),
          (
            (λ a. number_on value 6 _ s (at + 1) v (at + 2) (last 6 (omega arith) a)),
            ((λ a. number_on (id_role sort) (ids_of sort names) _ s (at + 1) v (at + 2) (last (ids_of sort names) a id)), tt),
          ),
        ),
      ) x (omega arith) (omega arith)
    where
      last : (limit : ℕ) → v < 128 → v < limit → below limit s (at + 1) ≡ done v (at + 2)
      last limit a b = let e : at + 1 + 1 ≡ at + 2 = omega arith in byte_in_range s (at + 1) limit v number_is (omega arith) a b ∙ ap (done v) e

  pub leaf_reads : (levels : ℕ) → 0 < levels → read (tree_at sort names levels) s at ≡ done (leaf (short_leaf k v)) (at + 2)
  unfolding tree_at head_at fill read
  leaf_reads levels some =
      let l = limited k v limit in
      let head : read (head_at sort names) s at ≡ done (none (short_leaf k v)) (at + 2) =
      number_on kind (kinds_of sort) (body_at sort names) s at k (at + 1)
      (byte_in_range s at (kinds_of sort) k kind_is_lem (omega arith) (omega arith) (omega (arith, some_kinds sort)))
      ∙ body_reads k l limit in
      nested_on (kinds_of sort) (head_at sort names) fill s at levels some ∙ then_on _ _ head

-- what the test tells
record Told (ids : ℕ) (s : List ℕ) (at : ℕ) : Type 0 where
  long : at + 2 ≤ length s
  known : get_or s (at + 1) 0 < ids
  limit : get_or s (at + 1) 0 < short_limit (get_or s at 0)

told : (ids : ℕ) (s : List ℕ) (at : ℕ) → is_short ids s at ≡ true → Told ids s at
unfolding is_short
told ids s at = go (ltb (length s) (at + 2)) (ltb (get_or s (at + 1) 0) ids) (ltb (get_or s (at + 1) 0) (short_limit (get_or s at 0))) refl refl refl
  where
    not_so : false ≡ true → ⊥
    not_so e = let q : ◌≡◌ {A = ℕ} 0 1 = cc in omega arith

    go : (a b c : Bool) → ltb (length s) (at + 2) ≡ a → ltb (get_or s (at + 1) 0) ids ≡ b → ltb (get_or s (at + 1) 0) (short_limit (get_or s at 0)) ≡ c
        → cond a false (cond b c false) ≡ true → Told ids s at
    go true b c x y z e = absurd (not_so e)
    go false false c x y z e = absurd (not_so e)
    go false true false x y z e = absurd (not_so e)
    go false true true x y z e = record { long = ltb-false _ _ x; known = ltb-true _ _ y; limit = ltb-true _ _ z }

pub short_within : (ids : ℕ) (s : List ℕ) (at : ℕ) → is_short ids s at ≡ true → at + 2 ≤ length s
short_within ids s at short = (told ids s at short).long

pub short_ends : (sort : Sort) (names : ℕ) (s : List ℕ) (at ids : ℕ) → ids ≡ ids_of sort names → is_short ids s at ≡ true
    → (levels : ℕ) → (levels ≡ 0 → ⊥) → Next.At (at + 2) ≡ next (read (tree_at sort names levels) s at)
short_ends sort names s at ids e short levels h =
    let t = told ids s at short in
    sym (ap next (leaf_reads sort names s at (get_or s at 0) (get_or s (at + 1) 0) refl refl t.long t.limit (omega (arith, t.known)) levels (omega arith)))
