-- Nesting, level by level: where a part of the last level is refused, and a level above it. Encodings by their kinds.
-- Assumes nothing.
use Prim.Native.Nat.{ℕ, zero, suc, ◌-◌, ◌≤◌, ◌<◌}
use mathlib.Core.Path.{◌≡◌, refl, sym, ap, ◌∙◌}
use mathlib.Core.List.{List}
use native.Mathlib.Omega.{arith}
use Rattle.number.specs.Grammar.{kind, Grammar, ◌>>=◌, number, nested, too_deep, Outcome, done, refused, and_then, below, read}
use Rattle.number.specs.Answers.{next}
use Rattle.number.specs.declared.Next.{Next}
use Rattle.number.proofs.Reading.{read_bind, next_make}
use Rattle.number.proofs.InRange.{below_is}
use Rattle.tree.specs.Tree.{Tree}
use Rattle.tree.specs.Encoding.{Encoding, delta, encoding_fill, encoding_at}
use Rattle.tree.proofs.Ranges.{each}

module _ (s : List ℕ) (at kinds : ℕ) where
  pub deep_at : (A : Type 0) (k n : ℕ) → below kinds s at ≡ done k n → Next.Refused 5 at ≡ next (read (too_deep {A = A} kinds) s at)
  unfolding too_deep read ◌>>=◌ and_then
  deep_at A k n e = rw e

  pub deep_refused : (A : Type 0) (r p : ℕ) → below kinds s at ≡ refused r p → Next.Refused r p ≡ next (read (too_deep {A = A} kinds) s at)
  unfolding too_deep read ◌>>=◌ and_then
  deep_refused A r p e = rw e

  pub deep_same : (A B : Type 0) → next (read (too_deep {A = A} kinds) s at) ≡ next (read (too_deep {A = B} kinds) s at)
  deep_same A B = go (below kinds s at) refl
    where
      go : (o : Outcome ℕ) → below kinds s at ≡ o → next (read (too_deep {A = A} kinds) s at) ≡ next (read (too_deep {A = B} kinds) s at)
      go (done k n) e = sym (deep_at A k n e) ∙ deep_at B k n e
      go (refused r p) e = sym (deep_refused A r p e) ∙ deep_refused B r p e

module _ {H A : Type 0} (kinds : ℕ) (head : Grammar H) (fill : Grammar A → H → Grammar A) (s : List ℕ) (at : ℕ) where
  pub nested_deep : (levels : ℕ) → levels ≤ 0 → read (nested kinds head fill levels) s at ≡ read (too_deep kinds) s at
  unfolding nested
  nested_deep zero h = refl
  nested_deep (suc l) h = absurd (omega arith)

  pub nested_on : (levels : ℕ) → 0 < levels → read (nested kinds head fill levels) s at ≡ and_then (read head s at) (λ h n. read (fill (nested kinds head fill (levels - 1)) h) s n)
  unfolding nested
  nested_on zero h = absurd (omega arith)
  nested_on (suc l) h = let d : suc l - 1 ≡ l = omega arith in rw d (read_bind head _ s at)

-- a limit by another name
pub kinds_told : {k l : ℕ} (s : List ℕ) (at : ℕ) {m : Outcome ℕ} → k ≡ l → below k s at ≡ m → below l s at ≡ m
kinds_told s at e f = rw (← e) f

pub deep_told : {k l : ℕ} (s : List ℕ) (at : ℕ) {x : Next} → k ≡ l → x ≡ next (read (too_deep {A = Tree} k) s at) → x ≡ next (read (too_deep {A = Tree} l) s at)
deep_told s at e f = rw (← e) f

-- encodings
module _ (s : List ℕ) (at levels : ℕ) where
  encoding_body : (k n : ℕ) → 0 < levels → below 4 s at ≡ done k n → read (encoding_at levels) s at ≡ read (encoding_fill (encoding_at (levels - 1)) k) s n
  unfolding encoding_at read and_then
  encoding_body k n h e = nested_on 4 (number kind 4) encoding_fill s at levels h ∙ rw e

  pub encoding_refused : (r q : ℕ) → 0 < levels → below 4 s at ≡ refused r q → next (read (encoding_at levels) s at) ≡ Next.Refused r q
  unfolding encoding_at read and_then
  encoding_refused r q h e = ap next (nested_on 4 (number kind 4) encoding_fill s at levels h) ∙ rw e

  pub encoding_deep : levels ≤ 0 → next (read (encoding_at levels) s at) ≡ next (read (too_deep {A = Tree} 4) s at)
  unfolding encoding_at
  encoding_deep h = ap next (nested_deep 4 (number kind 4) encoding_fill s at levels h) ∙ deep_same s at 4 Encoding Tree

  pub encoding_ends : (k n : ℕ) → 0 < levels → below 4 s at ≡ done k n → (k ≡ 3 → ⊥) → next (read (encoding_at levels) s at) ≡ Next.At n
  unfolding encoding_fill read
  encoding_ends k n h e l =
      ap next (encoding_body k n h e)
      ∙ each (λ x. next (read (encoding_fill (encoding_at (levels - 1)) x) s n) ≡ Next.At n) 0 3 (refl, (refl, (refl, tt))) k (omega arith) (omega (arith, (below_is s at 4 k n e).under))

  pub encoding_on : (k n : ℕ) → 0 < levels → below 4 s at ≡ done k n → k ≡ 3 → next (read (encoding_at levels) s at) ≡ next (read (encoding_at (levels - 1)) s n)
  unfolding encoding_fill
  encoding_on k n h e l = ap next (encoding_body k n h e) ∙ rw l (next_make (encoding_at (levels - 1)) delta s n)
