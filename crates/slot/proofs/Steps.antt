-- Slots by the code's steps: what follows a kind. Assumes nothing.
use Prim.Native.Nat.{ℕ, ◌^◌, ◌≤◌}
use mathlib.Core.Path.{◌≡◌, sym, ap, ◌∙◌}
use mathlib.Core.List.{List}
use mathlib.Core.Option.{some}
use native.Mathlib.Omega.{arith}
use lib.ListN.{length, get_or, get_or-eq_default}
use Rattle.number.specs.Grammar.{kind, value, Grammar, give, ◌>>=◌, number, done, refused, below, read}
use Rattle.number.specs.Answers.{next, follow}
use Rattle.number.specs.declared.Next.{Next}
use Rattle.number.proofs.Reading.{number_on, number_refused, read_number, next_read, next_make}
use Rattle.number.proofs.InRange.{below_is}
use Rattle.tree.specs.TreeAt.{no_kind}
use Rattle.slot.specs.Field.{Stored, bounded, span_at, stored_table, stored_at}
use Rattle.slot.specs.declared.Edition.{Edition}
use Rattle.slot.specs.Slot.{slot_body_at, slot_at, trait_span_at}

module _ (s : List ℕ) (at : ℕ) where
  pub stored_on : (k n : ℕ) → below 4 s at ≡ done k n → next (read stored_at s at) ≡ next (read (get_or stored_table k no_kind) s n)
  unfolding stored_at
  stored_on k n e = ap next (number_on kind 4 (λ x. get_or stored_table x no_kind) s at k n e)

  pub stored_refused : (r q : ℕ) → below 4 s at ≡ refused r q → next (read stored_at s at) ≡ Next.Refused r q
  unfolding stored_at
  stored_refused r q e = ap next (number_refused kind 4 (λ x. get_or stored_table x no_kind) s at r q e)

  -- a stored size that is one number
  pub one_number : (m : ℕ → Stored) (x : Next) → x ≡ next (below (2 ^ 63) s at)
      → next (read (◌>>=◌ (number value (2 ^ 63)) (λ b. give (m b))) s at) ≡ x
  one_number m x e = next_make (number value (2 ^ 63)) m s at ∙ ap next (read_number value (2 ^ 63) s at) ∙ sym e

  pub two_numbers : (a x : Next) → a ≡ next (below (2 ^ 63) s at) → x ≡ follow a (λ n. next (read (number value (2 ^ 63)) s n))
      → next (read (◌>>=◌ (number value (2 ^ 63)) (λ b. ◌>>=◌ (number value (2 ^ 63)) (λ l. give (bounded b l)))) s at) ≡ x
  two_numbers a x e f =
      next_read (number value (2 ^ 63)) _ s at _ (λ b n. next_make (number value (2 ^ 63)) (bounded b) s n)
      ∙ ap (λ (y : Next). follow y (λ n. next (read (number value (2 ^ 63)) s n))) (ap next (read_number value (2 ^ 63) s at) ∙ sym e)
      ∙ sym f

  -- no kind of a table
  pub past_table : {A : Type 0} (table : List (Grammar A)) (k : ℕ) → length table ≤ k → next (read (get_or table k no_kind) s at) ≡ Next.Refused 4 at
  unfolding read ◌>>=◌
  past_table table k h = ap (λ (g : Grammar _). next (read g s at)) (get_or-eq_default table _ h)

  pub span_absent : (k n : ℕ) → below 2 s at ≡ done k n → k ≡ 0 → next (read trait_span_at s at) ≡ Next.At n
  unfolding trait_span_at read
  span_absent k n e z = ap next (number_on kind 2 _ s at k n e) ∙ rw z

  pub span_given : (k n : ℕ) → below 2 s at ≡ done k n → (k ≡ 0 → ⊥) → next (read trait_span_at s at) ≡ next (read span_at s n)
  unfolding trait_span_at
  span_given k n e z =
      let o : k ≡ 1 = omega (arith, (below_is s at 2 k n e).under) in
      ap next (number_on kind 2 _ s at k n e) ∙ rw o (next_make span_at some s n)

  pub span_refused : (r q : ℕ) → below 2 s at ≡ refused r q → next (read trait_span_at s at) ≡ Next.Refused r q
  unfolding trait_span_at
  span_refused r q e = ap next (number_refused kind 2 _ s at r q e)

  pub slot_on : (ed : Edition) (names k n : ℕ) → below 10 s at ≡ done k n → next (read (slot_at ed names) s at) ≡ next (read (slot_body_at ed names k) s n)
  unfolding slot_at
  slot_on ed names k n e = ap next (number_on kind 10 (slot_body_at ed names) s at k n e)

  pub slot_refused : (ed : Edition) (names r q : ℕ) → below 10 s at ≡ refused r q → next (read (slot_at ed names) s at) ≡ Next.Refused r q
  unfolding slot_at
  slot_refused ed names r q e = ap next (number_refused kind 10 (slot_body_at ed names) s at r q e)
