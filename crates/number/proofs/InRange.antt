-- `below` by what the number's reading gave, and what is known of a number below a limit.
-- Assumes nothing.
use Prim.Native.Nat.{ℕ, ◌+◌, ◌≤◌, ◌<◌}
use mathlib.Core.Path.{◌≡◌, refl, sym, ap, ◌∙◌}
use mathlib.Core.List.{List}
use mathlib.Core.Bool.{Bool, true, false, cond}
use native.Mathlib.Omega.{arith}
use lib.ListN.{length, get_or}
use lib.Dec.{ltb}
use borrow.Author.Tests.{lt-ltb, le-ltb, le-leb, ltb-true}
use Rattle.number.specs.Number.{number_at, groups_at}
use Rattle.number.specs.Grammar.{done, refused, below, ranged}
use Rattle.number.specs.declared.Number.{Number}
use Rattle.number.proofs.Laws.{bounds}

module _ (s : List ℕ) (at limit : ℕ) where
  pub in_range : (v n : ℕ) → number_at s at ≡ Number.Value v n → v < limit → below limit s at ≡ done v n
  unfolding below ranged
  in_range v n e h = simp (e, lt-ltb _ _ h)

  pub out_of_range : (v n : ℕ) → number_at s at ≡ Number.Value v n → limit ≤ v → below limit s at ≡ refused 4 at
  unfolding below ranged
  out_of_range v n e h = simp (e, le-ltb _ _ h)

  pub no_number : (r : ℕ) → number_at s at ≡ Number.Refused r → below limit s at ≡ refused r at
  unfolding below ranged
  no_number r e = simp e

  -- a number of one byte
  one_byte : at < length s → get_or s at 0 < 128 → number_at s at ≡ Number.Value (get_or s at 0) (at + 1)
  unfolding number_at groups_at
  one_byte h b = simp (lt-ltb _ _ h, le-leb 0 (get_or s at 0) (omega arith), lt-ltb _ _ b)

  pub byte_in_range : (v : ℕ) → v ≡ get_or s at 0 → at < length s → v < 128 → v < limit → below limit s at ≡ done v (at + 1)
  byte_in_range v e h b l = in_range v (at + 1) (one_byte h (omega arith) ∙ ap (λ (w : ℕ). Number.Value w (at + 1)) (sym e)) l

  pub byte_out_of_range : (v : ℕ) → v ≡ get_or s at 0 → at < length s → v < 128 → limit ≤ v → below limit s at ≡ refused 4 at
  byte_out_of_range v e h b l = out_of_range v (at + 1) (one_byte h (omega arith) ∙ ap (λ (w : ℕ). Number.Value w (at + 1)) (sym e)) l

  -- a number below a limit: its value, where its bytes end
  pub record Below (v n : ℕ) : Type 0 where
    pub value : number_at s at ≡ Number.Value v n
    pub under : v < limit
    pub after : at < n
    pub within : n ≤ length s

  pub below_is : (v n : ℕ) → below limit s at ≡ done v n → Below v n
  unfolding below ranged
  below_is v n e = go (number_at s at) refl e
    where
      inner : (b : Bool) (w m : ℕ) → ltb w limit ≡ b → number_at s at ≡ Number.Value w m → cond b (done w m) (refused 4 at) ≡ done v n → Below v n
      inner true w m t q f =
          let i = bounds q in
          let x : v ≡ w = cc in
          let y : n ≡ m = cc in
          let l = ltb-true w limit t in
          record { value = cc; under = omega arith; after = omega (arith, i.after); within = omega (arith, i.within) }
      inner false w m t q f = let z : ◌≡◌ {A = ℕ} 0 1 = cc in absurd (omega arith)

      go : (x : Number) → number_at s at ≡ x → ranged at limit x ≡ done v n → Below v n
      go (Number.Value w m) q f = inner (ltb w limit) w m refl q f
      go (Number.Refused r) q f = let z : ◌≡◌ {A = ℕ} 0 1 = cc in absurd (omega arith)
