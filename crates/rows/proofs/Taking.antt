-- Numbers of an accepted image, taken one after another. Assumes nothing.
use Prim.Native.Nat.{ℕ, suc, ◌+◌, ◌-◌, ◌≤◌, ◌<◌}
use mathlib.Core.Path.{◌≡◌, refl, sym, ap, ap₂, ◌∙◌}
use mathlib.Core.List.{List, [], ◌∷◌}
use native.Mathlib.Omega.{arith}
use Rattle.number.specs.Number.{number_at}
use Rattle.number.specs.Grammar.{Role, Grammar, ◌>>=◌, number, many, done, below, read}
use Rattle.number.specs.declared.Number.{Number}
use Rattle.number.proofs.InRange.{below_is}
use Rattle.number.proofs.Reading.{read_done, read_number, given, front}
use Rattle.rows.specs.Rows.{Takes}

-- a number below a limit, without the limit
in_limit : (s : List ℕ) (at limit v n : ℕ) → below limit s at ≡ done v n → number_at s at ≡ Number.Value v n
in_limit s at limit v n e = (below_is s at limit v n e).value

module _ (s : List ℕ) (at : ℕ) where
  pub taken : (v n : ℕ) → number_at s at ≡ Number.Value v n → Takes s at v n
  taken v n e limit w m f = both (sym e ∙ in_limit s at limit w m f)
    where
      both : Number.Value v n ≡ Number.Value w m → (v ≡ w) × (n ≡ m)
      both q = (cc, cc)

  pub not_taken : (r : ℕ) → number_at s at ≡ Number.Refused r → (v n : ℕ) → Takes s at v n
  not_taken r e v n limit w m f = absurd (none (sym e ∙ in_limit s at limit w m f))
    where
      none : Number.Refused r ≡ Number.Value w m → ⊥
      none q = let z : ◌≡◌ {A = ℕ} 0 1 = cc in omega arith

  -- what follows a number that was taken
  pub take_on : {A : Type 0} (role : Role) (limit : ℕ) (k : ℕ → Grammar A) (a : A) (end v n : ℕ)
      → Takes s at v n → read (◌>>=◌ (number role limit) k) s at ≡ done a end → read (k v) s n ≡ done a end
  take_on role limit k a end v n t e =
      let p = read_done (number role limit) k s at a end e in
      let q = t limit p.first p.middle (sym (read_number role limit s at) ∙ p.here) in
      ap₂ (λ (x m : ℕ). read (k x) s m) q.0 q.1 ∙ p.rest

-- A walk over a run: `passed` numbers are behind, and those still to come at p make of a what all make of a₀, where `F a xs` is
-- what the numbers xs make of a.
module _ {A B : Type 0} (F : A → List ℕ → B) (role : Role) (limit : ℕ) (s : List ℕ) where
  abbrev pub Run : (count at : ℕ) → A → (passed p : ℕ) → A → Type 0
  Run count at a₀ passed p a =
      (xs : List ℕ) (n : ℕ) → read (many count (number role limit)) s at ≡ done xs n
      → (ys : List ℕ) × (read (many (count - passed) (number role limit)) s p ≡ done ys n) × (F a₀ xs ≡ F a ys)

  pub first_run : (count at : ℕ) (a : A) → Run count at a 0 at a
  first_run count at a xs n e = let z : count - 0 ≡ count = omega arith in (xs, rw z e, refl)

  module _ (count at : ℕ) (a₀ : A) (passed p : ℕ) (a : A) (t : Run count at a₀ passed p a) where
    pub next_run : passed < count → (v q : ℕ) → Takes s p v q → (a' : A) → ((ys : List ℕ) → F a (v ∷ ys) ≡ F a' ys) → Run count at a₀ (passed + 1) q a'
    next_run h v q k a' step xs n e =
        let d : count - passed ≡ suc (count - (passed + 1)) = omega arith in
        let w = t xs n e in
        let f = front (number role limit) s (count - (passed + 1)) p w.0 n (rw d at w.1) in
        let b = k limit f.first f.middle (sym (read_number role limit s p) ∙ f.here) in (
          f.others,
          ap (λ (m : ℕ). read (many (count - (passed + 1)) (number role limit)) s m) b.1 ∙ f.rest,
          w.2 ∙ ap (F a) f.whole ∙ ap (λ (x : ℕ). F a (x ∷ f.others)) (sym b.0) ∙ step f.others,
        )

    -- at the end none is left
    pub last_run : count ≤ passed → (xs : List ℕ) (n : ℕ) → read (many count (number role limit)) s at ≡ done xs n → (F a₀ xs ≡ F a []) × (p ≡ n)
    unfolding many read
    last_run h xs n e =
        let z : count - passed ≡ 0 = omega arith in
        let w = t xs n e in
        let g = given (rw z at w.1) in
        (w.2 ∙ ap (F a) (sym g.0), g.1)
