-- Numbers taken, and what follows them. Assumes nothing.
use Prim.Native.Nat.{ℕ, ◌≤◌, ◌^◌}
use mathlib.Core.Path.{◌≡◌, sym, ap, ap₂, ◌∙◌}
use mathlib.Core.List.{List}
use native.Mathlib.Omega.{arith}
use Rattle.number.specs.Grammar.{Role, value, Grammar, ◌>>=◌, number, done, below, read}
use Rattle.number.specs.declared.Next.{Next}
use Rattle.number.proofs.InRange.{below_is, in_range}
use Rattle.number.proofs.Reading.{read_done, read_number, given}
use Rattle.slot.specs.Field.{Span, span_at}
use Rattle.view.specs.Take.{place_of, taken_of, taken_at}
use Rattle.view.specs.declared.Taken.{Taken}

-- where a cursor that was not refused stands
pub placed : {x : Next} {r n : ℕ} → r ≡ place_of x → x ≡ Next.At n → r ≡ n
placed e f = e ∙ ap place_of f

-- the number and the position after it, where one below some limit up to 2^32 stands
abbrev pub Takes : List ℕ → (at value next : ℕ) → Type 0
Takes s at v n = (limit w m : ℕ) → limit ≤ 2 ^ 32 → below limit s at ≡ done w m → (v ≡ w) × (n ≡ m)

pub takes : (s : List ℕ) (at : ℕ) {r : Taken} → r ≡ taken_at s at → Takes s at r.value r.next
takes s at e limit w m l f =
    let i = below_is s at limit w m f in
    let g = e ∙ ap taken_of (in_range s at (2 ^ 32) w m i.value (omega (arith, i.under))) in
    (ap (λ (x : Taken). x.value) g, ap (λ (x : Taken). x.next) g)

module _ (s : List ℕ) (at : ℕ) where
  -- what follows a number that was taken
  pub take_on : {A : Type 0} (role : Role) (limit : ℕ) (k : ℕ → Grammar A) (a : A) (end v n : ℕ)
      → Takes s at v n → limit ≤ 2 ^ 32 → read (◌>>=◌ (number role limit) k) s at ≡ done a end → read (k v) s n ≡ done a end
  take_on role limit k a end v n t l e =
      let p = read_done (number role limit) k s at a end e in
      let q = t limit p.first p.middle l (sym (read_number role limit s at) ∙ p.here) in
      ap₂ (λ (x m : ℕ). read (k x) s m) q.0 q.1 ∙ p.rest

pub span_taken : (s : List ℕ) (at : ℕ) (p : Span) (end o a l b : ℕ) → Takes s at o a → Takes s a l b → read span_at s at ≡ done p end
    → (◌≡◌ {A = Span} (record { offset = o; length = l }) p) × (b ≡ end)
unfolding span_at read
span_taken s at p end o a l b t u e = given (take_on s a value (2 ^ 32) _ p end l b u (omega arith) (take_on s at value (2 ^ 32) _ p end o a t (omega arith) e))
