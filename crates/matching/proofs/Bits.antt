-- Where the names of an inline bit field stand. Assumes nothing.
use Prim.Native.Nat.{ℕ, ◌≤◌}
use mathlib.Core.Path.{◌≡◌, refl, sym, ap, ◌∙◌}
use mathlib.Core.List.{List}
use mathlib.Core.Bool.{Bool, true, false, cond}
use native.Mathlib.Omega.{arith}
use lib.Dec.{ltb}
use lib.ListN.{length}
use borrow.Author.Tests.{ltb-true}
use Rattle.number.specs.Number.{number_at}
use Rattle.number.specs.Grammar.{Role, name, count, number, many, counted, done, refused, below, ranged, read}
use Rattle.number.specs.Answers.{next, follow}
use Rattle.number.specs.declared.Number.{Number}
use Rattle.number.specs.declared.Next.{Next}
use Rattle.number.proofs.Reading.{read_done, given, follow_on, many_length}
use Rattle.number.proofs.InRange.{in_range}
use Rattle.tree.specs.Tree.{bits_inline}
use Rattle.tree.specs.TreeAt.{none, kinds_of, bits_at, body_at, head_at}
use Rattle.tree.specs.declared.Sort.{Sort}
use Rattle.tree.proofs.Nodes.{head_parts}
use Rattle.view.proofs.Places.{at_same, at_not, at_place}
use Rattle.matching.specs.Steps.{NamesStart}

few_kinds : (sort : Sort) → kinds_of sort ≤ 19
few_kinds Sort.Resolved = omega arith
few_kinds Sort.Expression = omega arith

-- a number is below any greater limit
wider : (s : List ℕ) (at a b v n : ℕ) → a ≤ b → below a s at ≡ done v n → below b s at ≡ done v n
unfolding below ranged
wider s at a b v n h e = go (number_at s at) refl e
  where
    inner : (t : Bool) (w m : ℕ) → ltb w a ≡ t → number_at s at ≡ Number.Value w m → cond t (done w m) (refused 4 at) ≡ done v n → below b s at ≡ done v n
    inner true w m t q f = in_range s at b w m q (omega (arith, ltb-true w a t)) ∙ f
    inner false w m t q f = let z : ◌≡◌ {A = ℕ} 0 1 = cc in absurd (omega arith)

    go : (x : Number) → number_at s at ≡ x → ranged at a x ≡ done v n → below b s at ≡ done v n
    go (Number.Value w m) q f = inner (ltb w a) w m refl q f
    go (Number.Refused r) q f = let z : ◌≡◌ {A = ℕ} 0 1 = cc in absurd (omega arith)

module _ (s : List ℕ) (at : ℕ) (body last : Next) (e : body ≡ next (below 19 s at)) (f : (role : Role) → last ≡ follow body (λ n. next (read (number role 65537) s n))) where
  names_stand : (sort : Sort) (names : ℕ) (ns : List ℕ) (end : ℕ) → read (head_at sort names) s at ≡ done (none (bits_inline ns)) end
      → (k : ℕ) × (last ≡ Next.At k) × (read (many (length ns) (number name names)) s k ≡ done ns end)
  unfolding body_at bits_at counted read
  names_stand sort names ns end h =
      let a = head_parts s sort names at (none (bits_inline ns)) end h in
      let b = read_done (counted (number name names)) _ s a.body _ end a.body_read in
      let g = given b.rest in
      let c = read_done (number count 65537) _ s a.body _ _ b.here in
      let u : body ≡ Next.At a.body = e ∙ ap next (wider s at _ 19 16 a.body (few_kinds sort) a.kind_read) in
      let l = many_length (number name names) s c.first c.middle _ _ c.rest in
      let q : b.first ≡ ns = same g.0 in (
        c.middle,
        f count ∙ follow_on body _ a.body u ∙ ap next c.here,
        ap (λ (j : ℕ). read (many j (number name names)) s c.middle) (ap length (sym q) ∙ l) ∙ c.rest ∙ ap (λ (x : List ℕ). done x b.middle) q ∙ ap (done ns) g.1,
      )
    where
      same : {x y : List ℕ} → none (bits_inline x) ≡ none (bits_inline y) → x ≡ y
      same e = cc

  pub start_is : (k : ℕ) → last ≡ Next.At k → NamesStart s at k
  start_is k h sort names ns end q =
      let a = names_stand sort names ns end q in
      at_place (many (length ns) (number name names)) s a.2 (at_same h a.1)

  pub start_not : (r p k : ℕ) → last ≡ Next.Refused r p → NamesStart s at k
  start_not r p k h sort names ns end q = absurd (at_not h (names_stand sort names ns end q).1)
