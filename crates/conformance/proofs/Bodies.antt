-- The bodies of an impl and of a trait, number by number. Assumes nothing.
use Prim.Native.Nat.{ℕ, zero, suc, ◌≤◌, ◌^◌}
use mathlib.Core.Path.{◌≡◌, refl, sym, ap, ap₂, ◌∙◌}
use mathlib.Core.List.{List}
use mathlib.Core.Option.{Option, some}
use native.Mathlib.Omega.{arith}
use lib.ListN.{length}
use Rattle.number.specs.Grammar.{Role, kind, name, slot, count, Grammar, give, ◌>>=◌, number, many, counted, done, refused, read}
use Rattle.number.specs.Answers.{next}
use Rattle.number.specs.declared.Next.{Next}
use Rattle.number.proofs.InRange.{below_is}
use Rattle.number.proofs.Reading.{read_done, read_number, given, not_done, many_length}
use Rattle.tree.specs.TreeAt.{no_kind}
use Rattle.slot.specs.Field.{type_at, Span, span_at}
use Rattle.slot.specs.Slot.{trait_field_at, Trait, trait_at, Impl, impl_at, trait_span_at}
use Rattle.view.specs.Take.{place_of}
use Rattle.view.proofs.Taking.{placed, Takes, take_on, span_taken}
use Rattle.findings.specs.Conformance.{span_or}
use Rattle.conformance.specs.Parts.{span_of, SpanIs, ImplIs, TraitIs}
use Rattle.conformance.specs.declared.TraitSpan.{TraitSpan}

no_kind_lem : {A : Type 0} (s : List ℕ) (n : ℕ) → read (no_kind {A = A}) s n ≡ refused 4 n
unfolding read ◌>>=◌
no_kind_lem s n = refl

module _ (s : List ℕ) (at : ℕ) where
  span_made : (p : Option Span) (end o a l b : ℕ) → Takes s at o a → Takes s a l b
      → read (◌>>=◌ span_at (λ q. give (some q))) s at ≡ done p end → (some (span_of o l) ≡ p) × (b ≡ end)
  unfolding read
  span_made p end o a l b t u e =
      let x = read_done span_at _ s at p end e in
      let q = span_taken s at x.first x.middle o a l b t u x.here in
      let g = given x.rest in
      (ap some q.0 ∙ g.0, q.1 ∙ g.1)

  -- no span is given
  pub span_own : (o l v n : ℕ) → Takes s at v n → v ≡ 0 → SpanIs s at o l (record { offset = o; length = l; next = n })
  unfolding trait_span_at read
  span_own o l v n t z p end e =
      let q = given (rw z at (take_on s at kind 2 _ p end v n t (omega arith) e)) in
      (ap (λ (x : Option Span). span_or x (span_of o l)) q.0, q.1)

-- one is given
pub span_given : (s : List ℕ) (at o l v n : ℕ) → Takes s at v n → (v ≡ 0 → ⊥) → (a b d e : ℕ) → Takes s n a b → Takes s b d e
    → SpanIs s at o l (record { offset = a; length = d; next = e })
unfolding trait_span_at read
span_given s at o l zero n t z a b d e u w p end f = absurd (z refl)
span_given s at o l (suc zero) n t z a b d e u w p end f =
    let q = span_made s n p end a b d e u w (take_on s at kind 2 _ p end 1 n t (omega arith) f) in
    (ap (λ (x : Option Span). span_or x (span_of o l)) q.0, q.1)
span_given s at o l (suc (suc v)) n t z a b d e u w p end f =
    absurd (not_done (no_kind_lem s n) (take_on s at kind 2 _ p end (suc (suc v)) n t (omega arith) f))

count_few : {A : Type 0} (g : Grammar A) (s : List ℕ) (at : ℕ) (xs : List A) (end k b : ℕ) → Takes s at k b → read (counted g) s at ≡ done xs end → k ≤ 65536
unfolding counted
count_few g s at xs end k b w e =
    let p = read_done (number count 65537) (λ n. many n g) s at xs end e in
    let h = sym (read_number count 65537 s at) ∙ p.here in
    omega (arith, (w 65537 p.first p.middle (omega arith) h).0, (below_is s at 65537 p.first p.middle h).under)

module _ (s : List ℕ) (names body : ℕ) where
  pub impl_is_lem : (o a l b i d : ℕ) → Takes s body o a → Takes s a l b → Takes s b i d → (p : TraitSpan) → SpanIs s d o l p
      → (c e : ℕ) → Takes s p.next c e → (y : Next) → y ≡ next (read (many c (type_at names)) s e) → (r : ℕ) → r ≡ place_of y
      → (x : Impl) (end : ℕ) → read (impl_at names) s body ≡ done x end
      → ImplIs names s (record { offset = o; length = l; trait_id = i; trait_offset = p.offset; trait_length = p.length; type_args = e; type_arg_count = c; target_type = r }) x
  unfolding impl_at read counted
  impl_is_lem o a l b i d t u w p k c e h y q r j x end f =
      let A = read_done span_at _ s body x end f in
      let sp = span_taken s body A.first A.middle o a l b t u A.here in
      let B = take_on s A.middle slot (2 ^ 32) _ x end i d (rw (← sp.1) w) (omega arith) A.rest in
      let C = read_done trait_span_at _ s d x end B in
      let ts = k C.first C.middle C.here in
      let D = read_done (counted (type_at names)) _ s C.middle x end C.rest in
      let args = take_on s C.middle count 65537 (λ n. many n (type_at names)) D.first D.middle c e (rw (← ts.1) h) (omega arith) D.here in
      let E = read_done (type_at names) _ s D.middle x end D.rest in
      let g = given E.rest in
      let own : span_of o l ≡ x.span = sp.0 ∙ ap (λ (z : Impl). z.span) g.0 in
      record {
        span = own;
        trait_id = ap (λ (z : Impl). z.trait_id) g.0;
        trait_span = ts.0 ∙ ap₂ span_or (ap (λ (z : Impl). z.trait_span) g.0) own;
        arguments_end = D.middle;
        arguments = args ∙ ap (λ (z : Impl). done z.arguments D.middle) g.0;
        target_end = E.middle;
        target = ap (read (type_at names) s) (placed j (q ∙ ap next args)) ∙ E.here ∙ ap (λ (z : Impl). done z.target E.middle) g.0;
      }

  pub trait_is_lem : (c a : ℕ) → Takes s body c a → (y : Next) → ((role : Role) → y ≡ next (read (many c (number role names)) s a)) → (r : ℕ) → r ≡ place_of y
      → (k b : ℕ) → Takes s r k b → (t : Trait) (end : ℕ) → read (trait_at names) s body ≡ done t end
      → TraitIs names s (record { type_params = body; type_param_count = c; fields = b; field_count = k }) t
  unfolding trait_at read counted
  trait_is_lem c a t y q r j k b u x end f =
      let A = read_done (counted (number name names)) _ s body x end f in
      let ps = take_on s body count 65537 (λ n. many n (number name names)) A.first A.middle c a t (omega arith) A.here in
      let z = placed j (q name ∙ ap next ps) in
      let B = read_done (counted (trait_field_at names)) _ s A.middle x end A.rest in
      let fs = take_on s A.middle count 65537 (λ n. many n (trait_field_at names)) B.first B.middle k b (rw (← z) u) (omega arith) B.here in
      let g = given B.rest in
      let few = count_few (trait_field_at names) s r B.first B.middle k b u (rw z B.here) in
      record {
        parameters_end = A.middle;
        parameters = A.here ∙ ap (λ (w : Trait). done w.parameters A.middle) g.0;
        parameter_count = sym (many_length (number name names) s c a A.first A.middle ps) ∙ ap (λ (w : Trait). length w.parameters) g.0;
        fields_end = B.middle;
        fields = fs ∙ ap (λ (w : Trait). done w.fields B.middle) g.0;
        few = few;
      }
