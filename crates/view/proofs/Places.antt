-- Where the parts of a message, a union, a newtype, an alias and a field stand. Assumes nothing.
use Prim.Native.Nat.{ℕ}
use mathlib.Core.Path.{◌≡◌, refl, sym, ap, ◌∙◌}
use mathlib.Core.List.{List}
use native.Mathlib.Omega.{arith}
use Rattle.number.specs.Grammar.{name, Grammar, give, ◌>>=◌, number, counted, Outcome, done, below, read}
use Rattle.number.specs.Answers.{next, follow}
use Rattle.number.specs.declared.Next.{Next}
use Rattle.number.proofs.Reading.{read_done, given, follow_on}
use Rattle.tree.specs.Encoding.{encoding_at}
use Rattle.slot.specs.Field.{type_at, expression_at, span_at, stored_at, limit_at, Field, field_at, fields_at}
use Rattle.slot.specs.Slot.{Message, message_at, Union, union_at, Newtype, newtype_at, Alias, alias_at}
use Rattle.slot.proofs.Whole.{field_parts_lem}
use Rattle.slot.specs.declared.Edition.{Edition}
use Rattle.view.specs.Take.{place_of}
use Rattle.view.specs.Inside.{name_count, fields_place, variants_place, terminal_place, target_place}

pub at_same : {x : Next} {n m : ℕ} → x ≡ Next.At n → x ≡ Next.At m → n ≡ m
at_same p q = cc

pub at_not : {x : Next} {n r p : ℕ} → x ≡ Next.Refused r p → x ≡ Next.At n → ⊥
at_not p q = let z : ◌≡◌ {A = ℕ} 0 1 = cc in omega arith

-- what stands at a position that has two names
pub at_place : {A : Type 0} (g : Grammar A) (s : List ℕ) {n k : ℕ} {o : Outcome A} → read g s n ≡ o → k ≡ n → read g s k ≡ o
at_place g s e q = rw q e

-- of two things, the second stands behind the first
second : {A B C : Type 0} (g : Grammar A) (h : Grammar B) (m : A → B → C) (part : C → B) → ((a : A) (b : B) → part (m a b) ≡ b)
    → (s : List ℕ) (at : ℕ) (x : C) (end : ℕ) → read (◌>>=◌ g (λ a. ◌>>=◌ h (λ b. give (m a b)))) s at ≡ done x end
    → read h s (place_of (next (read g s at))) ≡ done (part x) end
unfolding read
second g h m part same s at x end e =
    let y = read_done g _ s at x end e in
    let z = read_done h _ s y.middle x end y.rest in
    let q = given z.rest in
    at_place h s z.here (ap (λ o. place_of (next o)) y.here) ∙ ap (λ b. done b z.middle) (sym (same y.first z.first) ∙ ap part q.0) ∙ ap (done (part x)) q.1

module _ (s : List ℕ) (names body : ℕ) where
  pub fields_stand : (ed : Edition) (m : Message) (end : ℕ) → read (message_at ed names) s body ≡ done m end → read (fields_at ed names) s (fields_place s body) ≡ done m.fields end
  unfolding message_at read fields_place
  fields_stand ed m end e =
      let x = read_done span_at _ s body m end e in
      let y = read_done stored_at _ s x.middle m end x.rest in
      let z = read_done (fields_at ed names) _ s y.middle m end y.rest in
      let g = given z.rest in
      at_place (fields_at ed names) s z.here (ap place_of (follow_on (next (read span_at s body)) (λ n. next (read stored_at s n)) x.middle (ap next x.here) ∙ ap next y.here))
      ∙ ap (λ (v : Message). done v.fields z.middle) g.0 ∙ ap (done m.fields) g.1

  pub variants_stand : (ed : Edition) (u : Union) (end : ℕ) → read (union_at ed names) s body ≡ done u end → read (counted (fields_at ed names)) s (variants_place s body) ≡ done u.variants end
  unfolding union_at variants_place
  variants_stand ed u end e = second stored_at (counted (fields_at ed names)) (λ z vs. record { stored = z; variants = vs }) (λ v. v.variants) (λ a b. refl) s body u end e

  -- the first of the image's numbers is how many names there are
  module _ (named : name_count s ≡ names) where
    pub terminal_stands : (n : Newtype) (end : ℕ) → read (newtype_at names) s body ≡ done n end → read (type_at names) s (terminal_place s body) ≡ done n.terminal end
    unfolding newtype_at terminal_place
    terminal_stands n end e = rw named (second (type_at names) (type_at names) (λ i t. record { inner = i; terminal = t }) (λ v. v.terminal) (λ a b. refl) s body n end e)

    pub target_stands : (a : Alias) (end : ℕ) → read (alias_at names) s body ≡ done a end → read (expression_at names) s (target_place s body) ≡ done a.target end
    unfolding alias_at target_place
    target_stands a end e = rw named (second (counted (number name names)) (expression_at names) (λ ps t. record { parameters = ps; target = t }) (λ v. v.target) (λ x y. refl) s body a end e)

  pub inner_stands : (n : Newtype) (end : ℕ) → read (newtype_at names) s body ≡ done n end → (k : ℕ) × (read (type_at names) s body ≡ done n.inner k)
  unfolding newtype_at read
  inner_stands n end e =
      let y = read_done (type_at names) _ s body n end e in
      let z = read_done (type_at names) _ s y.middle n end y.rest in
      (y.middle, y.here ∙ ap (λ (v : Newtype). done v.inner y.middle) (given z.rest).0)

-- the type of a field, behind its name and its encoding, and the limit behind it
pub type_stands : (s : List ℕ) (ed : Edition) (names at : ℕ) (x : Field) (end : ℕ) → read (field_at ed names) s at ≡ done x end → (a b : Next)
    → a ≡ next (below names s at) → b ≡ follow a (λ n. next (read (encoding_at 32) s n))
    → (k : ℕ) × (b ≡ Next.At k) × (n : ℕ) × (read (type_at names) s k ≡ done x.type n) × (read (limit_at ed) s n ≡ done x.limit end)
type_stands s ed names at x end e a b p q =
    let f = field_parts_lem s ed names at x end e in
    (f.typed, q ∙ follow_on a _ f.coded (p ∙ ap next f.name_read) ∙ ap next f.encoding_read, f.behind, f.type_read, f.limit_read)
