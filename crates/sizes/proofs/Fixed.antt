-- A message is Fixed exactly when each of its fields is, and is then their sum.
use Rattle.std.specs.Prelude.{◌≡◌, refl, ℕ, ◌+◌, ◌↔◌}
use Rattle.std.proofs.Math.Path.{sym, ap, subst}
use Rattle.std.proofs.Common.{◌∙◌, arith, zero-add}
use Rattle.std.proofs.Math.Nat.{add-zero, add_assoc}
use mathlib.Core.List.{List, [], ◌∷◌}
use Rattle.std.proofs.Math.Option.{Option, none, some, some-injective}
use Rattle.slot.specs.Field.{Field}
use Rattle.slot.specs.Slot.{Message, message}
use Rattle.image.specs.Schema.{Schema, slot_of}
use Rattle.sizes.specs.Sizes.{Layout, Size, Fixed, Bounded, Open, Sized, smallest, largest, variable, both, Resolver, field_size, added, add_fields, fields_size}
use Rattle.sizes.specs.Names.{content_in, content_of, State, nothing, inserted, name_size}
use Rattle.sizes.specs.Check.{body_size, own_size, accepted, check_sizes}
use Rattle.sizes.specs.Demand.{Sizable, is_message, LastTurn, names_at, AllFixed, no_field, one_field}
use Rattle.sizes.proofs.Steps.{sized_inj, field_added}
use Rattle.sizes.proofs.Turns.{at_last}

-- a sum is Fixed only if both are
pub record BothFixed (s s' : Size) (b : ℕ) : Type 0 where
  pub first : ℕ
  pub second : ℕ
  pub first_is : s ≡ Fixed first
  pub second_is : s' ≡ Fixed second
  pub sum : b ≡ first + second

never_fixed : {A : Type 0} (l : ℕ) (h : Option ℕ) (b : ℕ) → variable l h ≡ Fixed b → A
never_fixed l (some h) b e = let z : ◌≡◌ {A = ℕ} 0 1 = cc in absurd (omega arith)
never_fixed l none b e = let z : ◌≡◌ {A = ℕ} 0 1 = cc in absurd (omega arith)

added_fixed : (s s' : Size) (b : ℕ) → added s s' ≡ Fixed b → BothFixed s s' b
added_fixed (Fixed x) (Fixed y) b e = record { first = x; second = y; first_is = refl; second_is = refl; sum = cc }
added_fixed (Fixed x) (Bounded m k) b e = never_fixed (x + m) (some (x + k)) b e
added_fixed (Fixed x) (Open m) b e = never_fixed (x + m) none b e
added_fixed (Bounded l h) s b e = never_fixed (l + smallest s) (both ◌+◌ (some h) (largest s)) b e
added_fixed (Open l) s b e = never_fixed (l + smallest s) none b e

module _ (L : Layout) (r : Resolver) where
  -- the running total was Fixed, and so is each field that is left
  abbrev FixedRest : Size → List Field → ℕ → Type 0
  FixedRest total fs b = (a : ℕ) × (c : ℕ) × (total ≡ Fixed a) × AllFixed L r fs c × (b ≡ a + c)

  fields_fixed : (fs : List Field) (total : Size) (b : ℕ) → add_fields L r total fs ≡ Sized (Fixed b) →
      FixedRest total fs b
  unfolding add_fields
  fields_fixed [] total b q = (b, 0, sized_inj q, no_field, omega arith)
  fields_fixed (f ∷ fs) total b q =
      let m = field_added L r total f fs (Fixed b) q in
      let (a, c, p, all, sum) = fields_fixed fs (added total m.size) b m.rest in
      let two = added_fixed total m.size a p in
      let mine : field_size L r f ≡ Sized (Fixed two.second) = m.worked ∙ ap (λ (x : Size). Sized x) two.second_is in
      (two.first, two.second + c, two.first_is, one_field mine all, omega arith)

  fixed_fields : {fs : List Field} {c : ℕ} → AllFixed L r fs c → (a : ℕ) (s : Size) → add_fields L r (Fixed a) fs ≡ Sized s →
      s ≡ Fixed (a + c)
  unfolding add_fields
  fixed_fields no_field a s q = sym (sized_inj q) ∙ rw add-zero
  fixed_fields (one_field {f = f} {fs = fs} {a = d} {b = c} p all) a s q =
      let m = field_added L r (Fixed a) f fs s q in
      let same : m.size ≡ Fixed d = sized_inj (sym m.worked ∙ p) in
      let rest = subst (λ x. add_fields L r (added (Fixed a) x) fs ≡ Sized s) same m.rest in
      rw (← add_assoc a d c) (fixed_fields all (a + d) s rest)

  message_fixed : (fs : List Field) (s : Size) → fields_size L r fs ≡ Sized s → (b : ℕ) → (s ≡ Fixed b) ↔ AllFixed L r fs b
  message_fixed fs s q b = (there, λ all. fixed_fields all 0 s q ∙ rw zero-add)
    where
      there : s ≡ Fixed b → AllFixed L r fs b
      there e =
          let (a, c, p, all, sum) = fields_fixed fs (Fixed 0) b (q ∙ ap (λ (x : Size). Sized x) e) in
          let z : 0 ≡ a = cc in
          let y : c ≡ b = omega arith in
          subst (AllFixed L r fs) y all

module _ (L : Layout) (S : Schema) where
  own_message : (st : State) (i : ℕ) (m : Message) → slot_of S i ≡ message m →
      own_size L S st i ≡ some (fields_size L (name_size L S st (inserted i nothing)) m.fields)
  unfolding own_size content_of body_size content_in
  own_message st i m e = rw e

  pub fixed_when_lem : (final : State) → check_sizes L S ≡ accepted final → (i : ℕ) (last : LastTurn L S i) (m : Message) →
      slot_of S i ≡ message m → (b : ℕ) →
      (final i ≡ some (Fixed b)) ↔ AllFixed L (names_at L S i last) m.fields b
  fixed_when_lem final q i last m e b =
      let (s, w, f) = at_last L S i last final q (subst Sizable (sym e) is_message) in
      let worked : fields_size L (names_at L S i last) m.fields ≡ Sized s
      = some-injective _ (Sized s) (sym (own_message last.stored i m e) ∙ w) in
      let core = message_fixed L (names_at L S i last) m.fields s worked b in
      ((λ t. core.0 (some-injective s (Fixed b) (sym f ∙ t))), λ all. f ∙ ap (λ (x : Size). some x) (core.1 all))
