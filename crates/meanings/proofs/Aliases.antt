-- Where the alias is that a name finds. Assumes nothing.
use Prim.Native.Nat.{ℕ, suc, ◌<◌}
use mathlib.Core.Path.{◌≡◌, refl, sym, ap, ◌∙◌}
use mathlib.Core.List.{List}
use mathlib.Core.Bool.{true, false}
use native.Mathlib.Omega.{arith}
use native.Mathlib.Decide.{dec_lt}
use lib.ListN.{get_or}
use Rattle.number.specs.Grammar.{Role, name, number, counted, done, read}
use Rattle.number.specs.Answers.{next, follow}
use Rattle.number.specs.declared.Next.{Next}
use Rattle.number.proofs.Reading.{read_done, given}
use Rattle.slot.specs.Field.{expression_at}
use Rattle.slot.specs.Slot.{Slot, empty, message, enum, flags, union, newtype, config, Alias, alias_at, alias, trait, impl, slot_kind, made, slot_body_at}
use Rattle.slot.proofs.Whole.{made_of}
use Rattle.slot.specs.declared.Edition.{Edition}
use Rattle.image.specs.Schema.{Schema, slot_of}
use Rattle.image.specs.declared.Frame.{Frame}
use Rattle.reader.specs.Reading.{is_empty, schema_of}
use Rattle.view.specs.Part.{part_at}
use Rattle.view.specs.declared.Part.{Part}
use Rattle.view.proofs.Fetching.{Behind}
use Rattle.reader.proofs.Fetching.{part_behind, not_missing}
use Rattle.view.proofs.Places.{at_same, at_not, at_place}
use Rattle.findings.specs.Meaning.{unfound, through_alias}
use Rattle.meanings.specs.Scopes.{RightAlias, Ready}
use Rattle.std.specs.Prelude.{Option, Some, None}
use Rattle.meanings.proofs.Ended.{slots_past}

no_alias : (x : Slot) → (slot_kind x ≡ 7 → ⊥) → (f : Alias → ℕ) → through_alias x f ≡ unfound
no_alias (alias a) h f = absurd (h refl)
no_alias empty h f = refl
no_alias (message m) h f = refl
no_alias (enum e) h f = refl
no_alias (flags g) h f = refl
no_alias (union u) h f = refl
no_alias (newtype n) h f = refl
no_alias config h f = refl
no_alias (trait t) h f = refl
no_alias (impl x) h f = refl

not_empty : {x : Slot} → is_empty x ≡ false → x ≡ empty → ⊥
not_empty e f = let q : true ≡ false = sym (ap is_empty f) ∙ e in let z : ◌≡◌ {A = ℕ} 0 1 = cc in omega arith

-- the parameters stand at the slot's body, the target behind them
record Held (names : ℕ) (s : List ℕ) (x : Slot) (body : ℕ) : Type 0 where
  pub held : Alias
  pub slot_is : x ≡ alias held
  pub middle : ℕ
  pub end : ℕ
  pub parameters_read : read (counted (number name names)) s body ≡ done held.parameters middle
  pub target_read : read (expression_at names) s middle ≡ done held.target end

holds : (ed : Edition) (names : ℕ) (s : List ℕ) (x : Slot) (kind body end : ℕ) → read (slot_body_at ed names kind) s body ≡ done x end → kind ≡ 7 → Held names s x body
unfolding slot_body_at alias_at read
holds ed names s x kind body end e k =
    let r : read (made alias (alias_at names)) s body ≡ done x end = rw k at e in
    let m = made_of s alias (alias_at names) body x end r in
    let y = read_done (counted (number name names)) _ s body m.held end m.reads in
    let z = read_done (expression_at names) _ s y.middle m.held end y.rest in
    let g = given z.rest in
    record {
      held = m.held;
      slot_is = m.slot_is;
      middle = y.middle;
      end = z.middle;
      parameters_read = y.here ∙ ap (λ (a : Alias). done a.parameters y.middle) g.0;
      target_read = z.here ∙ ap (λ (a : Alias). done a.target z.middle) g.0;
    }

module _ (s starts : List ℕ) (f : Frame) (finds : List ℕ) (ready : Ready s starts f finds) (n : ℕ) where
  pub alias_none : get_or finds n 0 ≡ 0 → RightAlias f.names (schema_of f.edition s) s n None
  unfolding RightAlias
  alias_none z g = rw (sym (ready.holds.entry n) ∙ z)

  module _ (slot : ℕ) (e : get_or finds n 0 ≡ suc slot) where
    finds_slot : get_or (schema_of f.edition s).finds n 0 ≡ suc slot
    finds_slot = sym (ready.holds.entry n) ∙ e

    there : slot < f.slots
    there = go (dec_lt slot f.slots)
      where
        go : Dec (slot < f.slots) → slot < f.slots
        go (yes l) = l
        go (no l) =
            absurd (not_empty (ready.promise.found n slot finds_slot) (slots_past (schema_of f.edition s) slot (omega (arith, ready.promise.count))))

    pub alias_missing : Part.Missing ≡ part_at s starts slot → (o : Option (ℕ × ℕ)) → RightAlias f.names (schema_of f.edition s) s n o
    alias_missing p o = absurd (not_missing s starts f ready.promise slot there (sym p))

    module _ (kind body : ℕ) (p : Part.At kind body ≡ part_at s starts slot) where
      behind : Behind f.edition f.names s (slot_of (schema_of f.edition s) slot) kind body
      behind = part_behind s starts f ready.promise slot there kind body (sym p)

      pub alias_other : (kind ≡ 7 → ⊥) → RightAlias f.names (schema_of f.edition s) s n None
      unfolding RightAlias
      alias_other h g = rw finds_slot (no_alias (slot_of (schema_of f.edition s) slot) (λ q. h (sym behind.kind_is ∙ q)) g)

      module _ (k : kind ≡ 7) where
        parts_of_lem : Held f.names s (slot_of (schema_of f.edition s) slot) body
        parts_of_lem = let b = behind in holds f.edition f.names s _ kind body b.end b.reads k

        module _ (r : Next) (c : (role : Role) → r ≡ follow (Next.At body) (λ q. next (read (counted (number role f.names)) s q))) where
          reached : r ≡ Next.At parts_of_lem.middle
          unfolding follow
          reached = c name ∙ ap next parts_of_lem.parameters_read

          pub alias_at_lem : (target : ℕ) → r ≡ Next.At target → RightAlias f.names (schema_of f.edition s) s n (Some (body, target))
          unfolding RightAlias
          alias_at_lem target q =
              let t = parts_of_lem in (
                slot,
                t.held,
                t.middle,
                t.end,
                finds_slot,
                t.slot_is,
                t.parameters_read,
                at_place (expression_at f.names) s t.target_read (at_same q reached),
              )

          pub alias_cut : (x y : ℕ) → r ≡ Next.Refused x y → (o : Option (ℕ × ℕ)) → RightAlias f.names (schema_of f.edition s) s n o
          alias_cut x y q o = absurd (at_not q reached)

pub alias_told : (names : ℕ) (S : Schema) (s : List ℕ) (n : ℕ) {r o : Option (ℕ × ℕ)} → r ≡ o → RightAlias names S s n r → RightAlias names S s n o
alias_told names S s n e h = rw (← e) h
