-- What stands inside a slot: by the code's steps, and of a slot of each kind. Assumes nothing.
use Prim.Native.Nat.{ℕ, zero, suc}
use mathlib.Core.Path.{◌≡◌, refl, sym, ◌∙◌}
use mathlib.Core.List.{List}
use Rattle.number.specs.Grammar.{counted, done, read}
use Rattle.slot.specs.Field.{type_at, expression_at, fields_at}
use Rattle.slot.specs.Slot.{Message, message_at, Union, union_at, Newtype, newtype_at, Alias, alias_at}
use Rattle.slot.specs.declared.Edition.{Edition}
use Rattle.view.specs.Part.{part_at}
use Rattle.view.specs.Inside.{name_count, fields_place, variants_place, terminal_place, target_place, inside_of, inside_at}
use Rattle.view.specs.declared.Part.{Part}
use Rattle.view.proofs.Places.{at_place, fields_stand, variants_stand, terminal_stands, target_stands}

module _ (s starts : List ℕ) (k : ℕ) where
  pub none_inside : part_at s starts k ≡ Part.Missing → 0 ≡ inside_at s starts k
  unfolding inside_at inside_of
  none_inside e = rw e

  module _ {kind body : ℕ} (e : part_at s starts k ≡ Part.At kind body) where
    is_inside : (j r : ℕ) → kind ≡ j → r ≡ inside_of s (Part.At j body) → r ≡ inside_at s starts k
    unfolding inside_at
    is_inside j r q f = rw (e, q) f

    pub fields_at_lem : {r : ℕ} → kind ≡ 1 → r ≡ fields_place s body → r ≡ inside_at s starts k
    unfolding inside_of
    fields_at_lem q f = is_inside 1 _ q f

    pub variants_at : {r : ℕ} → kind ≡ 4 → r ≡ variants_place s body → r ≡ inside_at s starts k
    unfolding inside_of
    variants_at q f = is_inside 4 _ q f

    pub terminal_at : {r : ℕ} → kind ≡ 5 → r ≡ terminal_place s body → r ≡ inside_at s starts k
    unfolding inside_of
    terminal_at q f = is_inside 5 _ q f

    pub target_at : {r : ℕ} → kind ≡ 7 → r ≡ target_place s body → r ≡ inside_at s starts k
    unfolding inside_of
    target_at q f = is_inside 7 _ q f

    pub body_itself : (kind ≡ 1 → ⊥) → (kind ≡ 4 → ⊥) → (kind ≡ 5 → ⊥) → (kind ≡ 7 → ⊥) → body ≡ inside_at s starts k
    unfolding inside_of
    body_itself a b c d = is_inside kind body refl (other kind a b c d)
      where
        other : (j : ℕ) → (j ≡ 1 → ⊥) → (j ≡ 4 → ⊥) → (j ≡ 5 → ⊥) → (j ≡ 7 → ⊥) → body ≡ inside_of s (Part.At j body)
        other zero a b c d = refl
        other (suc zero) a b c d = absurd (a refl)
        other (suc (suc zero)) a b c d = refl
        other (suc (suc (suc zero))) a b c d = refl
        other (suc (suc (suc (suc zero)))) a b c d = absurd (b refl)
        other (suc (suc (suc (suc (suc zero))))) a b c d = absurd (c refl)
        other (suc (suc (suc (suc (suc (suc zero)))))) a b c d = refl
        other (suc (suc (suc (suc (suc (suc (suc zero))))))) a b c d = absurd (d refl)
        other (suc (suc (suc (suc (suc (suc (suc (suc j)))))))) a b c d = refl

    -- what a slot of each kind is made of stands there
    module _ {r : ℕ} (i : r ≡ inside_at s starts k) where
      pub fields_inside : kind ≡ 1 → (ed : Edition) (names : ℕ) (m : Message) (end : ℕ) → read (message_at ed names) s body ≡ done m end → read (fields_at ed names) s r ≡ done m.fields end
      fields_inside q ed names m end f = at_place (fields_at ed names) s (fields_stand s names body ed m end f) (i ∙ sym (fields_at_lem q refl))

      pub variants_inside : kind ≡ 4 → (ed : Edition) (names : ℕ) (u : Union) (end : ℕ) → read (union_at ed names) s body ≡ done u end → read (counted (fields_at ed names)) s r ≡ done u.variants end
      variants_inside q ed names u end f = at_place (counted (fields_at ed names)) s (variants_stand s names body ed u end f) (i ∙ sym (variants_at q refl))

      module _ {names : ℕ} (named : name_count s ≡ names) where
        pub terminal_inside : kind ≡ 5 → (n : Newtype) (end : ℕ) → read (newtype_at names) s body ≡ done n end → read (type_at names) s r ≡ done n.terminal end
        terminal_inside q n end f = at_place (type_at names) s (terminal_stands s names body named n end f) (i ∙ sym (terminal_at q refl))

        pub target_inside : kind ≡ 7 → (a : Alias) (end : ℕ) → read (alias_at names) s body ≡ done a end → read (expression_at names) s r ≡ done a.target end
        target_inside q a end f = at_place (expression_at names) s (target_stands s names body named a end f) (i ∙ sym (target_at q refl))
