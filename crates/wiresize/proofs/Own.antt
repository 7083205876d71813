-- A slot at its turn. Assumes nothing.
use Prim.Native.Nat.{ℕ, zero, suc, ◌<◌}
use mathlib.Core.Path.{◌≡◌, refl, sym, ap, fun_ext, ◌∙◌}
use mathlib.Core.List.{List}
use mathlib.Core.Bool.{Bool, true, false, ◌||◌}
use mathlib.Core.Option.{Option, none, some}
use lib.Dec.{eqb}
use lib.ListN.{get_or, set, replicate}
use Rattle.slot.specs.Slot.{Slot, empty, message, enum, flags, union, newtype, config, alias, trait, impl, Message, Union, slot_kind}
use Rattle.image.specs.Schema.{Schema, slot_of}
use Rattle.sizes.specs.declared.Layout.{Layout}
use Rattle.sizes.specs.declared.Worked.{Worked}
use Rattle.sizes.specs.declared.Worked.TheVariants.{Sized, Over}
use Rattle.sizes.specs.Sizes.{fields_size, union_size}
use Rattle.sizes.specs.Names.{content_in, content_of, State, Working, nothing, inserted, name_size}
use Rattle.sizes.specs.Check.{body_size, own_size}
use Rattle.sizes.proofs.Fuel.{inserted_is}
use Rattle.wiresize.specs.Asked.{marked, resolver, turn_of}
use Rattle.wiresize.specs.Asked.{turned_as}
use Rattle.wiresize.specs.declared.Turned.{Turned}

abbrev pub own_mark : ℕ → List Bool
own_mark i = set (replicate 512 false) i true

no_marks : (n j : ℕ) → get_or (replicate n false) j false ≡ false
no_marks zero j = refl
no_marks (suc n) zero = refl
no_marks (suc n) (suc j) = no_marks n j

own_marked : (i : ℕ) → i < 512 → marked (own_mark i) ≡ inserted i nothing
own_marked i h = fun_ext (λ j. inserted_is (replicate 512 false) i j h ∙ ap (λ (b : Bool). eqb j i || b) (no_marks 512 j))

turn_says : (w : Worked) → turn_of (turned_as w) ≡ some w
turn_says (Sized z) = refl
turn_says (Over o) = refl

pub turned_as_lem : {r : Turned} {w : Worked} {o : Option Worked} → r ≡ turned_as w → some w ≡ o → turn_of r ≡ o
turned_as_lem {w = w} e q = ap turn_of e ∙ turn_says w ∙ q

module _ (L : Layout) (S : Schema) (st : State) (i : ℕ) where
  module _ (h : i < 512) {w : Worked} where
    pub own_message : (m : Message) → slot_of S i ≡ message m → w ≡ fields_size L (resolver L S st (own_mark i)) m.fields → some w ≡ own_size L S st i
    unfolding own_size content_of content_in body_size
    own_message m e q =
        ap some (q ∙ ap (λ (u : Working). fields_size L (name_size L S st u) m.fields) (own_marked i h))
        ∙ sym (ap (λ (x : Slot). body_size L (name_size L S st (inserted i nothing)) (content_in S i x)) e)

    pub own_union : (u : Union) → slot_of S i ≡ union u → w ≡ union_size L (resolver L S st (own_mark i)) u.variants → some w ≡ own_size L S st i
    unfolding own_size content_of content_in body_size
    own_union v e q =
        ap some (q ∙ ap (λ (u : Working). union_size L (name_size L S st u) v.variants) (own_marked i h))
        ∙ sym (ap (λ (x : Slot). body_size L (name_size L S st (inserted i nothing)) (content_in S i x)) e)

  pub own_other : {k : ℕ} → slot_kind (slot_of S i) ≡ k → (k ≡ 1 → ⊥) → (k ≡ 4 → ⊥) → none ≡ own_size L S st i
  unfolding own_size content_of content_in body_size
  own_other e a b = go (slot_of S i) (λ z. a (sym e ∙ z)) (λ z. b (sym e ∙ z))
    where
      go : (x : Slot) → (slot_kind x ≡ 1 → ⊥) → (slot_kind x ≡ 4 → ⊥) → none ≡ body_size L (name_size L S st (inserted i nothing)) (content_in S i x)
      go empty a b = refl
      go (message m) a b = absurd (a refl)
      go (enum m) a b = refl
      go (flags m) a b = refl
      go (union m) a b = absurd (b refl)
      go (newtype m) a b = refl
      go config a b = refl
      go (alias m) a b = refl
      go (trait m) a b = refl
      go (impl m) a b = refl
