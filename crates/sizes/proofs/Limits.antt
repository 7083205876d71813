-- Where a field's limit bears on elements, and what the field is then. Assumes nothing.
use Rattle.std.specs.Prelude.{◌≡◌, Bool, true, false, cond}
use Rattle.std.proofs.Math.Path.{refl}
use Prim.Native.Nat.{ℕ, zero, suc}
use Rattle.std.proofs.Math.Option.{Option, none, some}
use Rattle.slot.specs.Field.{Field}
use Rattle.sizes.specs.Elements.{Element, element_of, is_plain, with_limit, limited_element}
use Rattle.sizes.specs.Sizes.{Resolver, largest, then, encoded_size, element_size, up_to, elements_size, field_alone}

no_limit : (n : ℕ) → with_limit n none ≡ none
no_limit zero = refl
no_limit (suc n) = refl

not_plain : (b : Bool) → ◌≡◌ {A = Option Element} (cond b none none) none
not_plain true = refl
not_plain false = refl

module _ (f : Field) where
  -- it bears on nothing where the type is no array, set or map, where there is none, or where Varint or ZigZag governs
  pub by_type : element_of f.type ≡ none → limited_element f ≡ none
  unfolding limited_element
  by_type e = rw (e, no_limit f.limit) (not_plain (is_plain f.encoding))

  pub by_limit : f.limit ≡ 0 → limited_element f ≡ none
  unfolding limited_element
  by_limit e = rw e (not_plain (is_plain f.encoding))

  pub by_encoding : is_plain f.encoding ≡ false → limited_element f ≡ none
  unfolding limited_element
  by_encoding e = rw e

  pub by_all : (e : Element) → is_plain f.encoding ≡ true → (f.limit ≡ 0 → ⊥) → element_of f.type ≡ some e → limited_element f ≡ some e
  unfolding limited_element
  by_all e p n q = rw (p, q) (go f.limit n)
    where
      go : (n : ℕ) → (n ≡ 0 → ⊥) → with_limit n (some e) ≡ some e
      go zero h = absurd (h refl)
      go (suc n) h = refl

  pub alone_unlimited : (r : Resolver) → limited_element f ≡ none → field_alone r f ≡ encoded_size r f.encoding f.type
  unfolding elements_size
  alone_unlimited r e = rw e

  pub alone_limited : (r : Resolver) (e : Element) → limited_element f ≡ some e → field_alone r f ≡ then (element_size r e) (λ s. up_to f.limit (largest s))
  unfolding elements_size
  alone_limited r e q = rw q
