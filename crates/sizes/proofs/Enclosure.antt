-- Every length lies within the size that is worked out, and sizes are ordered, where this is so for the sizes that are stored.
use Rattle.std.specs.Prelude.{◌≡◌, Bool, true, false, cond}
use Rattle.std.proofs.Common.{subst, arith}
use Prim.Native.Nat.{ℕ, zero, suc}
use Rattle.std.proofs.Math.Logic.Iff.{symm}
use Rattle.std.proofs.Math.Option.{some, none-ne-some, some-injective}
use Rattle.image.specs.Schema.{Schema}
use Rattle.sizes.specs.Sizes.{Layout, Size, Open, Sized, Resolver, fields_size, union_size}
use Rattle.sizes.specs.Names.{Content, fields, variants, bits, terminal, anything, content_of, State, Working, nothing, inserted, content_size, name_rule, name_within, enough, name_size}
use Rattle.sizes.specs.Check.{body_size, own_size}
use Rattle.sizes.specs.Lengths.{ContentLength, SlotLength, content_parts, Encloses, Trusted}
use Rattle.sizes.proofs.Steps.{sized_inj}
use Rattle.sizes.proofs.Laws.{Around, around}
use Rattle.sizes.proofs.Rules.{named_is}
use Rattle.sizes.proofs.Sound.{On, HoldsAt, sound_message, sound_union, sound_content}

encloses : (P : ℕ → Type 0) (s : Size) → On Around P s → Encloses P s
encloses P s a = record {
  ordered = a.ordered;
  within = λ n p. record { not_below = (a.between n p).not_below; not_above = (a.between n p).not_above };
}

enclosed : (P : ℕ → Type 0) (s : Size) → Encloses P s → On Around P s
enclosed P s a = record {
  ordered = a.ordered;
  between = λ n p. record { not_below = (a.within n p).not_below; not_above = (a.within n p).not_above };
}

-- what is from 0 without largest encloses anything
around_any : (P : ℕ → Type 0) (s : Size) → Sized (Open 0) ≡ Sized s → On Around P s
around_any P s q = subst (On Around P) (sized_inj q) (record { ordered = tt; between = λ n p. omega arith })

module _ (L : Layout) (S : Schema) (st : State) (trusted : Trusted L S st) where
  stored_around : (i : ℕ) (s : Size) → st i ≡ some s → On Around (ContentLength L S (content_of S i)) s
  stored_around i s e =
      around.same (ContentLength L S (content_of S i)) _ _ (λ n. symm (named_is L S i n)) (enclosed (SlotLength L S i) s (trusted i s e))

  names_around : (k : ℕ) (w : Working) (i : ℕ) → HoldsAt Around L S (name_within L S st k w) i
  unfolding name_within name_rule
  names_around zero w i s q = around_any (SlotLength L S i) s q
  names_around (suc k) w i s q = go (w i) q (names_around k w) (names_around k (inserted i w))
    where
      beside : Resolver
      beside = name_within L S st k w

      inside : Resolver
      inside = name_within L S st k (inserted i w)

      go : (b : Bool) → cond b (Sized (Open 0)) (content_size L (st i) beside inside (content_of S i)) ≡ Sized s →
          ((j : ℕ) → HoldsAt Around L S beside j) → ((j : ℕ) → HoldsAt Around L S inside j) → On Around (SlotLength L S i) s
      go true q' h h' = around_any (SlotLength L S i) s q'
      go false q' h h' = around.same (SlotLength L S i) _ _ (named_is L S i)
          (sound_content Around around L S beside inside (content_of S i) (st i) (stored_around i) (λ j p. h j) (λ j p. h' j) s q')

  body_around : (r : Resolver) → ((j : ℕ) → HoldsAt Around L S r j) → (c : Content) (s : Size) →
      body_size L r c ≡ some (Sized s) → On Around (ContentLength L S c) s
  unfolding body_size content_parts
  body_around r names (fields fs) s q =
      sound_message Around around L S r fs (λ j p. names j) s (some-injective (fields_size L r fs) (Sized s) q)
  body_around r names (variants vs) s q =
      sound_union Around around L S r vs (λ j p. names j) s (some-injective (union_size L r vs) (Sized s) q)
  body_around r names (bits b) s q = absurd (none-ne-some (Sized s) q)
  body_around r names (terminal t) s q = absurd (none-ne-some (Sized s) q)
  body_around r names anything s q = absurd (none-ne-some (Sized s) q)

  pub own_enclosed : (i : ℕ) (s : Size) → own_size L S st i ≡ some (Sized s) → Encloses (SlotLength L S i) s
  unfolding own_size name_size
  own_enclosed i s q =
      let a = body_around (name_size L S st (inserted i nothing)) (names_around (enough S) (inserted i nothing)) (content_of S i) s q in
      encloses (SlotLength L S i) s (around.same (SlotLength L S i) _ _ (named_is L S i) a)
