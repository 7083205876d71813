-- Where no slot leads back to itself by bare names, no message holds itself. Assumes nothing.
use Prim.Native.Nat.{ℕ, ◌<◌}
use native.Mathlib.Omega.{arith}
use native.Mathlib.Decide.{dec_lt}
use mathlib.Core.Path.{◌≡◌, refl, ap, ◌∙◌}
use mathlib.Core.List.{List, [], ◌∷◌}
use mathlib.Core.Logic.{by_cases}
use mathlib.Core.Bool.{Bool, true, or-true}
use borrow.Author.Tests.{eq-eqb}
use lib.ListN.{length, get_or-eq_default}
use Rattle.tree.specs.Tree.{Tree, Leaf, leaf, wrap, fixed_array, pair, generic, primitive, sub_byte, semantic, named, bits_inline, qualified}
use Rattle.slot.specs.Field.{Field}
use Rattle.slot.specs.Slot.{Slot, empty, message, enum, flags, union, newtype, config, alias, trait, impl}
use Rattle.graph.specs.Ways.{Leads, Path, step, via, lowest_looped, has}
use Rattle.graph.specs.Loops.{is_false, not_both, joined, via_path, path_via, at_none}
use Rattle.graph.specs.declared.Lowest.{Lowest}
use Rattle.image.specs.Schema.{Schema, slot_of}
use Rattle.loops.specs.Leads.{leaf_slots}
use Rattle.loops.proofs.Chains.{has_append}
use Rattle.findings.specs.Endless.{endless_of}
use Rattle.order.specs.Order.{bare_leaf, bare_type, bare_fields, bare_slot}
use Rattle.order.proofs.Ranks.{Onward, none_endless}
use Rattle.bare.specs.Bare.{type_names, fields_names, bare_names, bare_leads, is_nowhere, is_free}

-- a test that each of a slot's bare names passes
module _ (test : ℕ → Bool) where
  abbrev Pass : List ℕ → Type 0
  Pass names = (j : ℕ) → has j names ≡ true → test j ≡ true

  leaf_passes : (l : Leaf) → Pass (leaf_slots l) → bare_leaf test l ≡ true
  unfolding bare_leaf has
  leaf_passes (named j) h = h j (rw (eq-eqb j j refl))
  leaf_passes (primitive p) h = refl
  leaf_passes (sub_byte g b) h = refl
  leaf_passes (semantic m) h = refl
  leaf_passes (bits_inline ns) h = refl
  leaf_passes (qualified n) h = refl

  type_passes : (t : Tree) → Pass (type_names t) → bare_type test t ≡ true
  unfolding bare_type type_names
  type_passes (leaf l) h = leaf_passes l h
  type_passes (wrap w t) h = refl
  type_passes (fixed_array t n) h = refl
  type_passes (pair p t u) h = refl
  type_passes (generic n t) h = refl

  fields_pass : (fs : List Field) → Pass (fields_names fs) → bare_fields test fs ≡ true
  unfolding bare_fields fields_names
  fields_pass [] h = refl
  fields_pass (f ∷ fs) h =
      rw (type_passes f.type (λ j q. h j (has_append j (type_names f.type) (fields_names fs) ∙ rw q)))
      (fields_pass fs (λ j q. h j (has_append j (type_names f.type) (fields_names fs) ∙ rw q (or-true (has j (type_names f.type))))))

  slot_passes : (x : Slot) → Pass (bare_names x) → bare_slot test x ≡ true
  unfolding bare_slot bare_names
  slot_passes (message m) h = fields_pass m.fields h
  slot_passes (newtype n) h = type_passes n.inner h
  slot_passes empty h = refl
  slot_passes (enum e) h = refl
  slot_passes (flags f) h = refl
  slot_passes (union u) h = refl
  slot_passes config h = refl
  slot_passes (alias a) h = refl
  slot_passes (trait t) h = refl
  slot_passes (impl x) h = refl

module _ (S : Schema) where
  leads_from : (i j : ℕ) → bare_leads S i j ≡ true → i < length S.slots
  unfolding bare_leads bare_names slot_of has
  leads_from i j h =
      by_cases (dec_lt i (length S.slots)) (λ l. l)
      (λ l. absurd (not_both _ h (ap (λ (x : Slot). has j (bare_names x)) (get_or-eq_default S.slots empty {n = i} (omega arith)))))

  no_loop : is_free S ≡ true → (j : ℕ) → Path (bare_leads S) j j → ⊥
  unfolding is_free
  no_loop free = at_none (bare_leads S) (length S.slots) leads_from (none (lowest_looped (bare_leads S) (length S.slots)) free)
    where
      none : (r : Lowest) → is_nowhere r ≡ true → r ≡ Lowest.Nowhere
      none (Lowest.At i) h = absurd (not_both _ h refl)
      none Lowest.Nowhere h = refl

  abbrev ways : Leads
  ways = via (bare_leads S) (length S.slots)

  way : {i j : ℕ} → Path (bare_leads S) i j → ways i j ≡ true
  way = path_via (bare_leads S) (length S.slots) leads_from

  path : (i j : ℕ) → ways i j ≡ true → Path (bare_leads S) i j
  path i j = via_path (bare_leads S) (length S.slots) i j

  by_ways : is_free S ≡ true → Onward S ways
  unfolding bare_leads
  by_ways free =
      record {
        all = λ i. slot_passes (ways i) (slot_of S i) (λ j h. way (step h));
        further = λ i j k b l h. is_false _ (λ q. not_both _ (way (joined (bare_leads S) (path i j l) (path j k q))) h);
        away = λ j b. is_false _ (λ q. no_loop free j (path j j q));
      }

pub none_when_free : (S : Schema) → is_free S ≡ true → (ds : List ℕ) → endless_of S ds ≡ []
none_when_free S free ds = none_endless S (ways S) (by_ways S free) ds
