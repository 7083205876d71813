-- Chains of aliases end in an accepted image. Assumes nothing.
use Prim.Native.Nat.{ℕ, zero, suc, ◌≤◌}
use mathlib.Core.Path.{◌≡◌, refl}
use mathlib.Core.List.{List}
use native.Mathlib.Omega.{arith}
use lib.ListN.{length, get_or, get_or-eq_default}
use Rattle.tree.specs.Tree.{Tree, leaf, wrap, fixed_array, pair, generic}
use Rattle.tree.specs.declared.Sort.TheVariants.{Expression}
use Rattle.slot.specs.Slot.{Slot, empty, message, enum, flags, union, newtype, config, Alias, alias, trait, impl}
use Rattle.image.specs.Schema.{Schema, slot_of}
use Rattle.image.specs.declared.Frame.{Frame}
use Rattle.loops.specs.Refusals.{is_not_looped}
use Rattle.loops.specs.Chains.{AllGenerics, AliasesEnd}
use Rattle.loops.proofs.Chains.{aliases_end}
use Rattle.reader.specs.Reading.{schema_of}
use Rattle.reader.specs.Promise.{Promise}
use Rattle.meanings.specs.Rank.{height_found, rank, slot_height, height, Ranked}

module _ (S : Schema) where
  module _ (h : ℕ → ℕ) (P : ℕ → Type 0) (b : ℕ) (l : (i : ℕ) → P i → h i ≤ b) where
    found_below : (f : ℕ) → ((i : ℕ) → f ≡ suc i → P i) → height_found h f ≤ b
    found_below zero p = omega arith
    found_below (suc i) p = l i (p i refl)

    rank_below : (t : Tree) → AllGenerics S.finds P t → rank S h t ≤ b
    unfolding rank AllGenerics
    rank_below (leaf x) p = omega arith
    rank_below (wrap w t) p = rank_below t p
    rank_below (fixed_array t n) p = rank_below t p
    rank_below (pair q t u) p = omega (arith, rank_below t p.0, rank_below u p.1)
    rank_below (generic n t) p = omega (arith, found_below (get_or S.finds n 0) p.0, rank_below t p.1)

  abbrev Lower : (chain : ℕ) → Type 0
  Lower chain = (b i : ℕ) → AliasesEnd S.finds (slot_of S) b i → height S chain i ≤ b

  height_below : (chain : ℕ) → Lower chain
  unfolding height AliasesEnd
  height_below zero b i e = omega arith
  height_below (suc chain) b i e = go (slot_of S i) refl (λ c j d. height_below chain c j d)
    where
      at_alias : (b : ℕ) (a : Alias) → slot_of S i ≡ alias a → AliasesEnd S.finds (slot_of S) b i → Lower chain → suc (rank S (height S chain) a.target) ≤ b
      at_alias zero a q e h = absurd (e a q)
      at_alias (suc b) a q e h = omega (arith, rank_below (height S chain) (λ j. AliasesEnd S.finds (slot_of S) b j) b (h b) a.target (e a q))

      go : (x : Slot) → slot_of S i ≡ x → Lower chain → slot_height S (height S chain) x ≤ b
      go (alias a) q h = at_alias b a q e h
      go empty q h = omega arith
      go (message m) q h = omega arith
      go (enum x) q h = omega arith
      go (flags f) q h = omega arith
      go (union u) q h = omega arith
      go (newtype n) q h = omega arith
      go config q h = omega arith
      go (trait t) q h = omega arith
      go (impl x) q h = omega arith

pub slots_past : (S : Schema) (i : ℕ) → length S.slots ≤ i → slot_of S i ≡ empty
unfolding slot_of
slots_past S i h = get_or-eq_default S.slots empty h

pub alias_ranked : (s starts : List ℕ) (f : Frame) → Promise s starts f → Ranked (schema_of f.edition s)
alias_ranked s starts f promise =
    let past : (i : ℕ) → f.slots ≤ i → slot_of (schema_of f.edition s) i ≡ empty = λ i h. slots_past (schema_of f.edition s) i (omega (arith, promise.count)) in
    let e = is_not_looped Expression (schema_of f.edition s).finds (slot_of (schema_of f.edition s)) f.slots past promise.aliases in
    record {
      ranked = λ i.
          omega (arith, height_below (schema_of f.edition s) 513 512 i (aliases_end (schema_of f.edition s).finds (slot_of (schema_of f.edition s)) f.slots past promise.few e i));
    }
