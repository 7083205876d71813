-- Chains of newtypes end in an accepted image. Assumes nothing.
use Prim.Native.Nat.{ℕ}
use mathlib.Core.Path.{◌≡◌, refl, ap, ap₂, subst, ◌∙◌}
use mathlib.Core.List.Memᴰ
use mathlib.Core.List.{List, [], ◌∷◌, ◌++◌, Memᴰ}
use mathlib.Core.Bool.{true, cond, or-true}
use mathlib.Core.Logic.{⊎_elim}
use borrow.Author.Tests.{eq-eqb}
use lib.Dec.{eqb}
use Rattle.tree.specs.Tree.{Tree, Leaf, Wrap, leaf, wrap, fixed_array, pair, generic, primitive, sub_byte, semantic, named, bits_inline, qualified, optional, array, set_of, vec2, vec3, vec4, quat, mat3, mat4, map_of, result_of}
use Rattle.tree.specs.declared.Sort.TheVariants.{Resolved}
use Rattle.slot.specs.Slot.{Slot, empty, message, enum, flags, union, newtype, config, alias, trait, impl}
use Rattle.slot.specs.declared.Edition.{Edition}
use Rattle.graph.specs.Ways.{Path, step, onto, has}
use Rattle.image.specs.Schema.{Schema, slot_of}
use Rattle.image.specs.declared.Frame.{Frame}
use Rattle.loops.specs.Leads.{followed, leaf_slots, terminal_slots, slot_leads, leads}
use Rattle.loops.specs.Refusals.{OnLoop}
use Rattle.reader.specs.Reading.{reading_of, schema_of}
use Rattle.reader.specs.Promise.{Promise}
use Rattle.reader.specs.declared.Reading.{Reading}
use Rattle.reader.proofs.Telling.{exactly}
use Rattle.sizes.specs.Elements.{count_of}
use Rattle.sizes.specs.declared.Layout.{Layout}
use Rattle.sizes.specs.Names.{content_in, content_of, NamesObey}
use Rattle.sizes.specs.Lengths.{leaf_parts, wrap_parts, type_parts, terminal_parts, terminals_of, Reaches, at_once, by_way_of, NewtypesEnd}
use Rattle.sizes.proofs.Fuel as fuel

leaf_slots_lem : (l : Leaf) → leaf_parts l ≡ leaf_slots l
leaf_slots_lem (primitive p) = refl
leaf_slots_lem (sub_byte g b) = refl
leaf_slots_lem (semantic m) = refl
leaf_slots_lem (named i) = refl
leaf_slots_lem (bits_inline ns) = refl
leaf_slots_lem (qualified n) = refl

wrap_slots : (w : Wrap) (js : List ℕ) → wrap_parts (count_of w) js ≡ cond (followed w) js []
wrap_slots optional js = refl
wrap_slots array js = refl
wrap_slots set_of js = refl
wrap_slots vec2 js = refl
wrap_slots vec3 js = refl
wrap_slots vec4 js = refl
wrap_slots quat js = refl
wrap_slots mat3 js = refl
wrap_slots mat4 js = refl

-- the parts of a type are the slots that it leads to
pub type_slots : (t : Tree) → type_parts t ≡ terminal_slots t
unfolding type_parts terminal_slots
type_slots (leaf l) = leaf_slots_lem l
type_slots (wrap w t) = wrap_slots w (type_parts t) ∙ ap (λ (js : List ℕ). cond (followed w) js []) (type_slots t)
type_slots (fixed_array t k) = type_slots t
type_slots (pair map_of t u) = refl
type_slots (pair result_of t u) = ap₂ ◌++◌ (type_slots t) (type_slots u)
type_slots (generic n t) = type_slots t

member : (j : ℕ) (l : List ℕ) → Memᴰ j l → has j l ≡ true
unfolding has
member j [] m = absurd (Memᴰ.not-nil m)
member j (y ∷ l) m = ⊎_elim
    (λ e. let t = eq-eqb j y e in rw t)
    (λ q. let t = member j l q in rw t (or-true (eqb j y)))
    (Memᴰ.cases_cons m)

module _ (S : Schema) (finds : List ℕ) where
  leads_on_lem : (i j : ℕ) → Memᴰ j (terminals_of S i) → leads Resolved finds (slot_of S) i j ≡ true
  unfolding leads content_of content_in terminal_parts slot_leads
  leads_on_lem i j m = go (slot_of S i) m
    where
      go : (x : Slot) → Memᴰ j (terminal_parts (content_in S i x)) → has j (slot_leads Resolved finds x) ≡ true
      go empty m = absurd (Memᴰ.not-nil m)
      go (message y) m = absurd (Memᴰ.not-nil m)
      go (enum y) m = absurd (Memᴰ.not-nil m)
      go (flags y) m = absurd (Memᴰ.not-nil m)
      go (union y) m = absurd (Memᴰ.not-nil m)
      go (newtype y) m = member j (terminal_slots y.terminal) (subst (Memᴰ j) (type_slots y.terminal) m)
      go config m = absurd (Memᴰ.not-nil m)
      go (alias y) m = absurd (Memᴰ.not-nil m)
      go (trait y) m = absurd (Memᴰ.not-nil m)
      go (impl y) m = absurd (Memᴰ.not-nil m)

  way : {i k : ℕ} → Reaches (terminals_of S) i k → Path (leads Resolved finds (slot_of S)) i k
  way (at_once m) = step (leads_on_lem _ _ m)
  way (by_way_of m r) = onto (leads_on_lem _ _ m) (way r)

abbrev NoLoop : Schema → Type 0
NoLoop S = (i : ℕ) → OnLoop Resolved S.finds (slot_of S) i → ⊥

-- by the lists of parts, as by what leads on
by_parts : (S : Schema) → NoLoop S → NewtypesEnd S
by_parts S h i r = h i (way S S.finds r)

pub newtypes_end : (s starts : List ℕ) (f : Frame) → Promise s starts f → NewtypesEnd (schema_of f.edition s)
newtypes_end s starts f p = by_parts (schema_of f.edition s) p.newtypes

-- names go by their rule in every image that is read
pub names_obey : (L : Layout) (ed : Edition) (s : List ℕ) (f : Frame) → reading_of ed s ≡ Reading.Accepted f → NamesObey L (schema_of ed s)
names_obey L ed s f e = fuel.names_obey L (schema_of ed s) (by_parts (schema_of ed s) ((exactly ed s refl).accepted.0 (f, e)).before.newtypes)
