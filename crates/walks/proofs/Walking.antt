-- The walk on types is the walk on names, and what it leaves of the room for findings and of the slots not visited.
-- Assumes nothing.
use Prim.Native.Nat.{ℕ, zero, suc, ◌+◌, ◌*◌, ◌/◌, ◌%◌, ◌≤◌}
use mathlib.Core.Path.{◌≡◌, refl, sym, ap, subst, ◌∙◌}
use mathlib.Core.List.{List, [], ◌∷◌, ◌++◌}
use mathlib.Core.Logic.{by_cases}
use mathlib.Core.Bool.{Bool, true, false, cond, ◌&&◌}
use native.Mathlib.Omega.{arith}
use native.Mathlib.Decide.{dec_lt}
use lib.Dec.{eqb}
use lib.ListN.{length, get_or, set, length-set, get_or-eq_default}
use lib.Seq.{set_out}
use borrow.Author.Tests.{lt-ltb, le-ltb}
use Rattle.tree.specs.Tree.{Tree, Leaf, leaf, wrap, fixed_array, pair, generic, primitive, sub_byte, semantic, named, bits_inline, qualified, leaf_kind, leaf_number}
use Rattle.slot.specs.Field.{Field}
use Rattle.slot.specs.Slot.{Slot, empty, message, enum, flags, union, newtype, config, alias, trait, impl}
use Rattle.graph.specs.Loops.{weight, unvisited, spent}
use Rattle.image.specs.Schema.{Schema, slot_of}
use Rattle.findings.specs.Endless.{counted, entered, left, Walk, walk_leaf, walk_type, walk_fields, walk_variants, walk_slot, walk_name}
use Rattle.findings.specs.declared.RecursionState.{RecursionState}
use Rattle.parts.specs.Names.{all_of, leaf_names, type_names, field_names, variant_names, slot_names, is_message}
use Rattle.walks.specs.Walk.{walk_part, walk_parts, room}

-- a state over 512 slots
pub record Whole (st : RecursionState) : Type 0 where
  pub path : length st.path ≡ 512
  pub visited : length st.visited ≡ 512

-- from one state to another: at most k findings were made beyond the room that was used
pub record Moved (S : Schema) (k : ℕ) (a b : RecursionState) : Type 0 where
  pub path : length b.path ≡ length a.path
  pub visited : length b.visited ≡ length a.visited
  pub fewer : unvisited b.visited ≤ unvisited a.visited
  pub most : b.count + room S b.visited ≤ a.count + room S a.visited + k

-- how names may be walked: an id past the slots changes nothing
pub record Steady (S : Schema) (name : Walk) : Type 0 where
  pub moves : (i : ℕ) (d : Bool) (st : RecursionState) → Whole st → Moved S 1 st (name i d st)
  pub past : (i : ℕ) (d : Bool) (st : RecursionState) → 512 ≤ i → Whole st → name i d st ≡ st

pub stays : (S : Schema) (k : ℕ) (a : RecursionState) → Moved S k a a
stays S k a = record { path = refl; visited = refl; fewer = omega arith; most = omega arith }

pub whole_after : {S : Schema} {k : ℕ} {a b : RecursionState} → Moved S k a b → Whole a → Whole b
whole_after m w = record { path = m.path ∙ w.path; visited = m.visited ∙ w.visited }

and-false : (d : Bool) → false ≡ (d && false)
and-false true = refl
and-false false = refl

and-true : (d : Bool) → d ≡ (d && true)
and-true true = refl
and-true false = refl

pub entered_whole : (i : ℕ) (j : Bool) (st : RecursionState) → Whole st → Whole (entered i j st)
unfolding entered
entered_whole i true st w = record { path = length-set st.path i true ∙ w.path; visited = length-set st.visited i true ∙ w.visited }
entered_whole i false st w = record { path = w.path; visited = length-set st.visited i true ∙ w.visited }

module _ (S : Schema) (name : Walk) (steady : Steady S name) where
  pub parts_moved : (d : Bool) (ps : List ℕ) (st : RecursionState) → Whole st → Moved S (length ps) st (walk_parts name d ps st)
  unfolding walk_parts walk_part
  parts_moved d [] st w = stays S 0 st
  parts_moved d (p ∷ ps) st w =
      let m = steady.moves (p / 2) (d && eqb (p % 2) 1) st w in
      let r = parts_moved d ps (name (p / 2) (d && eqb (p % 2) 1) st) (whole_after m w) in
      record {
        path = r.path ∙ m.path;
        visited = r.visited ∙ m.visited;
        fewer = omega (arith, m.fewer, r.fewer);
        most = omega (arith, m.most, r.most);
      }

  parts_whole : (d : Bool) (ps : List ℕ) (st : RecursionState) → Whole st → Whole (walk_parts name d ps st)
  parts_whole d ps st w = whole_after (parts_moved d ps st w) w

  parts_append : (d : Bool) (k l : List ℕ) (st : RecursionState) → walk_parts name d l (walk_parts name d k st) ≡ walk_parts name d (k ++ l) st
  unfolding walk_parts
  parts_append d [] l st = refl
  parts_append d (p ∷ k) l st = parts_append d k l (walk_part name d p st)

  -- what is walked as some names, and then as others
  both_walked : (d : Bool) (k l : List ℕ) (st x y : RecursionState) → x ≡ walk_parts name d k st → y ≡ walk_parts name d l x → y ≡ walk_parts name d (k ++ l) st
  both_walked d k l st x y e f = f ∙ ap (walk_parts name d l) e ∙ parts_append d k l st

  -- a type that stands bare is as direct as what holds it, and another is not
  module _ (d : Bool) (top : ℕ) (flat : top ≤ 1) (e : Bool) (is : e ≡ (d && eqb top 1)) where
    name_walk : (i : ℕ) (st : RecursionState) → Whole st → name i e st ≡ walk_parts name d (leaf_names 3 i top) st
    unfolding walk_parts walk_part leaf_names
    name_walk i st w = by_cases (dec_lt i 512)
        (λ h. let x : (i * 2 + top) / 2 ≡ i = omega arith in let y : (i * 2 + top) % 2 ≡ top = omega arith in rw (lt-ltb i 512 h, x, y, is))
        (λ h. let k : 512 ≤ i = omega arith in rw (le-ltb i 512 k) (steady.past i e st k w))

    leaf_walk : (l : Leaf) (st : RecursionState) → Whole st → walk_leaf name e l st ≡ walk_parts name d (leaf_names (leaf_kind l) (leaf_number l) top) st
    unfolding walk_leaf walk_parts leaf_names
    leaf_walk (named i) st w = name_walk i st w
    leaf_walk (primitive p) st w = refl
    leaf_walk (sub_byte g b) st w = refl
    leaf_walk (semantic m) st w = refl
    leaf_walk (bits_inline ns) st w = refl
    leaf_walk (qualified n) st w = refl

  module _ (d : Bool) where
    inside : (t : Tree) (st : RecursionState) → Whole st → walk_type name false t st ≡ walk_parts name d (type_names 0 t) st
    unfolding walk_type type_names
    inside (leaf l) st w = leaf_walk d 0 (omega arith) false (and-false d) l st w
    inside (wrap k t) st w = inside t st w
    inside (fixed_array t n) st w = inside t st w
    inside (pair k t u) st w =
        let x = inside t st w in
        both_walked d (type_names 0 t) (type_names 0 u) st _ _ x (inside u (walk_type name false t st) (subst Whole (sym x) (parts_whole d (type_names 0 t) st w)))
    inside (generic n t) st w = inside t st w

    bare : (t : Tree) (st : RecursionState) → Whole st → walk_type name d t st ≡ walk_parts name d (type_names 1 t) st
    unfolding walk_type type_names
    bare (leaf l) st w = leaf_walk d 1 (omega arith) d (and-true d) l st w
    bare (wrap k t) st w = inside t st w
    bare (fixed_array t n) st w = inside t st w
    bare (pair k t u) st w =
        let x = inside t st w in
        both_walked d (type_names 0 t) (type_names 0 u) st _ _ x (inside u (walk_type name false t st) (subst Whole (sym x) (parts_whole d (type_names 0 t) st w)))
    bare (generic n t) st w = inside t st w

    -- fields, by how the type of one is walked
    fields_walk : (e : Bool) (top : ℕ) → ((t : Tree) (st : RecursionState) → Whole st → walk_type name e t st ≡ walk_parts name d (type_names top t) st)
        → (fs : List Field) (st : RecursionState) → Whole st → walk_fields name e fs st ≡ walk_parts name d (all_of (field_names top) fs) st
    unfolding walk_fields walk_parts all_of
    fields_walk e top h [] st w = refl
    fields_walk e top h (f ∷ fs) st w =
        let x = h f.type st w in
        both_walked d (type_names top f.type) (all_of (field_names top) fs) st _ _ x
        (fields_walk e top h fs (walk_type name e f.type st) (subst Whole (sym x) (parts_whole d (type_names top f.type) st w)))

    pub fields_bare : (fs : List Field) (st : RecursionState) → Whole st → walk_fields name d fs st ≡ walk_parts name d (all_of (field_names 1) fs) st
    fields_bare fs st w = fields_walk d 1 bare fs st w

    variants_walk : (vs : List (List Field)) (st : RecursionState) → Whole st → walk_variants name vs st ≡ walk_parts name d (all_of variant_names vs) st
    unfolding walk_variants walk_parts all_of
    variants_walk [] st w = refl
    variants_walk (v ∷ vs) st w =
        let x = fields_walk false 0 inside v st w in
        both_walked d (variant_names v) (all_of variant_names vs) st _ _ x
        (variants_walk vs (walk_fields name false v st) (subst Whole (sym x) (parts_whole d (variant_names v) st w)))

    pub slot_walk : (i : ℕ) (x : Slot) (st : RecursionState) → Whole st
        → walk_slot name i d x st ≡ left i (is_message x && d) (walk_parts name d (slot_names x) (entered i (is_message x && d) st))
    unfolding walk_slot slot_names walk_parts left
    slot_walk i (message m) st w = ap (left i d) (fields_bare m.fields (entered i d st) (entered_whole i d st w))
    slot_walk i (union u) st w = variants_walk u.variants (entered i false st) (entered_whole i false st w)
    slot_walk i (newtype n) st w = bare n.inner (entered i false st) (entered_whole i false st w)
    slot_walk i empty st w = refl
    slot_walk i (enum x) st w = refl
    slot_walk i (flags x) st w = refl
    slot_walk i config st w = refl
    slot_walk i (alias x) st w = refl
    slot_walk i (trait x) st w = refl
    slot_walk i (impl x) st w = refl

-- ## Names

-- marking a slot: its names are no more in the room
weight_taken : (w : List Bool) (f : ℕ → ℕ) (i : ℕ) → length w ≡ 512 → (512 ≤ i → f i ≡ 0) → get_or w i false ≡ false → weight (set w i true) f + f i ≡ weight w f
weight_taken w f i len h e = by_cases (dec_lt i 512)
    (λ l. spent w f i (omega arith) e)
    (λ l. let k = h (omega arith) in rw (set_out w i true (omega arith)) (omega arith))

fewer_taken : (w : List Bool) (i : ℕ) → length w ≡ 512 → get_or w i false ≡ false → unvisited (set w i true) ≤ unvisited w
fewer_taken w i len e = by_cases (dec_lt i 512)
    (λ l. omega (arith, spent w (λ j. 1) i (omega arith) e))
    (λ l. rw (set_out w i true (omega arith)) (omega arith))

module _ (S : Schema) (few : length S.slots ≤ 512) where
  past_empty : (i : ℕ) → 512 ≤ i → slot_of S i ≡ empty
  unfolding slot_of
  past_empty i h = get_or-eq_default S.slots empty {n = i} (omega arith)

  no_names : (i : ℕ) → 512 ≤ i → length (slot_names (slot_of S i)) ≡ 0
  unfolding slot_names
  no_names i h = ap (λ (x : Slot). length (slot_names x)) (past_empty i h)

  -- a slot that is entered, walked and left
  slot_moved : (i : ℕ) (j : Bool) (st a : RecursionState) → Whole st → get_or st.visited i false ≡ false
      → Moved S (length (slot_names (slot_of S i))) (entered i j st) a → Moved S 0 st (left i j a)
  unfolding entered left
  slot_moved i true st a w e m =
      record {
        path = length-set a.path i false ∙ m.path ∙ length-set st.path i true;
        visited = m.visited ∙ length-set st.visited i true;
        fewer = omega (arith, m.fewer, fewer_taken st.visited i w.visited e);
        most = omega (arith, m.most, weight_taken st.visited (λ k. length (slot_names (slot_of S k))) i w.visited (no_names i) e);
      }
  slot_moved i false st a w e m =
      record {
        path = m.path;
        visited = m.visited ∙ length-set st.visited i true;
        fewer = omega (arith, m.fewer, fewer_taken st.visited i w.visited e);
        most = omega (arith, m.most, weight_taken st.visited (λ k. length (slot_names (slot_of S k))) i w.visited (no_names i) e);
      }

  module _ (n : ℕ) (ih : Steady S (λ j e t. walk_name S n j e t)) (i : ℕ) (d : Bool) (st : RecursionState) (w : Whole st) where
    abbrev walked : RecursionState
    walked = walk_slot (λ j e t. walk_name S n j e t) i d (slot_of S i) st

    walked_moved : get_or st.visited i false ≡ false → Moved S 0 st walked
    walked_moved e =
        let j = is_message (slot_of S i) && d in
        subst (λ (x : RecursionState). Moved S 0 st x) (sym (slot_walk S (λ j e t. walk_name S n j e t) ih d i (slot_of S i) st w))
        (slot_moved i j st _ w e (parts_moved S (λ j e t. walk_name S n j e t) ih d (slot_names (slot_of S i)) (entered i j st) (entered_whole i j st w)))

    one_moved : (a b c : Bool) → get_or st.visited i false ≡ c → Moved S 1 st (cond a (cond b (counted st) st) (cond c st walked))
    unfolding counted
    one_moved true true c h = record { path = refl; visited = refl; fewer = omega arith; most = omega arith }
    one_moved true false c h = stays S 1 st
    one_moved false b true h = stays S 1 st
    one_moved false b false h = let m = walked_moved h in record { path = m.path; visited = m.visited; fewer = m.fewer; most = omega (arith, m.most) }

    one_past : 512 ≤ i → cond (get_or st.path i false) (cond d (counted st) st) (cond (get_or st.visited i false) st walked) ≡ st
    unfolding walk_slot entered
    one_past h =
        rw (get_or-eq_default st.path false {n = i} (omega (arith, w.path)), get_or-eq_default st.visited false {n = i} (omega (arith, w.visited)), past_empty i h, set_out st.visited i true (omega (arith, w.visited)))

  pub steady : (n : ℕ) → Steady S (λ j e t. walk_name S n j e t)
  unfolding walk_name
  steady zero = record { moves = λ i d st w. stays S 1 st; past = λ i d st h w. refl }
  steady (suc n) =
      record {
        moves = λ i d st w. one_moved n (steady n) i d st w (get_or st.path i false) d (get_or st.visited i false) refl;
        past = λ i d st h w. one_past n (steady n) i d st w h;
      }
