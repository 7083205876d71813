-- Endless types: `check_recursion` and `walk_type_for_recursion`. Class 1.
use Rattle.std.specs.Prelude.{ℕ, zero, suc, ◌+◌, List, [], ◌∷◌, ◌++◌, Bool, true, false, cond, get_or, set, replicate}
use Rattle.tree.specs.Tree.{Tree, Leaf, leaf, wrap, fixed_array, pair, generic, primitive, sub_byte, semantic, named, bits_inline, qualified}
use Rattle.slot.specs.Field.{Field}
use Rattle.slot.specs.Slot.{Slot, empty, message, enum, flags, union, newtype, config, alias, trait, impl}
use Rattle.image.specs.Schema.{Schema, slot_of}
use Rattle.findings.specs.Finding.{finding}
use Rattle.findings.specs.declared.Finding.{Finding}
use Rattle.findings.specs.declared.RecursionState.{RecursionState}

unfoldable pub counted : RecursionState → RecursionState
counted st = record { path = st.path; visited = st.visited; count = st.count + 1 }

-- visited, and on the path if it joins it
unfoldable pub entered : (slot : ℕ) → (joins : Bool) → RecursionState → RecursionState
entered i j st = record { path = cond j (set st.path i true) st.path; visited = set st.visited i true; count = st.count }

-- off the path again; a visited slot stays visited
unfoldable pub left : (slot : ℕ) → (joins : Bool) → RecursionState → RecursionState
left i j st = record { path = cond j (set st.path i false) st.path; visited = st.visited; count = st.count }

-- what a name does to the state, where it stands direct or not
abbrev pub Walk : Type 0
Walk = ℕ → Bool → RecursionState → RecursionState

unfoldable pub walk_leaf : Walk → (direct : Bool) → Leaf → RecursionState → RecursionState
walk_leaf name d (named i) st = name i d st
walk_leaf name d (primitive p) st = st
walk_leaf name d (sub_byte g b) st = st
walk_leaf name d (semantic m) st = st
walk_leaf name d (bits_inline ns) st = st
walk_leaf name d (qualified n) st = st

-- a name as it stands; every wrapper turns indirect
unfoldable pub walk_type : Walk → (direct : Bool) → Tree → RecursionState → RecursionState
walk_type name d (leaf l) st = walk_leaf name d l st
walk_type name d (wrap w t) st = walk_type name false t st
walk_type name d (fixed_array t n) st = walk_type name false t st
walk_type name d (pair p t u) st = walk_type name false u (walk_type name false t st)
walk_type name d (generic n t) st = walk_type name false t st

-- whatever the encoding
unfoldable pub walk_fields : Walk → (direct : Bool) → List Field → RecursionState → RecursionState
walk_fields name d [] st = st
walk_fields name d (f ∷ fs) st = walk_fields name d fs (walk_type name d f.type st)

unfoldable pub walk_variants : Walk → List (List Field) → RecursionState → RecursionState
walk_variants name [] st = st
walk_variants name (v ∷ vs) st = walk_variants name vs (walk_fields name false v st)

-- messages go on in the same way, joining the path only if direct; union fields indirectly; newtypes by inner type unchanged
unfoldable pub walk_slot : Walk → (slot : ℕ) → (direct : Bool) → Slot → RecursionState → RecursionState
walk_slot name i d (message m) st = left i d (walk_fields name d m.fields (entered i d st))
walk_slot name i d (union u) st = walk_variants name u.variants (entered i false st)
walk_slot name i d (newtype n) st = walk_type name d n.inner (entered i false st)
walk_slot name i d empty st = entered i false st
walk_slot name i d (enum e) st = entered i false st
walk_slot name i d (flags f) st = entered i false st
walk_slot name i d config st = entered i false st
walk_slot name i d (alias a) st = entered i false st
walk_slot name i d (trait t) st = entered i false st
walk_slot name i d (impl x) st = entered i false st

-- a name: on the path and direct is a finding; on the path and not direct, or visited, ends there. No more names are
-- within one another than there are slots, and one past them
unfoldable pub walk_name : Schema → (within : ℕ) → Walk
walk_name S zero i d st = st
walk_name S (suc n) i d st =
    cond (get_or st.path i false)
    (cond d (counted st) st)
    (cond (get_or st.visited i false) st (walk_slot (λ j e t. walk_name S n j e t) i d (slot_of S i) st))

-- a declared message alone on the path, nothing visited
unfoldable pub start : (slot : ℕ) → RecursionState
start i = record { path = set (replicate 512 false) i true; visited = replicate 512 false; count = 0 }

-- how often a declared message holds itself
unfoldable pub endless_in : Schema → (slot : ℕ) → List Field → ℕ
endless_in S i fs = (walk_fields (λ j e t. walk_name S 513 j e t) true fs (start i)).count

-- the findings of one declaration have the message's slot and span
abbrev pub endless_at : Schema → (slot : ℕ) → Slot → List Finding
endless_at S i (message m) = replicate (endless_in S i m.fields) (finding 1 i m.span 0 0)
endless_at S i empty = []
endless_at S i (enum e) = []
endless_at S i (flags f) = []
endless_at S i (union u) = []
endless_at S i (newtype n) = []
endless_at S i config = []
endless_at S i (alias a) = []
endless_at S i (trait t) = []
endless_at S i (impl x) = []

unfoldable pub endless_of : Schema → (declared : List ℕ) → List Finding
endless_of S [] = []
endless_of S (i ∷ is) = endless_at S i (slot_of S i) ++ endless_of S is
