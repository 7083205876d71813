-- Leaves of two bytes: a kind and a number, a byte each. Most types are such.
use Rattle.std.specs.Prelude.{ℕ, ◌+◌, List, [], ◌∷◌, Bool, false, cond, ltb, length, get_or}
use Rattle.tree.specs.Tree.{Leaf, primitive, semantic, named}

-- what the number of a kind is below, as far as a byte goes, from kind 0 on: primitives, semantic types and names; 0 for kinds
-- that hold something else
abbrev pub short_limits : List ℕ
short_limits = 14 ∷ 0 ∷ 6 ∷ 128 ∷ []

unfoldable pub short_limit : (kind : ℕ) → ℕ
short_limit k = get_or short_limits k 0

abbrev pub short_leaf : (kind number : ℕ) → Leaf
short_leaf k v = get_or (primitive v ∷ primitive v ∷ semantic v ∷ named v ∷ []) k (primitive v)

-- whether such a leaf stands at a position, where names are below `ids`
unfoldable pub is_short : (ids : ℕ) → List ℕ → (at : ℕ) → Bool
is_short ids s at =
    cond (ltb (length s) (at + 2)) false
    (cond (ltb (get_or s (at + 1) 0) ids) (ltb (get_or s (at + 1) 0) (short_limit (get_or s at 0))) false)
