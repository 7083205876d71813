-- What a trait field's expression means, where parameters stand for types: `substitute_into_type_expr`,
-- `resolve_generic_type` and `resolve_type_name`. In an expression `named` holds a name, in a type a slot.
use Rattle.std.specs.Prelude.{ℕ, zero, suc, List, [], ◌∷◌, cond, eqb, get_or}
use Rattle.tree.specs.Tree.{Tree, Leaf, leaf, primitive, sub_byte, semantic, named, bits_inline, qualified, wrap, fixed_array, pair, generic}
use Rattle.slot.specs.Slot.{Slot, empty, message, enum, flags, union, newtype, config, Alias, alias, trait, impl}
use Rattle.image.specs.Schema.{Schema, slot_of}
use Rattle.findings.specs.declared.Value.{Value}
use Rattle.findings.specs.declared.Value.TheVariants.{Id, NotName}

-- the id of what is not found, 2^32 − 1
abbrev pub unfound : ℕ
unfound = 4294967295

abbrev pub id_found : ℕ → ℕ
id_found zero = unfound
id_found (suc i) = i

-- the id that a name is resolved to
unfoldable pub resolved : Schema → (name : ℕ) → ℕ
resolved S n = id_found (get_or S.finds n 0)

-- the argument of the first parameter of that name, if there is an argument at its position; else d
unfoldable pub argument_of : List ℕ → List Tree → (name : ℕ) → (d : Tree) → Tree
argument_of [] ts n d = d
argument_of (p ∷ ps) [] n d = d
argument_of (p ∷ ps) (t ∷ ts) n d = cond (eqb p n) t (argument_of ps ts n d)

-- which slot a type names, if it is a name
unfoldable pub leaf_value : Leaf → Value
leaf_value (primitive p) = NotName
leaf_value (sub_byte g b) = NotName
leaf_value (semantic m) = NotName
leaf_value (named i) = Id i
leaf_value (bits_inline ns) = NotName
leaf_value (qualified n) = NotName

unfoldable pub value_of : Tree → Value
value_of (leaf l) = leaf_value l
value_of (wrap w t) = NotName
value_of (fixed_array t n) = NotName
value_of (pair p t u) = NotName
value_of (generic n t) = NotName

abbrev pub id_or : Value → ℕ
id_or (Id i) = i
id_or NotName = unfound

-- a leaf, where the parameters ps stand for the types ts; a qualified name is never a parameter
unfoldable pub leaf_meant : Schema → (ps : List ℕ) → (ts : List Tree) → Leaf → Tree
leaf_meant S ps ts (primitive p) = leaf (primitive p)
leaf_meant S ps ts (sub_byte g b) = leaf (sub_byte g b)
leaf_meant S ps ts (semantic m) = leaf (semantic m)
leaf_meant S ps ts (named n) = argument_of ps ts n (leaf (named (resolved S n)))
leaf_meant S ps ts (bits_inline ns) = leaf (bits_inline ns)
leaf_meant S ps ts (qualified n) = leaf (named (resolved S n))

-- an expression, where `apply n t` is the id of the generic n of the type t
unfoldable pub substitute : Schema → (apply : ℕ → Tree → ℕ) → (ps : List ℕ) → (ts : List Tree) → Tree → Tree
substitute S apply ps ts (leaf l) = leaf_meant S ps ts l
substitute S apply ps ts (wrap w e) = wrap w (substitute S apply ps ts e)
substitute S apply ps ts (fixed_array e n) = fixed_array (substitute S apply ps ts e) n
substitute S apply ps ts (pair p e f) = pair p (substitute S apply ps ts e) (substitute S apply ps ts f)
substitute S apply ps ts (generic n e) = leaf (named (apply n (substitute S apply ps ts e)))

-- the slot that a name finds
abbrev pub slot_found : Schema → (found : ℕ) → Slot
slot_found S zero = empty
slot_found S (suc i) = slot_of S i

abbrev pub through_alias : Slot → (Alias → ℕ) → ℕ
through_alias (alias a) f = f a
through_alias empty f = unfound
through_alias (message m) f = unfound
through_alias (enum e) f = unfound
through_alias (flags g) f = unfound
through_alias (union u) f = unfound
through_alias (newtype n) f = unfound
through_alias config f = unfound
through_alias (trait t) f = unfound
through_alias (impl x) f = unfound

-- the id of the generic n of the type t, through at most `chain` aliases: that of the name which the alias's target means
unfoldable pub applied : Schema → (chain : ℕ) → (name : ℕ) → Tree → ℕ
applied S zero n t = unfound
applied S (suc chain) n t =
    through_alias (slot_found S (get_or S.finds n 0))
    (λ a. id_or (value_of (substitute S (applied S chain) a.parameters (t ∷ []) a.target)))

-- the type that an expression means. No chain of aliases is longer than the slots are many
unfoldable pub meaning_of : Schema → (ps : List ℕ) → (ts : List Tree) → Tree → Tree
meaning_of S ps ts e = substitute S (applied S 512) ps ts e
