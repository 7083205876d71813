-- Arguments of parameters, looked up once for each occurrence of a plain name. A table by name holds where each argument
-- stands: 0 not looked up, 1 no argument, else the argument's place + 2.
use Rattle.std.specs.Prelude.{ℕ, zero, suc, ◌+◌, ◌≤◌, ◌≡◌, List, [], ◌∷◌, cond, get_or, set, eqb, ltb}
use Rattle.number.specs.Grammar.{name, number, many, counted, done, read}
use Rattle.number.specs.Answers.{next}
use Rattle.number.specs.declared.Next.{Next}
use Rattle.tree.specs.Tree.{Tree, Leaf, leaf, primitive, sub_byte, semantic, named, bits_inline, qualified, wrap, fixed_array, pair, generic, leaf_kind, leaf_number}
use Rattle.tree.specs.TreeAt.{tree_at}
use Rattle.tree.specs.declared.Sort.TheVariants.{Expression}
use Rattle.slot.specs.Field.{type_at}
use Rattle.findings.specs.Meaning.{argument_of}
use Rattle.meanings.specs.Occurs.{occurs}
use Rattle.meanings.specs.declared.Found.{Found}

-- a property of each plain name
abbrev pub AtLeaf : (ℕ → Type 0) → Leaf → Type 0
AtLeaf P (primitive p) = Unit {0}
AtLeaf P (sub_byte g b) = Unit {0}
AtLeaf P (semantic m) = Unit {0}
AtLeaf P (named n) = P n
AtLeaf P (bits_inline ns) = Unit {0}
AtLeaf P (qualified n) = Unit {0}

unfoldable pub AtNames : (ℕ → Type 0) → Tree → Type 0
AtNames P (leaf l) = AtLeaf P l
AtNames P (wrap w e) = AtNames P e
AtNames P (fixed_array e n) = AtNames P e
AtNames P (pair p e f) = AtNames P e × AtNames P f
AtNames P (generic n e) = AtNames P e

-- what an answer on the argument of a name says
unfoldable pub IsArgument : (names : ℕ) → (s : List ℕ) → (ps : List ℕ) → (ts : List Tree) → (n : ℕ) → Found → Type 0
IsArgument names s ps ts n (Found.At q) =
    (t : Tree) × (end : ℕ) × (read (type_at names) s q ≡ done t end) × ((d : Tree) → argument_of ps ts n d ≡ t)
IsArgument names s ps ts n Found.Nothing = (d : Tree) → argument_of ps ts n d ≡ d

-- where the argument of a name stands: that of the first parameter of that name, if so many types follow one another
abbrev pub onward : Next → (ℕ → Found) → Found
onward (Next.At q) f = f q
onward (Next.Refused r p) f = Found.Nothing

unfoldable pub argument_place : (names : ℕ) → (s : List ℕ) → (ps : List ℕ) → (start arguments : ℕ) → (n : ℕ) → Found
argument_place names s [] at k n = Found.Nothing
argument_place names s (p ∷ ps) at zero n = Found.Nothing
argument_place names s (p ∷ ps) at (suc k) n =
    cond (eqb p n) (Found.At at) (onward (next (read (type_at names) s at)) (λ q. argument_place names s ps q k n))

-- how the table holds an answer, and what a place of it says
abbrev pub code_of : Found → ℕ
code_of (Found.At q) = cond (ltb q 65536) (q + 2) 1
code_of Found.Nothing = 1

abbrev pub found_of : ℕ → Found
found_of zero = Found.Nothing
found_of (suc zero) = Found.Nothing
found_of (suc (suc q)) = Found.At q

-- the table with the plain names of an expression looked up, in order
abbrev pub look_leaf : (place : ℕ → Found) → Leaf → List ℕ → List ℕ
look_leaf f (primitive p) t = t
look_leaf f (sub_byte g b) t = t
look_leaf f (semantic m) t = t
look_leaf f (named n) t = set t n (code_of (f n))
look_leaf f (bits_inline ns) t = t
look_leaf f (qualified n) t = t

unfoldable pub looked_up : (place : ℕ → Found) → Tree → List ℕ → List ℕ
looked_up f (leaf l) t = look_leaf f l t
looked_up f (wrap w e) t = looked_up f e t
looked_up f (fixed_array e n) t = looked_up f e t
looked_up f (pair p e g) t = looked_up f g (looked_up f e t)
looked_up f (generic n e) t = looked_up f e t

-- a name that was looked up
abbrev pub Known : (places : List ℕ) → (n : ℕ) → Type 0
Known places n = get_or places n 0 ≡ 0 → ⊥

-- what the table says of the names that were looked up is right
pub record Sound (names : ℕ) (s ps : List ℕ) (ts : List Tree) (places : List ℕ) : Type 0 where
  pub right : (n : ℕ) → Known places n → IsArgument names s ps ts n (found_of (get_or places n 0))

-- the parameters at one place, and the types from another on
pub record Bound (names : ℕ) (s : List ℕ) (parameters start arguments : ℕ) (ps : List ℕ) (ts : List Tree) : Type 0 where
  pub parameters_end : ℕ
  pub parameters_read : read (counted (number name names)) s parameters ≡ done ps parameters_end
  pub arguments_end : ℕ
  pub arguments_read : read (many arguments (type_at names)) s start ≡ done ts arguments_end

-- the contracts
abbrev pub RightArgumentIn : (names : ℕ) → (s : List ℕ) → (first count start arguments n : ℕ) → Found → Type 0
RightArgumentIn names s first count start arguments n r =
    (ps : List ℕ) (ts : List Tree) (m k : ℕ) → read (many count (number name names)) s first ≡ done ps m
    → read (many arguments (type_at names)) s start ≡ done ts k → r ≡ argument_place names s ps start arguments n

abbrev pub RightArgument : (names : ℕ) → (s : List ℕ) → (parameters start arguments n : ℕ) → Found → Type 0
RightArgument names s parameters start arguments n r =
    (ps : List ℕ) (ts : List Tree) → Bound names s parameters start arguments ps ts → r ≡ argument_place names s ps start arguments n

abbrev pub RightLeafLook : (names : ℕ) → (s : List ℕ) → (kind v parameters start arguments : ℕ) → (before after : List ℕ) → (count : ℕ) → Type 0
RightLeafLook names s kind v parameters start arguments before after count =
    (ps : List ℕ) (ts : List Tree) → Bound names s parameters start arguments ps ts → (l : Leaf) → leaf_kind l ≡ kind → leaf_number l ≡ v
    → (count ≡ occurs (leaf l)) × (after ≡ look_leaf (argument_place names s ps start arguments) l before)

-- an expression stands at a position, and what its names may stand for elsewhere
pub record LookAsked (names levels : ℕ) (s : List ℕ) (at list start arguments : ℕ) : Type 0 where
  pub few : levels ≤ 32
  pub parameters : List ℕ
  pub types : List Tree
  pub bound : Bound names s list start arguments parameters types
  pub tree : Tree
  pub end : ℕ
  pub reads : read (tree_at Expression names levels) s at ≡ done tree end

-- one look-up for each occurrence of a plain name; the table with them; the position after the expression
abbrev pub RightLook : (names levels : ℕ) → (s : List ℕ) → (at list start arguments : ℕ) → (before after : List ℕ) → (count next : ℕ) → Type 0
RightLook names levels s at list start arguments before after count next =
    (a : LookAsked names levels s at list start arguments)
    → (count ≡ occurs a.tree) × (after ≡ looked_up (argument_place names s a.parameters start arguments) a.tree before) × (next ≡ a.end)
