-- What names stand for in the code's scopes, and what its answers on leaves, aliases and expressions say.
use Rattle.std.specs.Prelude.{ℕ, suc, ◌≤◌, ◌≡◌, List, [], ◌∷◌, Bool, false, cond, eqb, get_or, Option, Some, None}
use Rattle.number.specs.Grammar.{name, count, Grammar, ◌>>=◌, number, many, counted, Outcome, done, refused, read}
use Rattle.tree.specs.Tree.{Tree, Leaf, leaf, leaf_kind, leaf_number}
use Rattle.tree.specs.TreeAt.{Node, none, one, two, sized, tree_at}
use Rattle.tree.specs.TreeAt as node
use Rattle.tree.specs.declared.Sort.TheVariants.{Expression}
use Rattle.slot.specs.Field.{expression_at}
use Rattle.slot.specs.Slot.{Alias, alias}
use Rattle.image.specs.Schema.{Schema, slot_of}
use Rattle.image.specs.declared.Frame.{Frame}
use Rattle.reader.specs.Reading.{schema_of}
use Rattle.reader.specs.Promise.{Promise}
use Rattle.findings.specs.Meaning.{unfound, id_found, leaf_value, value_of, leaf_meant, substitute, slot_found, through_alias, applied}
use Rattle.findings.specs.declared.Value.{Value}
use Rattle.meanings.specs.Rank.{rank_of}
use Rattle.meanings.specs.Places.{found_of, AtNames, Known, Sound}
use Rattle.meanings.specs.declared.Scope.{Scope}
use Rattle.meanings.specs.declared.Meaning.{Meaning}
use Rattle.meanings.specs.declared.Found.{Found}

-- a table of what each name finds
pub record FindsHold (S : Schema) (finds : List ℕ) : Type 0 where
  pub entry : (n : ℕ) → get_or finds n 0 ≡ get_or S.finds n 0

-- whether a name is the first of a counted run; the others are not read
unfoldable pub first_at : (names : ℕ) → Grammar (List ℕ)
first_at names = do
  c ← number count 65537
  many (cond (eqb c 0) 0 1) (number name names)

abbrev pub is_first : (n : ℕ) → Outcome (List ℕ) → Bool
is_first n (done (v ∷ vs) m) = eqb v n
is_first n (done [] m) = false
is_first n (refused r p) = false

-- the type at an argument's place, or else an id
abbrev pub at_place : Found → (id : ℕ) → Meaning
at_place (Found.At q) i = Meaning.Type q
at_place Found.Nothing i = Meaning.Id i

abbrev pub of_value : Value → Meaning
of_value (Value.Id i) = Meaning.Id i
of_value Value.NotName = Meaning.NotName

-- what a plain name means, by the tables: an argument, or what it is resolved to
unfoldable pub name_meaning : (names : ℕ) → (s finds places : List ℕ) → Scope → (n : ℕ) → Meaning
name_meaning names s finds places Scope.Types n = at_place (found_of (get_or places n 0)) (id_found (get_or finds n 0))
name_meaning names s finds places (Scope.One p v) n = cond (is_first n (read (first_at names) s p)) (of_value v) (Meaning.Id (id_found (get_or finds n 0)))

-- what a leaf means, by its kind and number: 3 is a plain name, 17 a qualified one
unfoldable pub leaf_meaning : (names : ℕ) → (s finds places : List ℕ) → Scope → (kind v : ℕ) → Meaning
leaf_meaning names s finds places scope kind v =
    cond (eqb kind 3) (name_meaning names s finds places scope v) (cond (eqb kind 17) (Meaning.Id (id_found (get_or finds v 0))) Meaning.Itself)

-- which slot a type names, by what stands in front of its children
abbrev pub head_value : Outcome Node → Value
head_value (done (none l) n) = leaf_value l
head_value (done (one w) n) = Value.NotName
head_value (done (two p) n) = Value.NotName
head_value (done sized n) = Value.NotName
head_value (done (node.applied v) n) = Value.NotName
head_value (refused r p) = Value.NotName

-- the parameters and the types that a scope stands for; of an alias's one argument only which name it is, is known
unfoldable pub Stands : (names : ℕ) → (s places : List ℕ) → Scope → (ps : List ℕ) → (ts : List Tree) → Type 0
Stands names s places Scope.Types ps ts = Sound names s ps ts places
Stands names s places (Scope.One p v) ps ts =
    (m : ℕ) × (t : Tree) × (read (counted (number name names)) s p ≡ done ps m) × (ts ≡ t ∷ []) × (value_of t ≡ v)

-- where parameters are looked up in the table, the names of an expression are there
unfoldable pub KnownIn : Scope → (places : List ℕ) → Tree → Type 0
KnownIn Scope.Types places e = AtNames (Known places) e
KnownIn (Scope.One p v) places e = Unit {0}

-- where the alias is that a name finds: its parameters, and its target
unfoldable pub RightAlias : (names : ℕ) → Schema → (s : List ℕ) → (n : ℕ) → Option (ℕ × ℕ) → Type 0
RightAlias names S s n (Some (p, q)) =
    (i : ℕ) × (a : Alias) × (m : ℕ) × (end : ℕ)
    × (get_or S.finds n 0 ≡ suc i) × (slot_of S i ≡ alias a)
    × (read (counted (number name names)) s p ≡ done a.parameters m) × (read (expression_at names) s q ≡ done a.target end)
RightAlias names S s n None =
    (f : Alias → ℕ) → through_alias (slot_found S (get_or S.finds n 0)) f ≡ unfound

-- the contracts
abbrev pub RightLeaf : (names : ℕ) → Schema → (s finds places : List ℕ) → Scope → (kind v : ℕ) → Value → Type 0
RightLeaf names S s finds places scope kind v r =
    FindsHold S finds → (ps : List ℕ) (ts : List Tree) → Stands names s places scope ps ts
    → (l : Leaf) → leaf_kind l ≡ kind → leaf_number l ≡ v → KnownIn scope places (leaf l)
    → r ≡ value_of (leaf_meant S ps ts l)

-- which name an expression means, whatever the chain of aliases, if it is enough
abbrev pub RightName : (names levels : ℕ) → Schema → (s places : List ℕ) → (at : ℕ) → Scope → Value → Type 0
RightName names levels S s places at scope r =
    (ps : List ℕ) (ts : List Tree) → Stands names s places scope ps ts
    → (e : Tree) (end : ℕ) → read (tree_at Expression names levels) s at ≡ done e end
    → (chain : ℕ) → rank_of S e ≤ chain
    → r ≡ value_of (substitute S (applied S chain) ps ts e)

-- an accepted image, and the table of what its names find
pub record Ready (s starts : List ℕ) (f : Frame) (finds : List ℕ) : Type 0 where
  pub promise : Promise s starts f
  pub holds : FindsHold (schema_of f.edition s) finds

-- an expression was read, its names were looked up if the scope asks for it, and the scope stands for something
pub record Asked (s starts : List ℕ) (f : Frame) (finds places : List ℕ) (at levels : ℕ) (scope : Scope) : Type 0 where
  pub ready : Ready s starts f finds
  pub few : levels ≤ 32
  pub tree : Tree
  pub end : ℕ
  pub reads : read (tree_at Expression f.names levels) s at ≡ done tree end
  pub known : KnownIn scope places tree
  pub parameters : List ℕ
  pub arguments : List Tree
  pub stands : Stands f.names s places scope parameters arguments
