-- What comparing a type in place answers: with another type, and with what an expression means, where parameters ps stand
-- for the types ts.
use Rattle.std.specs.Prelude.{ℕ, ◌≤◌, ◌≡◌, List}
use Rattle.number.specs.Grammar.{done, read}
use Rattle.tree.specs.Tree.{Tree, Leaf, leaf, named, generic, leaf_kind, leaf_number}
use Rattle.tree.specs.TreeAt.{tree_at}
use Rattle.tree.specs.declared.Sort.{Sort}
use Rattle.tree.specs.declared.Sort.TheVariants.{Resolved, Expression}
use Rattle.slot.specs.Field.{type_at}
use Rattle.image.specs.Schema.{Schema}
use Rattle.image.specs.declared.Frame.{Frame}
use Rattle.findings.specs.Meaning.{meaning_of}
use Rattle.meanings.specs.Places.{AtNames, Known, Sound}
use Rattle.meanings.specs.Scopes.{FindsHold, Ready}
use Rattle.meanings.specs.declared.Meaning.{Meaning}
use Rattle.matching.specs.Steps.{Says, id_answer}
use Rattle.matching.specs.declared.Matched.{Matched}
use Rattle.matching.specs.declared.Node.{Node}

-- a type means itself
unfoldable pub meant : Schema → Sort → (ps : List ℕ) → (ts : List Tree) → Tree → Tree
meant S Resolved ps ts t = t
meant S Expression ps ts e = meaning_of S ps ts e

-- the names of an expression were looked up; a type has none
unfoldable pub LookedUp : Sort → (places : List ℕ) → Tree → Type 0
LookedUp Resolved places t = Unit {0}
LookedUp Expression places e = AtNames (Known places) e

-- what an answer on the meaning x of a leaf l says
unfoldable pub ToldHere : (names : ℕ) → (s : List ℕ) → Sort → Leaf → (x : Tree) → Meaning → Type 0
ToldHere names s sort l x Meaning.Itself = x ≡ leaf l
ToldHere names s sort l x (Meaning.Id i) = x ≡ leaf (named i)
ToldHere names s sort l x (Meaning.Type q) = (sort ≡ Expression) × (end : ℕ) × (read (type_at names) s q ≡ done x end)
ToldHere names s sort l x Meaning.NotName = ⊥

abbrev pub MeansHere : (names : ℕ) → Schema → (s finds places : List ℕ) → (kind v : ℕ) → Sort → Meaning → Type 0
MeansHere names S s finds places kind v sort r =
    FindsHold S finds → (ps : List ℕ) (ts : List Tree) → Sound names s ps ts places
    → (l : Leaf) → leaf_kind l ≡ kind → leaf_number l ≡ v → LookedUp sort places (leaf l)
    → ToldHere names s sort l (meant S sort ps ts (leaf l)) r

-- a head, and the slot that a generic means
abbrev pub SameGeneric : (names : ℕ) → Schema → (s places : List ℕ) → Node → (q levels : ℕ) → Matched → Type 0
SameGeneric names S s places a q levels r =
    (ps : List ℕ) (ts : List Tree) → Sound names s ps ts places
    → (v : ℕ) (u : Tree) (n : ℕ) → read (tree_at Expression names levels) s q ≡ done (generic v u) n
    → (i : ℕ) × (meaning_of S ps ts (generic v u) ≡ leaf (named i)) × (r ≡ id_answer a i n)

-- a type stands at p, and at q another or an expression whose names were looked up
pub record Asked (s starts : List ℕ) (f : Frame) (finds places : List ℕ) (p q levels : ℕ) (sort : Sort) : Type 0 where
  pub ready : Ready s starts f finds
  pub few : levels ≤ 32
  pub depth : ℕ
  pub type : Tree
  pub type_end : ℕ
  pub type_read : read (tree_at Resolved f.names depth) s p ≡ done type type_end
  pub parameters : List ℕ
  pub arguments : List Tree
  pub sound : Sound f.names s parameters arguments places
  pub tree : Tree
  pub end : ℕ
  pub reads : read (tree_at sort f.names levels) s q ≡ done tree end
  pub known : LookedUp sort places tree

-- whether the one is what the other means, with the positions after them
abbrev pub Compares : (names : ℕ) → Schema → (s places : List ℕ) → (p q levels : ℕ) → Sort → Matched → Type 0
Compares names S s places p q levels sort r =
    (d : ℕ) (t : Tree) (m : ℕ) → read (tree_at Resolved names d) s p ≡ done t m
    → (ps : List ℕ) (ts : List Tree) → Sound names s ps ts places
    → (e : Tree) (n : ℕ) → read (tree_at sort names levels) s q ≡ done e n → LookedUp sort places e
    → Says r t (meant S sort ps ts e) m n
