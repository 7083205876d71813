-- What the steps of comparing two types answer.
use Rattle.std.specs.Prelude.{ℕ, ◌^◌, ◌≡◌, List, Bool, cond, eqb, length}
use Rattle.number.specs.Grammar.{name, number, many, done, below, read}
use Rattle.tree.specs.Tree.{Leaf, bits_inline, leaf_kind, leaf_flag, leaf_number}
use Rattle.tree.specs.TreeAt.{none, head_at}
use Rattle.tree.specs.declared.Sort.{Sort}
use Rattle.tree.specs.declared.Sort.TheVariants.{Resolved}
use Rattle.tree.specs.declared.Head.{Head}
use Rattle.findings.specs.Compatible.{same_names}
use Rattle.matching.specs.declared.Matched.{Matched}
use Rattle.matching.specs.declared.Node.{Node}

abbrev pub node_of : Head → Node
node_of (Head.Leaf k g v n) = record { kind = k; flag = g; number = v; next = n }
node_of (Head.One k n) = record { kind = k; flag = 0; number = 0; next = n }
node_of (Head.Two k n) = record { kind = k; flag = 0; number = 0; next = n }
node_of (Head.Sized n) = record { kind = 6; flag = 0; number = 0; next = n }
node_of (Head.Generic v n) = record { kind = 18; flag = 0; number = v; next = n }
node_of (Head.Refused r n) = record { kind = 19; flag = 0; number = 0; next = n }

abbrev pub leaf_node : Leaf → (next : ℕ) → Node
leaf_node l n = record { kind = leaf_kind l; flag = leaf_flag l; number = leaf_number l; next = n }

-- an answer on two things: they are equal, with the positions after them; or they differ
pub data Says {A : Type 0} (r : Matched) (x y : A) (m n : ℕ) : Type 0 where
  agree : x ≡ y → r ≡ Matched.Same m n → Says r x y m n
  differ : (x ≡ y → ⊥) → r ≡ Matched.Differs → Says r x y m n

-- two numbers
abbrev pub SameSize : List ℕ → (a b : ℕ) → Matched → Type 0
SameSize s a b r = (x m : ℕ) → below (2 ^ 64) s a ≡ done x m → (y n : ℕ) → below (2 ^ 64) s b ≡ done y n → Says r x y m n

-- where the names of an inline bit field stand
abbrev pub NamesStart : List ℕ → (at r : ℕ) → Type 0
NamesStart s at r =
    (sort : Sort) (names : ℕ) (ns : List ℕ) (end : ℕ) → read (head_at sort names) s at ≡ done (none (bits_inline ns)) end
    → read (many (length ns) (number name names)) s r ≡ done ns end

-- two runs of names
abbrev pub SameNames : (names : ℕ) → List ℕ → (a b count : ℕ) → Bool → Type 0
SameNames names s a b count r =
    (xs : List ℕ) (m : ℕ) → read (many count (number name names)) s a ≡ done xs m
    → (ys : List ℕ) (n : ℕ) → read (many count (number name names)) s b ≡ done ys n → r ≡ same_names xs ys

-- two heads: by their kinds, and whole where both are leaves
pub record SameLeaf (names : ℕ) (s : List ℕ) (p q : ℕ) (a b : Node) (r : Matched) : Type 0 where
  pub kinds : (a.kind ≡ b.kind → ⊥) → r ≡ Matched.Differs
  pub leaves : (l : Leaf) (m : ℕ) → read (head_at Resolved names) s p ≡ done (none l) m → a ≡ leaf_node l m
      → (sort : Sort) (k : Leaf) (n : ℕ) → read (head_at sort names) s q ≡ done (none k) n → b ≡ leaf_node k n → Says r l k m n

-- whether a head is the name of a slot, with the positions after it and after the other
unfoldable pub id_answer : Node → (id after : ℕ) → Matched
id_answer a i after = cond (eqb a.kind 3) (cond (eqb a.number i) (Matched.Same a.next after) Matched.Differs) Matched.Differs

-- an answer with another second position
abbrev pub ending_at : Matched → (after : ℕ) → Matched
ending_at (Matched.Same m n) after = Matched.Same m after
ending_at Matched.Differs after = Matched.Differs
