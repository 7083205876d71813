-- Sizes by a table of answers, where a name is looked up and not followed, and how many nodes working them out meets.
use Rattle.std.specs.Prelude.{ℕ, suc, ◌+◌, ◌*◌, ◌≤◌, ◌≡◌, List, [], ◌∷◌, cond, length, get_or, ltb}
use Rattle.std.proofs.Math.Option.{none, some}
use Rattle.std.proofs.lemmas.List.Edits.{sets}
use Rattle.number.specs.Grammar.{Grammar, many, done, read}
use Rattle.slot.specs.Field.{Field, fields_at}
use Rattle.slot.specs.declared.Edition.{Edition}
use Rattle.image.specs.Schema.{Schema}
use Rattle.sizes.specs.declared.Layout.{Layout}
use Rattle.sizes.specs.declared.Size.{Size}
use Rattle.sizes.specs.declared.Size.TheVariants.{Fixed, Bounded, Open}
use Rattle.sizes.specs.declared.Operation.TheVariants.{Sum, Product}
use Rattle.sizes.specs.declared.Worked.{Worked}
use Rattle.sizes.specs.declared.Worked.TheVariants.{Sized, Over}
use Rattle.sizes.specs.Elements.{Element}
use Rattle.sizes.specs.Sizes.{largest, then, Resolver, element_size, up_to}
use Rattle.sizes.specs.Names.{content_of, content_size}
use Rattle.sizes.specs.Check.{row, size_row}
use Rattle.sizes.specs.Nodes.{element_nodes, variants_nodes, content_nodes}
use Rattle.settling.specs.Steps.{element_at}
use Rattle.settling.specs.declared.Limited.{Limited}
use Rattle.wiresize.specs.declared.Varied.{Varied}
use Rattle.wiresize.specs.Asked.{Varies}
use Rattle.level.specs.declared.Leveled.{Leveled}
use Rattle.level.specs.declared.Filled.{Filled}
use Rattle.level.specs.declared.Tallied.{Tallied}

-- ## The table of answers: three numbers a slot, as in the size table, but kind 4 is over the limit by a sum, 5 by a product

unfoldable pub answer_row : Worked → List ℕ
answer_row (Sized z) = size_row (some z)
answer_row (Over Sum) = row 4 0 0
answer_row (Over Product) = row 5 0 0

-- from kind 0 on
unfoldable pub answer_by : (kind a b : ℕ) → Worked
answer_by k a b =
    get_or (Sized (Open 0) ∷ Sized (Fixed a) ∷ Sized (Bounded a b) ∷ Sized (Open a) ∷ Over Sum ∷ Over Product ∷ []) k (Sized (Open 0))

abbrev pub answer_at : (answers : List ℕ) → (slot : ℕ) → Worked
answer_at answers i = answer_by (get_or answers (3 * i) 0) (get_or answers (3 * i + 1) 0) (get_or answers (3 * i + 2) 0)

-- what names come to
unfoldable pub names_in : (slots : ℕ) → (answers : List ℕ) → Resolver
names_in n answers i = cond (ltb i n) (answer_at answers i) (Sized (Open 0))

-- a slot that was not worked out yet
abbrev pub Unknown : (answers : List ℕ) → (slot : ℕ) → Type 0
Unknown answers i = get_or answers (3 * i) 0 ≡ 0

-- ## What stands at a position

-- a small image, room for an answer of each slot, and something at the position
pub record Asks {A : Type 0} (g : Grammar A) (s : List ℕ) (slots : ℕ) (answers : List ℕ) (at : ℕ) : Type 0 where
  pub small : length s ≤ 65536
  pub room : 3 * slots ≤ length answers
  pub thing : A
  pub end : ℕ
  pub reads : read g s at ≡ done thing end

-- its size; and where it has one, the position after it and the nodes that were met
pub record Levels {A : Type 0} (g : Grammar A) (size : Resolver → A → Worked) (nodes : A → ℕ) (R : Resolver) (s : List ℕ) (at : ℕ) (r : Leveled) : Type 0 where
  pub worked : (x : A) (end : ℕ) → read g s at ≡ done x end → r.worked ≡ size R x
  pub next : (x : A) (end : ℕ) → read g s at ≡ done x end → (z : Size) → r.worked ≡ Sized z → r.next ≡ end
  pub visits : (x : A) (end : ℕ) → read g s at ≡ done x end → (z : Size) → r.worked ≡ Sized z → r.visits ≡ nodes x

-- each node has a byte of its own
abbrev pub Few : {A : Type 0} → Grammar A → List ℕ → (at visits : ℕ) → Type 0
Few {A} g s at v = (x : A) (end : ℕ) → read g s at ≡ done x end → at + v ≤ end

-- so many elements at most, and the position after the field; the field's own node and theirs
pub record Bounds (R : Resolver) (s : List ℕ) (names : ℕ) (l : Limited) (r : Leveled) : Type 0 where
  pub next : r.next ≡ l.next
  pub worked : (x : Element) (end : ℕ) → read (element_at names l.kind) s l.body ≡ done x end → r.worked ≡ then (element_size R x) (λ z. up_to l.most (largest z))
  pub visits : (x : Element) (end : ℕ) → read (element_at names l.kind) s l.body ≡ done x end → (z : Size) → r.worked ≡ Sized z → r.visits ≡ suc (element_nodes x)

-- ## Variants, messages, unions

-- these names, and no others
abbrev pub Just : Resolver → Resolver → Type 0
Just R Q = Q ≡ R

abbrev pub varied_of : Tallied → Varied
varied_of (Tallied.Sized extremes last visits) = Varied.Sized extremes last
varied_of (Tallied.Over o) = Varied.Over o

pub record Tallies (R : Resolver) (L : Layout) (s : List ℕ) (ed : Edition) (names count at : ℕ) (r : Tallied) : Type 0 where
  pub varies : Varies (Just R) L s ed names count at (varied_of r)
  pub visits : (vs : List (List Field)) (end : ℕ) → read (many count (fields_at ed names)) s at ≡ done vs end → (x l : Size) (n : ℕ) → r ≡ Tallied.Sized x l n → n ≡ variants_nodes vs

-- nodes count where there is a size
abbrev pub visits_by : Worked → (nodes : ℕ) → ℕ
visits_by (Sized z) n = n
visits_by (Over o) n = 0

pub record Fills {A : Type 0} (g : Grammar A) (size : Resolver → A → Worked) (nodes : A → ℕ) (R : Resolver) (s : List ℕ) (at : ℕ) (r : Filled) : Type 0 where
  pub worked : (x : A) (end : ℕ) → read g s at ≡ done x end → r.worked ≡ size R x
  pub visits : (x : A) (end : ℕ) → read g s at ≡ done x end → r.visits ≡ visits_by r.worked (nodes x)

-- ## A slot

-- what a slot comes to by the answers of its parts
abbrev pub answer_in : Layout → Schema → Resolver → (slot : ℕ) → Worked
answer_in L S R i = content_size L none R R (content_of S i)

pub record Answers (L : Layout) (S : Schema) (R : Resolver) (slot : ℕ) (r : Filled) : Type 0 where
  pub worked : r.worked ≡ answer_in L S R slot
  pub visits : r.visits ≡ visits_by (answer_in L S R slot) (content_nodes (content_of S slot))

-- the slot's row is its answer, and the table is as it was elsewhere
pub record SlotWorked (L : Layout) (S : Schema) (slots : ℕ) (before after : List ℕ) (slot visits : ℕ) : Type 0 where
  pub table : after ≡ sets before (3 * slot) (answer_row (answer_in L S (names_in slots before) slot))
  pub visited : visits ≡ visits_by (answer_in L S (names_in slots before) slot) (content_nodes (content_of S slot))
  pub known : Unknown after slot → ⊥
