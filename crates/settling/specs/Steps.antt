-- What the steps through a type's head and a field answer.
use Rattle.std.specs.Prelude.{ℕ, ◌^◌, ◌≡◌, List, cond, ◌⊎◌, eqb}
use Rattle.std.proofs.Math.Option.{some}
use Rattle.number.specs.Grammar.{Grammar, give, ◌>>=◌, done, below, read}
use Rattle.tree.specs.Tree.{Tree, Leaf, Wrap, Pair, leaf, wrap, fixed_array, pair, generic, leaf_kind, leaf_number, wrap_kind, pair_kind}
use Rattle.tree.specs.Encoding.{Encoding, default, varint, zig_zag, delta}
use Rattle.tree.specs.declared.Head.{Head}
use Rattle.slot.specs.Field.{type_at, limit_at, field_at, Field}
use Rattle.slot.specs.declared.Edition.{Edition}
use Rattle.slot.specs.declared.Edition.TheVariants.{Two}
use Rattle.image.specs.declared.Frame.{Frame}
use Rattle.sizes.specs.declared.Size.{Size}
use Rattle.sizes.specs.declared.Worked.{Worked}
use Rattle.sizes.specs.declared.Worked.TheVariants.{Sized}
use Rattle.sizes.specs.Elements.{count_of, Element, item, entry, limited_element}
use Rattle.sizes.specs.Nodes.{type_nodes, field_nodes}
use Rattle.sizes.specs.Sizes.{then, limited_sum, limited_product, Resolver, wrap_size, type_size, field_alone, raised, widened, multiplied, without_largest}
use Rattle.settling.specs.declared.Scope.{Scope}
use Rattle.settling.specs.declared.Walked.{Walked}
use Rattle.settling.specs.declared.Decided.{Decided}
use Rattle.settling.specs.declared.Coded.{Coded}
use Rattle.settling.specs.declared.Settled.{Settled}
use Rattle.settling.specs.declared.Plain.{Plain}
use Rattle.settling.specs.declared.Limited.{Limited}

-- the frame that is handed down
abbrev pub frame_of : Scope → Frame
frame_of c = record { edition = c.edition; names = c.names; finds = c.finds; slots = c.slots; declared = c.declared; declarations = c.declarations }

-- the kind and the number of a type, by its head
abbrev pub kind_in : Head → ℕ
kind_in (Head.Leaf k g v n) = k
kind_in (Head.One k n) = k
kind_in (Head.Two k n) = k
kind_in (Head.Sized n) = 6
kind_in (Head.Generic v n) = 18
kind_in (Head.Refused r p) = 18

abbrev pub number_in : Head → ℕ
number_in (Head.Leaf k g v n) = v
number_in (Head.One k n) = 0
number_in (Head.Two k n) = 0
number_in (Head.Sized n) = 0
number_in (Head.Generic v n) = 0
number_in (Head.Refused r p) = 0

-- a type has this head
abbrev pub Headed : Head → Tree → Type 0
Headed (Head.Leaf k g v n) t = (l : Leaf) × (t ≡ leaf l) × (leaf_kind l ≡ k) × (leaf_number l ≡ v)
Headed (Head.One k n) t = (w : Wrap) × (u : Tree) × (t ≡ wrap w u) × (wrap_kind w ≡ k)
Headed (Head.Two k n) t = (p : Pair) × (u : Tree) × (v : Tree) × (t ≡ pair p u v) × (pair_kind p ≡ k)
Headed (Head.Sized n) t = (u : Tree) × (size : ℕ) × (t ≡ fixed_array u size)
Headed (Head.Generic v n) t = (u : Tree) × (t ≡ generic v u)
Headed (Head.Refused r p) t = ⊥

-- the head of a type without parts, and the position after it
abbrev pub LeafTo : Head → ℕ → Type 0
LeafTo (Head.Leaf k g v m) n = m ≡ n
LeafTo (Head.One k m) n = ⊥
LeafTo (Head.Two k m) n = ⊥
LeafTo (Head.Sized m) n = ⊥
LeafTo (Head.Generic v m) n = ⊥
LeafTo (Head.Refused r p) n = ⊥

-- the head of a name, with its slot
abbrev pub NameIn : Head → (slot next : ℕ) → Type 0
NameIn (Head.Leaf k g v m) i n = (k ≡ 3) × (v ≡ i) × (m ≡ n)
NameIn (Head.One k m) i n = ⊥
NameIn (Head.Two k m) i n = ⊥
NameIn (Head.Sized m) i n = ⊥
NameIn (Head.Generic v m) i n = ⊥
NameIn (Head.Refused r p) i n = ⊥

-- the head of a type with one child that is worked out, of its kind
abbrev pub OneIn : Head → (kind body : ℕ) → Type 0
OneIn (Head.Leaf k g v m) j n = ⊥
OneIn (Head.One k m) j n = (k ≡ j) × (m ≡ n) × (k ≡ 5 → ⊥) × (k ≡ 7 → ⊥)
OneIn (Head.Two k m) j n = ⊥
OneIn (Head.Sized m) j n = (6 ≡ j) × (m ≡ n)
OneIn (Head.Generic v m) j n = ⊥
OneIn (Head.Refused r p) j n = ⊥

-- the head of a Result
abbrev pub SidesIn : Head → (body : ℕ) → Type 0
SidesIn (Head.Leaf k g v m) n = ⊥
SidesIn (Head.One k m) n = ⊥
SidesIn (Head.Two k m) n = (m ≡ n) × (k ≡ 8 → ⊥)
SidesIn (Head.Sized m) n = ⊥
SidesIn (Head.Generic v m) n = ⊥
SidesIn (Head.Refused r p) n = ⊥

-- the size of all types with this head, whatever names come to
abbrev pub AllSized : Head → Size → Type 0
AllSized head z = (names : Resolver) (t : Tree) → Headed head t → Sized z ≡ type_size names t

-- what a head decides
unfoldable pub Decides : Head → Decided → Type 0
Decides head (Decided.Leaf z n) = LeafTo head n × AllSized head z
Decides head (Decided.Pass z) = AllSized head z
Decides head (Decided.Name i n) = NameIn head i n
Decides head (Decided.One k n) = OneIn head k n
Decides head (Decided.Sides n) = SidesIn head n

-- a type that was passed over, with a size that its head decides
pub record Passed (names : ℕ) (s : List ℕ) (at : ℕ) (size : Tree → Worked) (r : Walked) : Type 0 where
  pub passed : (t : Tree) (end : ℕ) → read (type_at names) s at ≡ done t end → (r.worked ≡ size t) × (r.next ≡ end)

-- the encoding that governs a type at a position
unfoldable pub coded_as : Encoding → ℕ → Coded
coded_as default n = Coded.Plain n
coded_as varint n = Coded.Varint n
coded_as zig_zag n = Coded.ZigZag n
coded_as (delta e) n = coded_as e n

-- where a field's type stands
pub record Coding (names : ℕ) (s : List ℕ) (x : Field) (behind : ℕ) (r : Coded) : Type 0 where
  pub place : ℕ
  pub coded : r ≡ coded_as x.encoding place
  pub reads : read (type_at names) s place ≡ done x.type behind

-- whatever the edition, a field's type stands there, and its limit behind the type
abbrev pub Codes : (names : ℕ) → List ℕ → (at : ℕ) → Coded → Type 0
Codes names s at r =
    (ed : Edition) (x : Field) (end : ℕ) → read (field_at ed names) s at ≡ done x end
    → (behind : ℕ) × Coding names s x behind r × (read (limit_at ed) s behind ≡ done x.limit end)

-- the limit of a field ends at a position
abbrev pub LimitTo : Frame → List ℕ → (at next : ℕ) → Type 0
LimitTo f s at next = (l end : ℕ) → read (limit_at f.edition) s at ≡ done l end → next ≡ end

-- the limit of edition two behind a type, and the position after it
abbrev pub LimitBehind : (names : ℕ) → List ℕ → (at most next : ℕ) → Type 0
LimitBehind names s at most next =
    (t : Tree) (behind l end : ℕ) → read (type_at names) s at ≡ done t behind → read (limit_at Two) s behind ≡ done l end → (most ≡ l) × (next ≡ end)

-- kinds that hold any number of elements: Array, Set, Map
abbrev pub Holds : (kind : ℕ) → Type 0
Holds k = (k ≡ 5) ⊎ ((k ≡ 7) ⊎ (k ≡ 8))

-- the types of an element, behind the kind that holds it
unfoldable pub element_at : (names kind : ℕ) → Grammar Element
element_at names k = do
  t ← type_at names
  cond (eqb k 8) (do u ← type_at names; give (entry t u)) (give (item t))

-- the elements that a field's limit bears on
pub record Bears (names : ℕ) (s : List ℕ) (x : Field) (end : ℕ) (l : Limited) : Type 0 where
  pub next : l.next ≡ end
  pub most : l.most ≡ x.limit
  pub element : Element
  pub behind : ℕ
  pub reads : read (element_at names l.kind) s l.body ≡ done element behind
  pub bears : limited_element x ≡ some element

-- a plain field from its type on: one in Default
unfoldable pub plain_at : Edition → (names : ℕ) → Grammar Field
plain_at ed names = do
  t ← type_at names
  l ← limit_at ed
  give (record { field_name = 0; encoding = default; type = t; limit = l })

-- of a field by itself: its size, whatever names come to, and the position after it; or its name, and that position; or where its type
-- stands, if it is plain. And its nodes: what is settled is one
unfoldable pub Known : Frame → List ℕ → Field → (end : ℕ) → Settled → Type 0
Known f s x end (Settled.Is w) = (w.next ≡ end) × ((R : Resolver) → w.worked ≡ field_alone R x) × (field_nodes x ≡ 1)
Known f s x end (Settled.Name i n) = (n ≡ end) × ((R : Resolver) → R i ≡ field_alone R x) × (field_nodes x ≡ 1)
Known f s x end (Settled.At p) =
    (y : Field) × (read (plain_at f.edition f.names) s p ≡ done y end) × ((R : Resolver) → field_alone R y ≡ field_alone R x) × (field_nodes y ≡ field_nodes x)

abbrev pub Settles : Frame → List ℕ → (at : ℕ) → Settled → Type 0
Settles f s at r = (x : Field) (end : ℕ) → read (field_at f.edition f.names) s at ≡ done x end → Known f s x end r

-- of a plain field: its size, and the position after it, one node; or that its type decides; or the elements that its limit bears on
unfoldable pub Told : Frame → List ℕ → (at : ℕ) → Field → (end : ℕ) → Plain → Type 0
Told f s at x end (Plain.Is w) = (w.next ≡ end) × ((R : Resolver) → w.worked ≡ field_alone R x) × (field_nodes x ≡ 1)
Told f s at x end Plain.Type =
    (behind : ℕ) × (read (type_at f.names) s at ≡ done x.type behind) × (read (limit_at f.edition) s behind ≡ done x.limit end)
    × ((R : Resolver) → type_size R x.type ≡ field_alone R x) × (type_nodes x.type ≡ field_nodes x)
Told f s at x end (Plain.Limited l) = Bears f.names s x end l

abbrev pub Plains : Frame → List ℕ → (at : ℕ) → Plain → Type 0
Plains f s at r = (x : Field) (end : ℕ) → read (plain_at f.edition f.names) s at ≡ done x end → Told f s at x end r

-- what was worked out up to a limit, and the position after the limit
pub record PastLimit (f : Frame) (s : List ℕ) (field r : Walked) : Type 0 where
  pub worked : r.worked ≡ field.worked
  pub next : LimitTo f s field.next r.next

-- what is made of a part, at the part's end: a size only where the part has one
pub record Made (part r : Walked) (size : Worked → Worked) : Type 0 where
  pub next : r.next ≡ part.next
  pub sized : (z : Size) → r.worked ≡ Sized z → (y : Size) × (part.worked ≡ Sized y)
  pub worked : r.worked ≡ size part.worked

-- a kind with one child
abbrev pub Wraps : (kind : ℕ) → (child r : Walked) → Type 0
Wraps kind child r = (w : Wrap) → wrap_kind w ≡ kind → (kind ≡ 5 → ⊥) → (kind ≡ 7 → ⊥) → Made child r (wrap_size (count_of w))

-- the second side of a Result
abbrev pub Results : (ok : Size) → (err r : Walked) → Type 0
Results ok err r = Made err r (λ x. then x (λ s. limited_sum (raised 1 (widened ok s))))

-- an element, where a size follows it
pub record Arrays (s : List ℕ) (element r : Walked) : Type 0 where
  pub next : (count end : ℕ) → below (2 ^ 64) s element.next ≡ done count end → (z : Size) → r.worked ≡ Sized z → r.next ≡ end
  pub sized : (z : Size) → r.worked ≡ Sized z → (y : Size) × (element.worked ≡ Sized y)
  pub worked : (count end : ℕ) → ((y : Size) → element.worked ≡ Sized y → below (2 ^ 64) s element.next ≡ done count end)
      → r.worked ≡ then element.worked (λ y. limited_product (multiplied count (without_largest y)))

-- the same of both, by the kind
pub record Closes (s : List ℕ) (kind : ℕ) (child r : Walked) : Type 0 where
  pub array : kind ≡ 6 → Arrays s child r
  pub wrap : (kind ≡ 6 → ⊥) → Wraps kind child r
