-- Lengths of values, and what a type is made of.
use Rattle.std.specs.Prelude.{◌≡◌, ℕ, suc, ◌+◌, ◌-◌, ◌*◌, ◌^◌, ◌%◌, ◌≤◌, length}
use mathlib.Core.List.{List, [], ◌∷◌, ◌++◌, Memᴰ}
use Rattle.std.proofs.Math.Option.{Option, none, some}
use Rattle.number.specs.Shortest.{groups_of}
use Rattle.tree.specs.Tree.{Tree, Leaf, Wrap, leaf, wrap, fixed_array, pair, generic, primitive, sub_byte, semantic, named, bits_inline, qualified, map_of, result_of}
use Rattle.tree.specs.Encoding.{Encoding, default, varint, zig_zag, delta}
use Rattle.slot.specs.Field.{Field}
use Rattle.image.specs.Schema.{Schema}
use Rattle.sizes.specs.Elements.{Count, at_most_one, any_number, exactly, count_of, Element, item, entry, limited_element}
use Rattle.sizes.specs.Sizes.{Size, Layout, round_up, smallest, largest, primitive_bits, semantic_bits, varint_end, zig_zag_end}
use Rattle.sizes.specs.Names.{Content, fields, variants, bits, terminal, anything, content_of, State}

-- ## The length rules

-- these bits, or any length where there are none
abbrev pub FixedOrAny : Option ℕ → ℕ → Type 0
FixedOrAny (some b) n = n ≡ b
FixedOrAny none n = Unit {0}

-- a multiple of 8 in a span from 8
pub record InSpan (end n : ℕ) : Type 0 where
  pub eights : n % 8 ≡ 0
  pub least : 8 ≤ n
  pub most : n ≤ end

-- counts are below 2^64
abbrev pub most_elements : ℕ
most_elements = 2 ^ 64 - 1

mutual
  -- a value of the type may have this length in bits
  pub data Length (L : Layout) (S : Schema) : Tree → ℕ → Type 0 where
    of_primitive : {p : ℕ} → Length L S (leaf (primitive p)) (primitive_bits p)
    of_sub_byte : {g b : ℕ} → Length L S (leaf (sub_byte g b)) b
    of_semantic : {m n : ℕ} → FixedOrAny (semantic_bits m) n → Length L S (leaf (semantic m)) n
    of_named : {i n : ℕ} → ContentLength L S (content_of S i) n → Length L S (leaf (named i)) n
    of_bits_inline : {ns : List ℕ} → Length L S (leaf (bits_inline ns)) (length ns)
    of_qualified : {k n : ℕ} → Length L S (leaf (qualified k)) n
    of_wrap : {w : Wrap} {t : Tree} {n : ℕ} → WrapLength L S (count_of w) t n → Length L S (wrap w t) n
    of_fixed_array : {t : Tree} {k n : ℕ} → Several L S (item t) k n → Length L S (fixed_array t k) n
    of_map : {t u : Tree} {n : ℕ} → Counted L S (entry t u) most_elements n → Length L S (pair map_of t u) n
    of_ok : {t u : Tree} {n : ℕ} → Length L S t n → Length L S (pair result_of t u) (1 + n)
    of_err : {t u : Tree} {n : ℕ} → Length L S u n → Length L S (pair result_of t u) (1 + n)
    of_generic : {k n : ℕ} {t : Tree} → Length L S (generic k t) n

  -- kinds with one child
  pub data WrapLength (L : Layout) (S : Schema) : Count → Tree → ℕ → Type 0 where
    absent : {t : Tree} → WrapLength L S at_most_one t 1
    present : {t : Tree} {n : ℕ} → Length L S t n → WrapLength L S at_most_one t (1 + n)
    -- Array, Set
    of_elements : {t : Tree} {n : ℕ} → Counted L S (item t) most_elements n → WrapLength L S any_number t n
    of_copies : {t : Tree} {k n : ℕ} → Several L S (item t) k n → WrapLength L S (exactly k) t n

  -- a count, at most so great, in groups of seven bits, and that many elements
  pub data Counted (L : Layout) (S : Schema) : Element → (most : ℕ) → ℕ → Type 0 where
    of_count : {e : Element} {most k n : ℕ} → k ≤ most → Several L S e k n → Counted L S e most (8 * groups_of k + n)

  -- a sum of that many elements' lengths; elements may repeat
  pub data Several (L : Layout) (S : Schema) : Element → (count : ℕ) → ℕ → Type 0 where
    no_element : {e : Element} → Several L S e 0 0
    one_element : {e : Element} {k n m : ℕ} → ElementLength L S e n → Several L S e k m → Several L S e (suc k) (n + m)

  -- a map's element is key and value
  pub data ElementLength (L : Layout) (S : Schema) : Element → ℕ → Type 0 where
    of_item : {t : Tree} {n : ℕ} → Length L S t n → ElementLength L S (item t) n
    of_entry : {t u : Tree} {n m : ℕ} → Length L S t n → Length L S u m → ElementLength L S (entry t u) (n + m)

  -- a type in an encoding
  pub data EncodedLength (L : Layout) (S : Schema) : Encoding → Tree → ℕ → Type 0 where
    plain : {t : Tree} {n : ℕ} → Length L S t n → EncodedLength L S default t n
    of_varint : {t : Tree} {n : ℕ} → InSpan (varint_end t) n → EncodedLength L S varint t n
    of_zig_zag : {t : Tree} {n : ℕ} → InSpan (zig_zag_end t) n → EncodedLength L S zig_zag t n
    of_delta : {e : Encoding} {t : Tree} {n : ℕ} → EncodedLength L S e t n → EncodedLength L S (delta e) t n

  -- a field by itself: as its type in its encoding is, unless its limit bears on elements
  pub data OwnLength (L : Layout) (S : Schema) : Option Element → Field → ℕ → Type 0 where
    unlimited : {f : Field} {n : ℕ} → EncodedLength L S f.encoding f.type n → OwnLength L S none f n
    limited_to : {f : Field} {e : Element} {n : ℕ} → Counted L S e f.limit n → OwnLength L S (some e) f n

  -- a sum over fields
  pub data FieldsLength (L : Layout) (S : Schema) : List Field → ℕ → Type 0 where
    no_field : FieldsLength L S [] 0
    one_field : {f : Field} {fs : List Field} {n m : ℕ} → OwnLength L S (limited_element f) f n →
        FieldsLength L S fs m → FieldsLength L S (f ∷ fs) (round_up L n + m)

  -- what a name stands for
  pub data ContentLength (L : Layout) (S : Schema) : Content → ℕ → Type 0 where
    of_message : {fs : List Field} {n : ℕ} → FieldsLength L S fs n → ContentLength L S (fields fs) n
    of_variant : {vs : List (List Field)} {v : List Field} {n : ℕ} → Memᴰ v vs → FieldsLength L S v n →
        ContentLength L S (variants vs) (8 + n)
    of_no_variant : ContentLength L S (variants []) 8
    of_bits : {b : ℕ} → ContentLength L S (bits b) b
    of_terminal : {t : Tree} {n : ℕ} → Length L S t n → ContentLength L S (terminal t) n
    of_anything : {n : ℕ} → ContentLength L S anything n

-- ## What a type is made of

abbrev pub leaf_parts : Leaf → List ℕ
leaf_parts (primitive p) = []
leaf_parts (sub_byte g b) = []
leaf_parts (semantic m) = []
leaf_parts (named i) = i ∷ []
leaf_parts (bits_inline ns) = []
leaf_parts (qualified n) = []

-- elements of Array and Set are no parts of a type
abbrev pub wrap_parts : Count → (child : List ℕ) → List ℕ
wrap_parts at_most_one child = child
wrap_parts any_number child = []
wrap_parts (exactly k) child = child

-- the slots that a type names, elements of Array, Map and Set left out
unfoldable pub type_parts : Tree → List ℕ
type_parts (leaf l) = leaf_parts l
type_parts (wrap w t) = wrap_parts (count_of w) (type_parts t)
type_parts (fixed_array t k) = type_parts t
type_parts (pair map_of t u) = []
type_parts (pair result_of t u) = type_parts t ++ type_parts u
type_parts (generic n t) = type_parts t

-- a Varint or ZigZag field has no parts
unfoldable pub encoded_parts : Encoding → Tree → List ℕ
encoded_parts default t = type_parts t
encoded_parts varint t = []
encoded_parts zig_zag t = []
encoded_parts (delta e) t = encoded_parts e t

unfoldable pub element_parts : Element → List ℕ
element_parts (item t) = type_parts t
element_parts (entry t u) = type_parts t ++ type_parts u

-- elements that a limit bears on are parts
unfoldable pub own_parts : Option Element → (otherwise : List ℕ) → List ℕ
own_parts none otherwise = otherwise
own_parts (some e) otherwise = element_parts e

abbrev pub field_parts : Field → List ℕ
field_parts f = own_parts (limited_element f) (encoded_parts f.encoding f.type)

unfoldable pub fields_parts : List Field → List ℕ
fields_parts [] = []
fields_parts (f ∷ fs) = field_parts f ++ fields_parts fs

unfoldable pub variants_parts : List (List Field) → List ℕ
variants_parts [] = []
variants_parts (v ∷ vs) = fields_parts v ++ variants_parts vs

unfoldable pub content_parts : Content → List ℕ
content_parts (fields fs) = fields_parts fs
content_parts (variants vs) = variants_parts vs
content_parts (bits b) = []
content_parts (terminal t) = type_parts t
content_parts anything = []

abbrev pub parts_of : Schema → ℕ → List ℕ
parts_of S i = content_parts (content_of S i)

-- the second is reached from the first, by a step or more
pub data Reaches (next : ℕ → List ℕ) : ℕ → ℕ → Type 0 where
  at_once : {i k : ℕ} → Memᴰ k (next i) → Reaches next i k
  by_way_of : {i j k : ℕ} → Memᴰ j (next i) → Reaches next j k → Reaches next i k

-- what is reached, the start included
pub data From (next : ℕ → List ℕ) (i k : ℕ) : Type 0 where
  itself : i ≡ k → From next i k
  reached : Reaches next i k → From next i k

-- nothing that is reached, the start included, is reached again from itself
abbrev pub NoLoop : (ℕ → List ℕ) → ℕ → Type 0
NoLoop next i = (k : ℕ) → From next i k → ¬ Reaches next k k

-- a slot leads to another by parts
abbrev pub LeadsTo : Schema → ℕ → ℕ → Type 0
LeadsTo S = Reaches (parts_of S)

-- a type is made of the slots so reached from it, its own included
abbrev pub MadeOf : Schema → ℕ → ℕ → Type 0
MadeOf S = From (parts_of S)

abbrev pub NothingLeadsBack : Schema → ℕ → Type 0
NothingLeadsBack S = NoLoop (parts_of S)

-- parts of a newtype's terminal type alone
unfoldable pub terminal_parts : Content → List ℕ
terminal_parts (fields fs) = []
terminal_parts (variants vs) = []
terminal_parts (bits b) = []
terminal_parts (terminal t) = type_parts t
terminal_parts anything = []

abbrev pub terminals_of : Schema → ℕ → List ℕ
terminals_of S i = terminal_parts (content_of S i)

-- no newtype leads back to itself by terminal types alone: refusal 8 is for the others
abbrev pub NewtypesEnd : Schema → Type 0
NewtypesEnd S = (i : ℕ) → ¬ Reaches (terminals_of S) i i

-- ## Within a size

abbrev pub AtMost : ℕ → Option ℕ → Type 0
AtMost n (some h) = n ≤ h
AtMost n none = Unit {0}

-- at least the smallest and, where there is one, at most the largest
pub record Within (n : ℕ) (s : Size) : Type 0 where
  pub not_below : smallest s ≤ n
  pub not_above : AtMost n (largest s)

-- the smallest is not above a largest that it has
abbrev pub Ordered : Size → Type 0
Ordered s = AtMost (smallest s) (largest s)

-- ordered, and each length lies within
pub record Encloses (P : ℕ → Type 0) (s : Size) : Type 0 where
  pub ordered : Ordered s
  pub within : (n : ℕ) → P n → Within n s

-- the lengths of a slot's type
abbrev pub SlotLength : Layout → Schema → ℕ → ℕ → Type 0
SlotLength L S i = Length L S (leaf (named i))

-- each stored size is ordered and encloses its type's lengths
abbrev pub Trusted : Layout → Schema → State → Type 0
Trusted L S st = (i : ℕ) (s : Size) → st i ≡ some s → Encloses (SlotLength L S i) s
