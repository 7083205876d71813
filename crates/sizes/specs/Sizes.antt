-- Sizes of types, of fields, and of messages and unions by their fields, where it is known what names come to.
use Rattle.std.specs.Prelude.{ℕ, ◌+◌, ◌-◌, ◌*◌, ◌/◌, ◌^◌, min, max, Bool, true, false, cond, ◌&&◌, ◌||◌, List, [], ◌∷◌, length, get_or, ltb}
use Rattle.std.proofs.Math.Option.{Option, none, some}
use Rattle.number.specs.Shortest.{groups_of}
use Rattle.tree.specs.Tree.{Tree, Leaf, leaf, wrap, fixed_array, pair, generic, primitive, sub_byte, semantic, named, bits_inline, qualified, map_of, result_of}
use Rattle.tree.specs.Encoding.{Encoding, default, varint, zig_zag, delta}
use Rattle.slot.specs.Field.{Field}
use Rattle.sizes.specs.Elements.{Count, at_most_one, any_number, exactly, count_of, Element, item, entry, limited_element}
pub use Rattle.sizes.specs.declared.Size.{Size}
pub use Rattle.sizes.specs.declared.Size.TheVariants.{Fixed, Bounded, Open}
pub use Rattle.sizes.specs.declared.Operation.{Operation}
pub use Rattle.sizes.specs.declared.Operation.TheVariants.{Sum, Product}
pub use Rattle.sizes.specs.declared.Worked.{Worked}
pub use Rattle.sizes.specs.declared.Worked.TheVariants.{Sized, Over}
pub use Rattle.sizes.specs.declared.Layout.{Layout}
pub use Rattle.sizes.specs.declared.Layout.TheVariants.{Packed, Aligned}

-- ## A size: smallest, largest if any, and whether it is Fixed

abbrev pub smallest : Size → ℕ
smallest (Fixed b) = b
smallest (Bounded l h) = l
smallest (Open l) = l

abbrev pub largest : Size → Option ℕ
largest (Fixed b) = some b
largest (Bounded l h) = some h
largest (Open l) = none

abbrev pub is_fixed : Size → Bool
is_fixed (Fixed b) = true
is_fixed (Bounded l h) = false
is_fixed (Open l) = false

-- a size that is not Fixed
abbrev pub variable : (smallest : ℕ) → (largest : Option ℕ) → Size
variable l (some h) = Bounded l h
variable l none = Open l

-- of two largest, if both exist
abbrev pub both : (ℕ → ℕ → ℕ) → Option ℕ → Option ℕ → Option ℕ
both f (some a) (some b) = some (f a b)
both f (some a) none = none
both f none b = none

-- ## The limit

abbrev pub limit : ℕ
limit = 2 ^ 63 - 1

abbrev pub passes : Size → Bool
passes (Fixed b) = ltb limit b
passes (Bounded l h) = ltb limit l || ltb limit h
passes (Open l) = ltb limit l

-- a size just made, and by what: none of its numbers may pass the limit
unfoldable pub limited : Operation → Size → Worked
limited o s = cond (passes s) (Over o) (Sized s)

-- the sizes that are made by adding, and those that are made by multiplying
abbrev pub limited_sum : Size → Worked
limited_sum s = limited Sum s

abbrev pub limited_product : Size → Worked
limited_product s = limited Product s

-- the number of the refusal
abbrev pub refusal_of : Operation → ℕ
refusal_of Sum = 11
refusal_of Product = 14

-- what is made of a size that was worked out; what passed the limit before stays
unfoldable pub then : Worked → (Size → Worked) → Worked
then (Sized s) next = next s
then (Over o) next = Over o

-- ## Types without parts

-- Bool, U8, U16, U32, U64, I8, I16, I32, I64, F32, F64, Fixed32, Fixed64, Void
unfoldable pub primitive_bits : ℕ → ℕ
primitive_bits p = get_or (1 ∷ 8 ∷ 16 ∷ 32 ∷ 64 ∷ 8 ∷ 16 ∷ 32 ∷ 64 ∷ 32 ∷ 64 ∷ 32 ∷ 64 ∷ 0 ∷ []) p 0

-- String, Bytes, Rgb, Uuid, Timestamp, Hash; the first two have no bits of their own
unfoldable pub semantic_bits : ℕ → Option ℕ
semantic_bits m = get_or (none ∷ none ∷ some 24 ∷ some 128 ∷ some 64 ∷ some 256 ∷ []) m none

-- Fixed at the bits, if there are any, else from 0 without largest
abbrev pub fixed_or_open : Option ℕ → Size
fixed_or_open (some b) = Fixed b
fixed_or_open none = Open 0

-- what a name comes to
abbrev pub Resolver : Type 0
Resolver = ℕ → Worked

-- no type holds a qualified name
unfoldable pub leaf_size : Resolver → Leaf → Worked
leaf_size r (primitive p) = Sized (Fixed (primitive_bits p))
leaf_size r (sub_byte g b) = Sized (Fixed b)
leaf_size r (semantic m) = Sized (fixed_or_open (semantic_bits m))
leaf_size r (named i) = r i
leaf_size r (bits_inline ns) = Sized (Fixed (length ns))
leaf_size r (qualified n) = Sized (Open 0)

-- ## Types with parts

-- 1 up to 1 + largest, if any
abbrev pub optional_size : Size → Size
optional_size s = variable 1 (both ◌+◌ (some 1) (largest s))

-- so many times: vectors, quaternions and matrices
abbrev pub multiplied : (count : ℕ) → Size → Size
multiplied k (Fixed b) = Fixed (b * k)
multiplied k (Bounded l h) = Bounded (l * k) (h * k)
multiplied k (Open l) = Open (l * k)

-- a Fixed size as it is, another from its smallest without largest: what a fixed array multiplies
abbrev pub without_largest : Size → Size
without_largest (Fixed b) = Fixed b
without_largest (Bounded l h) = Open l
without_largest (Open l) = Open l

-- the lesser smallest up to the greater largest, if both exist
abbrev pub widened : Size → Size → Size
widened s s' = variable (min (smallest s) (smallest s')) (both max (largest s) (largest s'))

-- so many bits more; never Fixed
abbrev pub raised : (bits : ℕ) → Size → Size
raised n s = variable (n + smallest s) (both ◌+◌ (some n) (largest s))

unfoldable pub wrap_size : Count → (child : Worked) → Worked
wrap_size at_most_one child = then child (λ s. limited_sum (optional_size s))
wrap_size any_number child = Sized (Open 8)
wrap_size (exactly k) child = then child (λ s. limited_product (multiplied k s))

-- no type holds a generic
unfoldable pub type_size : Resolver → Tree → Worked
type_size r (leaf l) = leaf_size r l
type_size r (wrap w t) = wrap_size (count_of w) (type_size r t)
type_size r (fixed_array t k) = then (type_size r t) (λ s. limited_product (multiplied k (without_largest s)))
type_size r (pair map_of t u) = Sized (Open 8)
type_size r (pair result_of t u) = then (type_size r t) (λ s. then (type_size r u) (λ s'. limited_sum (raised 1 (widened s s'))))
type_size r (generic n t) = Sized (Open 0)

-- ## Fields

-- what a list says of a primitive type, and 80 of any other
abbrev pub leaf_span : List ℕ → Leaf → ℕ
leaf_span ends (primitive p) = get_or ends p 80
leaf_span ends (sub_byte g b) = 80
leaf_span ends (semantic m) = 80
leaf_span ends (named i) = 80
leaf_span ends (bits_inline ns) = 80
leaf_span ends (qualified n) = 80

abbrev pub span_end : List ℕ → Tree → ℕ
span_end ends (leaf l) = leaf_span ends l
span_end ends (wrap w t) = 80
span_end ends (fixed_array t k) = 80
span_end ends (pair p t u) = 80
span_end ends (generic n t) = 80

-- Varint reaches from 8 to 24, 40 or 80 on U16, U32, U64, else to 80
unfoldable pub varint_end : Tree → ℕ
varint_end t = span_end (80 ∷ 80 ∷ 24 ∷ 40 ∷ 80 ∷ []) t

-- ZigZag likewise on I16, I32, I64
unfoldable pub zig_zag_end : Tree → ℕ
zig_zag_end t = span_end (80 ∷ 80 ∷ 80 ∷ 80 ∷ 80 ∷ 80 ∷ 24 ∷ 40 ∷ 80 ∷ []) t

-- Delta counts as its inner encoding
unfoldable pub encoded_size : Resolver → Encoding → Tree → Worked
encoded_size r default t = type_size r t
encoded_size r varint t = Sized (Bounded 8 (varint_end t))
encoded_size r zig_zag t = Sized (Bounded 8 (zig_zag_end t))
encoded_size r (delta e) t = encoded_size r e t

-- ## Limits

-- key and value: only their largest count
abbrev pub entry_size : (key value : Size) → Size
entry_size k v = variable 0 (both ◌+◌ (largest k) (largest v))

-- a map's key first, then its value in every case
unfoldable pub element_size : Resolver → Element → Worked
element_size r (item t) = type_size r t
element_size r (entry t u) = then (type_size r t) (λ k. then (type_size r u) (λ v. limited_sum (entry_size k v)))

-- from 8; to so many times an element's largest, if it has one, and 8 for each group of that number; never Fixed
abbrev pub up_to : (most : ℕ) → (largest : Option ℕ) → Worked
up_to n none = Sized (Open 8)
up_to n (some h) = then (limited_product (multiplied n (Fixed h))) (λ all. limited_sum (Bounded 8 (8 * groups_of n + smallest all)))

-- where a limit bears on elements, at most so many of them
unfoldable pub elements_size : Resolver → (most : ℕ) → Option Element → (otherwise : Worked) → Worked
elements_size r n none otherwise = otherwise
elements_size r n (some e) otherwise = then (element_size r e) (λ s. up_to n (largest s))

-- ## Layouts

-- the next multiple of 8
abbrev pub to_bytes : ℕ → ℕ
to_bytes n = (n + 7) / 8 * 8

-- the rounding rule of a layout
abbrev pub round_up : Layout → ℕ → ℕ
round_up Packed n = n
round_up Aligned n = to_bytes n

-- both ends rounded; Fixed stays Fixed, and nothing becomes so
abbrev pub rounded : (up : ℕ → ℕ) → Size → Size
rounded up (Fixed b) = Fixed (up b)
rounded up (Bounded l h) = Bounded (up l) (up h)
rounded up (Open l) = Open (up l)

-- rounding counts as a sum
abbrev pub laid : Layout → Size → Worked
laid Packed s = Sized s
laid Aligned s = limited_sum (rounded to_bytes s)

-- a field by itself
abbrev pub field_alone : Resolver → Field → Worked
field_alone r f = elements_size r f.limit (limited_element f) (encoded_size r f.encoding f.type)

-- a field's size, as it is added
unfoldable pub field_size : Layout → Resolver → Field → Worked
field_size L r f = then (field_alone r f) (laid L)

-- ## Messages

-- Fixed, or variable
abbrev pub marked : (fixed : Bool) → (smallest : ℕ) → (largest : Option ℕ) → Size
marked true l h = Fixed l
marked false l h = variable l h

-- sums, Fixed if both are, without largest where one has none
abbrev pub added : Size → Size → Size
added s s' = marked (is_fixed s && is_fixed s') (smallest s + smallest s') (both ◌+◌ (largest s) (largest s'))

-- the running total, and the fields that are still to be added
unfoldable pub add_fields : Layout → Resolver → (total : Size) → List Field → Worked
add_fields L r total [] = Sized total
add_fields L r total (f ∷ fs) =
    then (field_size L r f) (λ s. then (limited_sum (added total s)) (λ total'. add_fields L r total' fs))

-- a message's fields, or a variant's
abbrev pub fields_size : Layout → Resolver → List Field → Worked
fields_size L r fs = add_fields L r (Fixed 0) fs

-- ## Unions

-- where the least over variants starts: above every smallest within the limit
abbrev pub mark : ℕ
mark = 2 ^ 64 - 1

-- the extremes so far, and the variants that are still to be looked at
unfoldable pub add_variants : Layout → Resolver → (extremes : Size) → List (List Field) → Worked
add_variants L r extremes [] = Sized extremes
add_variants L r extremes (v ∷ vs) = then (fields_size L r v) (λ s. add_variants L r (widened extremes s) vs)

-- 8 plus the extremes over variants; 8..8 where there is none
unfoldable pub union_size : Layout → Resolver → List (List Field) → Worked
union_size L r [] = Sized (Bounded 8 8)
union_size L r (v ∷ vs) = then (add_variants L r (Bounded mark 0) (v ∷ vs)) (λ s. limited_sum (raised 8 s))
