-- Reading an image to its last byte refuses by 1 to 6 only. Assumes nothing.
use Prim.Native.Nat.{ℕ, zero, suc, ◌+◌, ◌≤◌, ◌%◌, ◌^◌}
use mathlib.Core.List.{List, [], ◌∷◌}
use mathlib.Core.Bool.{Bool, true, false, cond}
use mathlib.Core.Option.{none, some}
use native.Mathlib.Omega.{arith}
use lib.ListN.{length, get_or}
use lib.Dec.{ltb, leb}
use Rattle.number.specs.Number.{after, groups_at, number_at}
use Rattle.number.specs.Grammar.{Grammar, give, take, place, refuse, ◌>>=◌, number, kind, value, name, slot, many, counted, too_deep, nested, Outcome, done, refused, and_then, ranged, below, read}
use Rattle.number.specs.declared.Number.{Number}
use Rattle.tree.specs.Tree.{Tree}
use Rattle.tree.specs.TreeAt.{Node, one, two, sized, applied, kinds_of, kind_table, sub_byte_at, bits_at, generic_at, no_kind, body_at, head_at, fill, tree_at}
use Rattle.tree.specs.Encoding.{default, varint, zig_zag, delta, encoding_fill, encoding_at}
use Rattle.tree.specs.declared.Sort.{Sort}
use Rattle.tree.specs.declared.Sort.TheVariants.{Resolved, Expression}
use Rattle.slot.specs.Field.{span_at, stored_table, stored_at, limit_at, field_at, fields_at}
use Rattle.slot.specs.Slot.{Slot, message_at, retired_at, ordinals_at, enum_at, flags_at, union_at, newtype_at, alias_at, trait_field_at, trait_at, trait_span_at, impl_at, made, slot_table, slot_body_at, slot_at}
use Rattle.slot.specs.declared.Edition.{Edition}
use Rattle.slot.specs.declared.Edition.TheVariants.{One, Two}
use Rattle.image.specs.Image.{front_at, placed_at, declared_at, end_at, Image, image_at, whole, image_of}

-- an outcome is no refusal past 6
abbrev pub Low : {A : Type 0} → Outcome A → Type 0
Low (done a n) = Unit {0}
Low (refused r p) = r ≤ 6

unfoldable LowNumber : Number → Type 0
LowNumber (Number.Value v n) = Unit {0}
LowNumber (Number.Refused r) = r ≤ 6

-- a test's two outcomes
low_if : (b : Bool) (x y : Number) → LowNumber x → LowNumber y → LowNumber (cond b x y)
low_if true x y h k = h
low_if false x y h k = k

low_after : (g : ℕ) (x : Number) → LowNumber x → LowNumber (after g x)
unfolding after LowNumber
low_after g (Number.Value v n) l = tt
low_after g (Number.Refused r) l = l

by_2 : LowNumber (Number.Refused 2)
unfolding LowNumber
by_2 = omega arith

by_3 : LowNumber (Number.Refused 3)
unfolding LowNumber
by_3 = omega arith

by_value : (v n : ℕ) → LowNumber (Number.Value v n)
unfolding LowNumber
by_value v n = tt

low_groups : (more least : ℕ) (s : List ℕ) (at : ℕ) → LowNumber (groups_at more least s at)
unfolding groups_at
low_groups zero least s at =
    low_if (ltb at (length s)) _ _
    (low_if (leb least (get_or s at 0)) _ _ (low_if (leb (get_or s at 0) 1) _ _ (by_value (get_or s at 0) (at + 1)) by_3) by_3) by_2
low_groups (suc more) least s at =
    low_if (ltb at (length s)) _ _
    (low_if (leb least (get_or s at 0)) _ _
    (low_if (ltb (get_or s at 0) 128) _ _ (by_value (get_or s at 0) (at + 1))
    (low_after (get_or s at 0 % 128) (groups_at more 1 s (at + 1)) (low_groups more 1 s (at + 1)))) by_3) by_2

low_ranged : (at limit : ℕ) (x : Number) → LowNumber x → Low (ranged at limit x)
unfolding ranged LowNumber
low_ranged at limit (Number.Value v n) l = go (ltb v limit)
  where
    go : (b : Bool) → Low (cond b (done v n) (refused 4 at))
    go true = tt
    go false = omega arith
low_ranged at limit (Number.Refused r) l = l

low_then : {A B : Type 0} (m : Outcome A) (f : A → ℕ → Outcome B) → Low m → ((a : A) (n : ℕ) → Low (f a n)) → Low (and_then m f)
unfolding and_then
low_then (done a n) f l h = h a n
low_then (refused r p) f l h = l

-- a grammar refuses by no number past 6
unfoldable Mild : {A : Type 0} → Grammar A → Type 0
Mild (give a) = Unit {0}
Mild (take role limit k) = (v : ℕ) → Mild (k v)
Mild (place k) = (p : ℕ) → Mild (k p)
Mild (refuse r p) = r ≤ 6

low_read : {A : Type 0} (g : Grammar A) (s : List ℕ) (at : ℕ) → Mild g → Low (read g s at)
unfolding Mild read below number_at
low_read (give a) s at l = tt
low_read (take role limit k) s at l =
    low_then (below limit s at) _ (low_ranged at limit (number_at s at) (low_groups 9 0 s at)) (λ v n. low_read (k v) s n (l v))
low_read (place k) s at l = low_read (k at) s at (l at)
low_read (refuse r p) s at l = l

bind : {A B : Type 0} (g : Grammar A) (f : A → Grammar B) → Mild g → ((a : A) → Mild (f a)) → Mild (◌>>=◌ g f)
unfolding Mild ◌>>=◌
bind (give a) f l h = h a
bind (take role limit k) f l h = λ v. bind (k v) f (l v) h
bind (place k) f l h = λ p. bind (k p) f (l p) h
bind (refuse r p) f l h = l

run : {A : Type 0} (n : ℕ) (g : Grammar A) → Mild g → Mild (many n g)
unfolding Mild many
run zero g l = tt
run (suc n) g l = bind g _ l (λ x. bind (many n g) _ (run n g l) (λ xs. tt))

counts : {A : Type 0} (g : Grammar A) → Mild g → Mild (counted g)
unfolding Mild counted ◌>>=◌
counts g l = λ c. run c g l

levels : {H A : Type 0} (kinds : ℕ) (head : Grammar H) (f : Grammar A → H → Grammar A) → Mild head
    → ((g : Grammar A) → Mild g → (h : H) → Mild (f g h)) → (n : ℕ) → Mild (nested kinds head f n)
unfolding Mild nested too_deep ◌>>=◌
levels kinds head f l k zero = λ p v. omega arith
levels kinds head f l k (suc n) = bind head _ l (λ h. k (nested kinds head f n) (levels kinds head f l k n) h)

abbrev AllMild : {A : Type 0} → List (Grammar A) → Type 0
AllMild [] = Unit {0}
AllMild (g ∷ t) = Mild g × AllMild t

entry : {A : Type 0} (t : List (Grammar A)) → AllMild t → (k : ℕ) → Mild (get_or t k no_kind)
unfolding Mild ◌>>=◌
entry [] l k = λ p. omega arith
entry (g ∷ t) l zero = l.0
entry (g ∷ t) l (suc k) = entry t l.1 k

names_mild : (n : ℕ) → Mild (counted (number name n))
unfolding Mild
names_mild n = counts (number name n) (λ v. tt)

tree_mild : (sort : Sort) (n d : ℕ) → Mild (tree_at sort n d)
unfolding Mild tree_at head_at body_at sub_byte_at bits_at generic_at fill ◌>>=◌
tree_mild sort n d = levels (kinds_of sort) (head_at sort n) fill (λ k. entry (kind_table sort n) table k) children d
  where
    table : AllMild (kind_table sort n)
    table = (λ v. tt, (λ g b. tt, (λ v. tt, (λ v. tt, (tt, (tt, (tt, (tt, (tt, (tt, (tt, (tt, (tt, (tt, (tt, (tt, (bind (counted (number name n)) _ (names_mild n) (λ ns. tt), (λ v. tt, (λ v. tt, tt)))))))))))))))))))

    children : (g : Grammar Tree) → Mild g → (h : Node) → Mild (fill g h)
    children g l (Node.none x) = tt
    children g l (one w) = bind g _ l (λ t. tt)
    children g l (two p) = bind g _ l (λ t. bind g _ l (λ u. tt))
    children g l sized = bind g _ l (λ t v. tt)
    children g l (applied v) = bind g _ l (λ t. tt)

encoding_mild : (d : ℕ) → Mild (encoding_at d)
unfolding Mild encoding_at encoding_fill ◌>>=◌
encoding_mild d = levels 4 (number kind 4) encoding_fill (λ v. tt) (λ g l k. entry (give default ∷ give varint ∷ give zig_zag ∷ ◌>>=◌ g (λ e. give (delta e)) ∷ []) (tt, (tt, (tt, (bind g _ l (λ e. tt), tt)))) k) d

stored_mild : Mild stored_at
unfolding Mild stored_at ◌>>=◌
stored_mild = λ k. entry stored_table (tt, (λ b. tt, (λ m. tt, (λ m x. tt, tt)))) k

limit_mild : (ed : Edition) → Mild (limit_at ed)
unfolding Mild limit_at
limit_mild One = tt
limit_mild Two = λ l. tt

fields_mild : (ed : Edition) (n : ℕ) → Mild (fields_at ed n)
unfolding Mild field_at ◌>>=◌
fields_mild ed n = counts (field_at ed n) (λ v. bind (encoding_at 32) _ (encoding_mild 32) (λ e. bind (tree_at Resolved n 32) _ (tree_mild Resolved n 32) (λ t. bind (limit_at ed) _ (limit_mild ed) (λ l. tt))))

retired_mild : (ed : Edition) → Mild (retired_at ed)
unfolding Mild retired_at
retired_mild One = tt
retired_mild Two = counts (number value (2 ^ 32)) (λ v. tt)

ordinals_mild : (ed : Edition) → Mild (ordinals_at ed)
unfolding Mild ordinals_at
ordinals_mild ed = bind (counted (number value (2 ^ 32))) _ (counts (number value (2 ^ 32)) (λ v. tt)) (λ os. bind (retired_at ed) _ (retired_mild ed) (λ rs. tt))

trait_span_mild : Mild trait_span_at
unfolding Mild trait_span_at span_at ◌>>=◌
trait_span_mild = λ k. entry (give none ∷ ◌>>=◌ span_at (λ p. give (some p)) ∷ []) (tt, (λ o l. tt, tt)) k

-- a slot of one kind
slot_of : {A : Type 0} (f : A → Slot) (g : Grammar A) → Mild g → Mild (made f g)
unfolding Mild
slot_of f g l = bind g _ l (λ x. tt)

slot_mild : (ed : Edition) (n : ℕ) → Mild (slot_at ed n)
unfolding Mild slot_at slot_body_at message_at span_at enum_at flags_at union_at newtype_at alias_at trait_at trait_field_at impl_at ◌>>=◌
slot_mild ed n = λ k. entry (slot_table ed n) (tt, (slot_of Slot.message (message_at ed n) messages, (slot_of Slot.enum (enum_at ed) enums, (slot_of Slot.flags (flags_at ed) flags, (slot_of Slot.union (union_at ed n) unions, (slot_of Slot.newtype (newtype_at n) newtypes, (tt, (slot_of Slot.alias (alias_at n) aliases, (slot_of Slot.trait (trait_at n) traits, (slot_of Slot.impl (impl_at n) impls, tt)))))))))) k
  where
    type : Mild (tree_at Resolved n 32)
    type = tree_mild Resolved n 32

    expression : Mild (tree_at Expression n 32)
    expression = tree_mild Expression n 32

    messages : Mild (message_at ed n)
    messages = λ o l. bind stored_at _ stored_mild (λ z. bind (fields_at ed n) _ (fields_mild ed n) (λ fs. tt))

    enums : Mild (enum_at ed)
    enums = λ b x w. bind (ordinals_at ed) _ (ordinals_mild ed) (λ os. tt)

    flags : Mild (flags_at ed)
    flags = λ w. bind (ordinals_at ed) _ (ordinals_mild ed) (λ os. tt)

    unions : Mild (union_at ed n)
    unions = bind stored_at _ stored_mild (λ z. bind (counted (fields_at ed n)) _ (counts (fields_at ed n) (fields_mild ed n)) (λ vs. tt))

    newtypes : Mild (newtype_at n)
    newtypes = bind (tree_at Resolved n 32) _ type (λ i. bind (tree_at Resolved n 32) _ type (λ t. tt))

    aliases : Mild (alias_at n)
    aliases = bind (counted (number name n)) _ (names_mild n) (λ ps. bind (tree_at Expression n 32) _ expression (λ e. tt))

    traits : Mild (trait_at n)
    traits = bind (counted (number name n)) _ (names_mild n) (λ ps. bind (counted (trait_field_at n)) _ (counts (trait_field_at n) (λ v. bind (tree_at Expression n 32) _ expression (λ e. tt))) (λ fs. tt))

    impls : Mild (impl_at n)
    impls = λ o l i. bind trait_span_at _ trait_span_mild (λ q. bind (counted (tree_at Resolved n 32)) _ (counts (tree_at Resolved n 32) type) (λ ts. bind (tree_at Resolved n 32) _ type (λ t. tt)))

front_mild : Mild front_at
unfolding Mild front_at ◌>>=◌
front_mild = λ n p. bind (many n (number slot 513)) _ (run n (number slot 513) (λ v. tt)) (λ fs c. tt)

placed_mild : (ed : Edition) (n : ℕ) → Mild (placed_at ed n)
unfolding Mild placed_at ◌>>=◌
placed_mild ed n = λ p. bind (slot_at ed n) _ (slot_mild ed n) (λ x. tt)

declared_mild : Mild declared_at
unfolding Mild declared_at ◌>>=◌
declared_mild = λ c p. bind (many c (number slot (2 ^ 32))) _ (run c (number slot (2 ^ 32)) (λ v. tt)) (λ ds. tt)

image_mild : (ed : Edition) → Mild (image_at ed)
unfolding Mild image_at end_at
image_mild ed =
    bind front_at _ front_mild
    (λ f. bind (many f.slot_count (placed_at ed f.names)) _ (run f.slot_count (placed_at ed f.names) (placed_mild ed f.names))
    (λ ss. bind declared_at _ declared_mild (λ d. tt)))

pub image_low : (ed : Edition) (s : List ℕ) → Low (image_of ed s)
unfolding image_of whole
image_low ed s = outer (ltb 65536 (length s))
  where
    inner : (b : Bool) (i : Image) (n : ℕ) → Low (cond b (refused 6 n) (done i n))
    inner true i n = omega arith
    inner false i n = tt

    ends : (o : Outcome Image) → Low o → Low (whole s o)
    ends (done i n) l = inner (ltb n (length s)) i n
    ends (refused r p) l = l

    outer : (b : Bool) → Low (cond b (refused 1 0) (whole s (read (image_at ed) s 0)))
    outer true = omega arith
    outer false = ends (read (image_at ed) s 0) (low_read (image_at ed) s 0 (image_mild ed))
