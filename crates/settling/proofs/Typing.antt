-- Sizes of types by their parts, and of fields by their encodings. Assumes nothing.
use Prim.Native.Nat.{ℕ}
use mathlib.Core.Path.{◌≡◌, refl, sym, ap, subst, ◌∙◌}
use mathlib.Core.List.{List}
use mathlib.Core.Bool.{Bool, true, false, false≢true}
use native.Mathlib.Omega.{arith}
use Rattle.number.specs.Grammar.{Grammar, Outcome, done, below, read}
use Rattle.tree.specs.Tree.{Tree, Leaf, Wrap, Pair, leaf, wrap, fixed_array, pair, generic, primitive, sub_byte, semantic, named, bits_inline, qualified, map_of, result_of, leaf_kind, leaf_number, wrap_kind, pair_kind}
use Rattle.tree.specs.TreeAt.{head_at, shape}
use Rattle.tree.specs.declared.Sort.TheVariants.{Resolved}
use Rattle.tree.specs.declared.Head.{Head}
use Rattle.tree.proofs.Shapes.{Parts}
use Rattle.tree.specs.Encoding.{Encoding, default, varint, zig_zag, delta}
use Rattle.slot.specs.Field.{type_at}
use Rattle.sizes.specs.declared.Size.{Size}
use Rattle.sizes.specs.declared.Size.TheVariants.{Bounded, Open}
use Rattle.sizes.specs.declared.Operation.{Operation}
use Rattle.sizes.specs.declared.Worked.{Worked}
use Rattle.sizes.specs.declared.Worked.TheVariants.{Sized, Over}
use Rattle.sizes.specs.Elements.{count_of, is_plain}
use Rattle.sizes.specs.Sizes.{then, limited_sum, limited_product, multiplied, without_largest, Resolver, leaf_size, wrap_size, type_size, raised, widened, varint_end, zig_zag_end, encoded_size}
use Rattle.measures.specs.Heads.{wrap_of}
use Rattle.measures.proofs.ByKind.{wrap_at}
use Rattle.settling.proofs.Heads.{type_parts_lem}
use Rattle.settling.specs.Steps.{Headed, LeafTo, NameIn, OneIn, SidesIn, AllSized, Decides, coded_as}
use Rattle.settling.specs.declared.Decided.{Decided}
use Rattle.settling.specs.declared.Coded.{Coded}

pub below_at : (limit : ℕ) (s : List ℕ) {n m : ℕ} {o : Outcome ℕ} → n ≡ m → below limit s m ≡ o → below limit s n ≡ o
below_at limit s e q = rw e q

pub leaf_named : (l : Leaf) {k v : ℕ} → leaf_kind l ≡ k → k ≡ 3 → leaf_number l ≡ v → l ≡ named v
leaf_named (primitive p) e f g = absurd (omega arith)
leaf_named (sub_byte x b) e f g = absurd (omega arith)
leaf_named (semantic m) e f g = absurd (omega arith)
leaf_named (named i) e f g = ap named g
leaf_named (bits_inline ns) e f g = absurd (omega arith)
leaf_named (qualified n) e f g = absurd (omega arith)

pub pair_map : (p : Pair) {k : ℕ} → pair_kind p ≡ k → k ≡ 8 → p ≡ map_of
pair_map map_of e f = refl
pair_map result_of e f = absurd (omega arith)

pub pair_result : (p : Pair) {k : ℕ} → pair_kind p ≡ k → (k ≡ 8 → ⊥) → p ≡ result_of
pair_result map_of e f = absurd (f (sym e))
pair_result result_of e f = refl

module _ (R : Resolver) {t : Tree} where
  pub leaf_sized : {l : Leaf} {w : Worked} → t ≡ leaf l → w ≡ leaf_size R l → w ≡ type_size R t
  unfolding type_size
  leaf_sized e q = q ∙ sym (ap (type_size R) e)

  pub name_sized : {i : ℕ} {w : Worked} → t ≡ leaf (named i) → w ≡ R i → w ≡ type_size R t
  unfolding type_size leaf_size
  name_sized e q = q ∙ sym (ap (type_size R) e)

  -- Array and Set
  pub run_sized : (x : Wrap) {u : Tree} {w : Worked} {k : ℕ} → t ≡ wrap x u → wrap_kind x ≡ k → k ≡ 5 → w ≡ Sized (Open 8) → w ≡ type_size R t
  unfolding type_size wrap_size wrap_of
  run_sized x e f g q = wrap_at x _ (f ∙ g) q ∙ sym (ap (type_size R) e)

  pub set_sized : (x : Wrap) {u : Tree} {w : Worked} {k : ℕ} → t ≡ wrap x u → wrap_kind x ≡ k → k ≡ 7 → w ≡ Sized (Open 8) → w ≡ type_size R t
  unfolding type_size wrap_size wrap_of
  set_sized x e f g q = wrap_at x _ (f ∙ g) q ∙ sym (ap (type_size R) e)

  pub wrap_sized : {x : Wrap} {u : Tree} {w child : Worked} → t ≡ wrap x u → w ≡ wrap_size (count_of x) child → child ≡ type_size R u → w ≡ type_size R t
  unfolding type_size
  wrap_sized {x = x} e q c = q ∙ ap (wrap_size (count_of x)) c ∙ sym (ap (type_size R) e)

  pub map_sized : {p : Pair} {u v : Tree} {w : Worked} → t ≡ pair p u v → p ≡ map_of → w ≡ Sized (Open 8) → w ≡ type_size R t
  unfolding type_size
  map_sized {u = u} {v = v} e f q = q ∙ sym (ap (type_size R) (e ∙ ap (λ (p : Pair). pair p u v) f))

  pub result_sized : {u v : Tree} {a : Size} {w ok err : Worked} → t ≡ pair result_of u v → ok ≡ Sized a → ok ≡ type_size R u → err ≡ type_size R v
      → w ≡ then err (λ s. limited_sum (raised 1 (widened a s))) → w ≡ type_size R t
  unfolding type_size then
  result_sized e f g h q = let z = sym g ∙ f in q ∙ rw (e, z, h)

  pub result_over : {u v : Tree} {ok : Worked} {o : Operation} → t ≡ pair result_of u v → ok ≡ Over o → ok ≡ type_size R u → ok ≡ type_size R t
  unfolding type_size then
  result_over e f g = let z = sym g ∙ f in f ∙ rw (e, z)

  pub array_sized : {u : Tree} {k : ℕ} {w element : Worked} → t ≡ fixed_array u k → w ≡ then element (λ s. limited_product (multiplied k (without_largest s)))
      → element ≡ type_size R u → w ≡ type_size R t
  unfolding type_size
  array_sized {k = k} e q c = q ∙ ap (λ (x : Worked). then x (λ s. limited_product (multiplied k (without_largest s)))) c ∙ sym (ap (type_size R) e)

  pub generic_sized : {n : ℕ} {u : Tree} {w : Worked} → t ≡ generic n u → w ≡ Sized (Open 0) → w ≡ type_size R t
  unfolding type_size
  generic_sized e q = q ∙ sym (ap (type_size R) e)

-- ## Heads

module _ (x y : Head) (e : x ≡ y) where
  moved : (r : Decided) → Decides y r → Decides x r
  moved r h = subst (λ (z : Head). Decides z r) (sym e) h

  pub decided_leaf : (z : Size) (n : ℕ) → LeafTo y n → AllSized y z → Decides x (Decided.Leaf z n)
  unfolding Decides
  decided_leaf z n l h = moved (Decided.Leaf z n) (l, h)

  pub decided_pass : (z : Size) → AllSized y z → Decides x (Decided.Pass z)
  unfolding Decides
  decided_pass z h = moved (Decided.Pass z) h

  pub decided_name : (i n : ℕ) → NameIn y i n → Decides x (Decided.Name i n)
  unfolding Decides
  decided_name i n h = moved (Decided.Name i n) h

  pub decided_one : (k n : ℕ) → OneIn y k n → Decides x (Decided.One k n)
  unfolding Decides
  decided_one k n h = moved (Decided.One k n) h

  pub decided_sides : (n : ℕ) → SidesIn y n → Decides x (Decided.Sides n)
  unfolding Decides
  decided_sides n h = moved (Decided.Sides n) h

-- what the answer says, once it was matched
module _ (x : Head) (r : Decided) (h : Decides x r) where
  pub leaf_decided : (z : Size) (n : ℕ) → r ≡ Decided.Leaf z n → LeafTo x n × AllSized x z
  unfolding Decides
  leaf_decided z n e = subst (Decides x) e h

  pub pass_decided : (z : Size) → r ≡ Decided.Pass z → AllSized x z
  unfolding Decides
  pass_decided z e = subst (Decides x) e h

  pub name_decided : (i n : ℕ) → r ≡ Decided.Name i n → NameIn x i n
  unfolding Decides
  name_decided i n e = subst (Decides x) e h

  pub one_decided : (k n : ℕ) → r ≡ Decided.One k n → OneIn x k n
  unfolding Decides
  one_decided k n e = subst (Decides x) e h

  pub sides_decided : (n : ℕ) → r ≡ Decided.Sides n → SidesIn x n
  unfolding Decides
  sides_decided n e = subst (Decides x) e h

headed : (child : Grammar Tree) (s : List ℕ) (x : Head) (t : Tree) (end : ℕ) → Parts child s x t end → Headed x t
headed child s (Head.Leaf k g v n) t end (l, e, a, b, c, d) = (l, e, a, c)
headed child s (Head.One k n) t end (w, u, e, a, r) = (w, u, e, a)
headed child s (Head.Two k n) t end (p, u, v, m, e, a, r, q) = (p, u, v, e, a)
headed child s (Head.Sized n) t end (u, m, k, e, r, q) = (u, k, e)
headed child s (Head.Generic v n) t end (u, e, r) = (u, e)
headed child s (Head.Refused r p) t end z = z

-- a type has the head that was read
pub type_headed : (names : ℕ) (s : List ℕ) (at : ℕ) (x : Head) → x ≡ shape (read (head_at Resolved names) s at) → (t : Tree) (end : ℕ) → read (type_at names) s at ≡ done t end
    → Headed x t
type_headed names s at x e t end q = headed (type_at names) s x t end (type_parts_lem names s at x (sym e) t end q)

-- and where it has no parts, it ends with it
pub leaf_end : (names : ℕ) (s : List ℕ) (at : ℕ) (x : Head) → x ≡ shape (read (head_at Resolved names) s at) → (n : ℕ) → LeafTo x n → (t : Tree) (end : ℕ)
    → read (type_at names) s at ≡ done t end → n ≡ end
leaf_end names s at x e n l t end q = go x l (type_parts_lem names s at x (sym e) t end q)
  where
    go : (y : Head) → LeafTo y n → Parts (type_at names) s y t end → n ≡ end
    go (Head.Leaf k g v m) f p = sym f ∙ p.5
    go (Head.One k m) f p = absurd f
    go (Head.Two k m) f p = absurd f
    go (Head.Sized m) f p = absurd f
    go (Head.Generic v m) f p = absurd f
    go (Head.Refused r m) f p = absurd f

-- ## Encodings

plain_inj : {n p : ℕ} → Coded.Plain p ≡ Coded.Plain n → p ≡ n
plain_inj e = cc

varint_inj : {n p : ℕ} → Coded.Varint p ≡ Coded.Varint n → p ≡ n
varint_inj e = cc

zigzag_inj : {n p : ℕ} → Coded.ZigZag p ≡ Coded.ZigZag n → p ≡ n
zigzag_inj e = cc

-- which encoding governs, and at which position
pub record Governed (e : Encoding) (n p : ℕ) (plain : Bool) (size : Resolver → Tree → Worked) : Type 0 where
  pub place : p ≡ n
  pub kept : is_plain e ≡ plain
  pub same : (R : Resolver) (t : Tree) → size R t ≡ encoded_size R e t

pub plain_is : (e : Encoding) {n p : ℕ} → Coded.Plain p ≡ coded_as e n → Governed e n p true type_size
unfolding coded_as encoded_size
plain_is default q = record { place = plain_inj q; kept = refl; same = λ R t. refl }
plain_is varint q = let z : ◌≡◌ {A = ℕ} 0 1 = cc in absurd (omega arith)
plain_is zig_zag q = let z : ◌≡◌ {A = ℕ} 0 1 = cc in absurd (omega arith)
plain_is (delta e) q = let g = plain_is e q in record { place = g.place; kept = g.kept; same = g.same }

pub varint_is : (e : Encoding) {n p : ℕ} → Coded.Varint p ≡ coded_as e n → Governed e n p false (λ R t. Sized (Bounded 8 (varint_end t)))
unfolding coded_as encoded_size
varint_is default q = let z : ◌≡◌ {A = ℕ} 0 1 = cc in absurd (omega arith)
varint_is varint q = record { place = varint_inj q; kept = refl; same = λ R t. refl }
varint_is zig_zag q = let z : ◌≡◌ {A = ℕ} 0 1 = cc in absurd (omega arith)
varint_is (delta e) q = let g = varint_is e q in record { place = g.place; kept = g.kept; same = g.same }

pub zigzag_is : (e : Encoding) {n p : ℕ} → Coded.ZigZag p ≡ coded_as e n → Governed e n p false (λ R t. Sized (Bounded 8 (zig_zag_end t)))
unfolding coded_as encoded_size
zigzag_is default q = let z : ◌≡◌ {A = ℕ} 0 1 = cc in absurd (omega arith)
zigzag_is varint q = let z : ◌≡◌ {A = ℕ} 0 1 = cc in absurd (omega arith)
zigzag_is zig_zag q = record { place = zigzag_inj q; kept = refl; same = λ R t. refl }
zigzag_is (delta e) q = let g = zigzag_is e q in record { place = g.place; kept = g.kept; same = g.same }

-- a plain encoding changes no size
pub plain_size : (e : Encoding) → is_plain e ≡ true → (R : Resolver) (t : Tree) → type_size R t ≡ encoded_size R e t
unfolding encoded_size
plain_size default q R t = refl
plain_size varint q R t = absurd (false≢true q)
plain_size zig_zag q R t = absurd (false≢true q)
plain_size (delta e) q R t = plain_size e q R t
