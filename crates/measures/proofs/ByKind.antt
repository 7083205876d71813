-- Heads of types by kind and number: they have the sizes and spans of the types that they head. Assumes nothing.
use mathlib.Core.Path.{◌≡◌, refl, sym, ap, ap₂, ◌∙◌}
use mathlib.Core.Bool.{Bool, true, false, cond}
use mathlib.Core.List.{List, [], ◌∷◌}
use Prim.Native.Nat.{ℕ, zero, suc, ◌≤◌}
use native.Mathlib.Omega.{arith}
use lib.Dec.{eqb}
use lib.ListN.{get_or, length, replicate, length-replicate, get_or-eq_default}
use borrow.Author.Tests.{ne_eqb}
use Rattle.tree.specs.Tree.{Tree, Leaf, Wrap, leaf, wrap, fixed_array, pair, generic, primitive, sub_byte, semantic, named, bits_inline, qualified, optional, array, set_of, vec2, vec3, vec4, quat, mat3, mat4, map_of, result_of, leaf_kind, leaf_number, wrap_kind, pair_kind}
use Rattle.sizes.specs.declared.Size.TheVariants.{Fixed, Open}
use Rattle.sizes.specs.declared.Worked.{Worked}
use Rattle.sizes.specs.declared.Worked.TheVariants.{Sized}
use Rattle.sizes.specs.Elements.{any_number, count_of}
use Rattle.sizes.specs.Sizes.{Resolver, leaf_size, wrap_size, leaf_span, span_end, varint_end, zig_zag_end}
use Rattle.measures.specs.Heads.{leaf_of, wrap_of}

-- the kind of a type's head, and its number, 0 where there is none
abbrev pub kind_of : Tree → ℕ
kind_of (leaf l) = leaf_kind l
kind_of (wrap w t) = wrap_kind w
kind_of (fixed_array t k) = 6
kind_of (pair p t u) = pair_kind p
kind_of (generic n t) = 18

abbrev pub number_of : Tree → ℕ
number_of (leaf l) = leaf_number l
number_of (wrap w t) = 0
number_of (fixed_array t k) = 0
number_of (pair p t u) = 0
number_of (generic n t) = 0

-- ## Leaves

module _ (names : Resolver) where
  leaf_back : (l : Leaf) → leaf_size names (leaf_of (leaf_kind l) (leaf_number l)) ≡ leaf_size names l
  unfolding leaf_size leaf_of
  leaf_back (primitive p) = refl
  leaf_back (sub_byte g b) = refl
  leaf_back (semantic m) = refl
  leaf_back (named i) = refl
  leaf_back (bits_inline ns) = ap (λ (n : ℕ). Sized (Fixed n)) (length-replicate (length ns) 0)
  leaf_back (qualified n) = refl

  pub leaf_as : (l : Leaf) {k v : ℕ} → leaf_kind l ≡ k → leaf_number l ≡ v → leaf_size names (leaf_of k v) ≡ leaf_size names l
  leaf_as l e f = ap₂ (λ (k v : ℕ). leaf_size names (leaf_of k v)) (sym e) (sym f) ∙ leaf_back l

  pub leaf_rest : (k v : ℕ) → 4 ≤ k → (k ≡ 16 → ⊥) → Sized (Open 0) ≡ leaf_size names (leaf_of k v)
  unfolding leaf_size leaf_of
  leaf_rest k v h d =
      let t = ne_eqb k 16 d in
      let e : get_or (primitive v ∷ sub_byte 0 v ∷ semantic v ∷ named v ∷ []) k (qualified v) ≡ qualified v = get_or-eq_default (primitive v ∷ sub_byte 0 v ∷ semantic v ∷ named v ∷ []) (qualified v) h in
      rw (t, e)

-- ## Kinds with one child

wrap_back : (w : Wrap) → wrap_of (wrap_kind w) ≡ w
unfolding wrap_of
wrap_back optional = refl
wrap_back array = refl
wrap_back set_of = refl
wrap_back vec2 = refl
wrap_back vec3 = refl
wrap_back vec4 = refl
wrap_back quat = refl
wrap_back mat3 = refl
wrap_back mat4 = refl

pub wrap_at : (w : Wrap) (child : Worked) {k : ℕ} {r : Worked} → wrap_kind w ≡ k → r ≡ wrap_size (count_of (wrap_of k)) child → r ≡ wrap_size (count_of w) child
wrap_at w child e q = q ∙ ap (λ (x : Wrap). wrap_size (count_of x) child) (ap wrap_of (sym e) ∙ wrap_back w)

-- what is none of the counted kinds
pub wrap_rest : (k : ℕ) → (k ≡ 4 → ⊥) → (k ≡ 10 → ⊥) → (k ≡ 11 → ⊥) → (k ≡ 12 → ⊥) → (k ≡ 13 → ⊥) → (k ≡ 14 → ⊥) → (k ≡ 15 → ⊥) → count_of (wrap_of k) ≡ any_number
unfolding wrap_of
wrap_rest zero a b c d e f g = refl
wrap_rest (suc zero) a b c d e f g = refl
wrap_rest (suc (suc zero)) a b c d e f g = refl
wrap_rest (suc (suc (suc zero))) a b c d e f g = refl
wrap_rest (suc (suc (suc (suc zero)))) a b c d e f g = absurd (a refl)
wrap_rest (suc (suc (suc (suc (suc zero))))) a b c d e f g = refl
wrap_rest (suc (suc (suc (suc (suc (suc zero)))))) a b c d e f g = refl
wrap_rest (suc (suc (suc (suc (suc (suc (suc zero))))))) a b c d e f g = refl
wrap_rest (suc (suc (suc (suc (suc (suc (suc (suc zero)))))))) a b c d e f g = refl
wrap_rest (suc (suc (suc (suc (suc (suc (suc (suc (suc zero))))))))) a b c d e f g = refl
wrap_rest (suc (suc (suc (suc (suc (suc (suc (suc (suc (suc zero)))))))))) a b c d e f g = absurd (b refl)
wrap_rest (suc (suc (suc (suc (suc (suc (suc (suc (suc (suc (suc zero))))))))))) a b c d e f g = absurd (c refl)
wrap_rest (suc (suc (suc (suc (suc (suc (suc (suc (suc (suc (suc (suc zero)))))))))))) a b c d e f g = absurd (d refl)
wrap_rest (suc (suc (suc (suc (suc (suc (suc (suc (suc (suc (suc (suc (suc zero))))))))))))) a b c d e f g = absurd (e refl)
wrap_rest (suc (suc (suc (suc (suc (suc (suc (suc (suc (suc (suc (suc (suc (suc zero)))))))))))))) a b c d e f g = absurd (f refl)
wrap_rest (suc (suc (suc (suc (suc (suc (suc (suc (suc (suc (suc (suc (suc (suc (suc zero))))))))))))))) a b c d e f g = absurd (g refl)
wrap_rest (suc (suc (suc (suc (suc (suc (suc (suc (suc (suc (suc (suc (suc (suc (suc (suc k)))))))))))))))) a b c d e f g = refl

-- ## Spans of Varint and ZigZag

module _ (ends : List ℕ) where
  -- only primitives have ends of their own
  pub span_other : (k v : ℕ) → (k ≡ 0 → ⊥) → leaf_span ends (leaf_of k v) ≡ 80
  unfolding leaf_of
  span_other zero v h = absurd (h refl)
  span_other (suc zero) v h = refl
  span_other (suc (suc zero)) v h = refl
  span_other (suc (suc (suc zero))) v h = refl
  span_other (suc (suc (suc (suc k)))) v h = go (eqb (suc (suc (suc (suc k)))) 16)
    where
      go : (b : Bool) → leaf_span ends (cond b (bits_inline (replicate v 0)) (qualified v)) ≡ 80
      go true = refl
      go false = refl

  wrap_span : (w : Wrap) → 80 ≡ leaf_span ends (leaf_of (wrap_kind w) 0)
  wrap_span w = sym (span_other (wrap_kind w) 0 (go w))
    where
      go : (x : Wrap) → wrap_kind x ≡ 0 → ⊥
      go optional e = omega arith
      go array e = omega arith
      go set_of e = omega arith
      go vec2 e = omega arith
      go vec3 e = omega arith
      go vec4 e = omega arith
      go quat e = omega arith
      go mat3 e = omega arith
      go mat4 e = omega arith

  span_back : (t : Tree) → span_end ends t ≡ leaf_span ends (leaf_of (kind_of t) (number_of t))
  unfolding leaf_of
  span_back (leaf (primitive p)) = refl
  span_back (leaf (sub_byte g b)) = refl
  span_back (leaf (semantic m)) = refl
  span_back (leaf (named i)) = refl
  span_back (leaf (bits_inline ns)) = refl
  span_back (leaf (qualified n)) = refl
  span_back (wrap w t) = wrap_span w
  span_back (fixed_array t k) = refl
  span_back (pair map_of t u) = refl
  span_back (pair result_of t u) = refl
  span_back (generic n t) = refl

  span_as : (t : Tree) {k v : ℕ} → kind_of t ≡ k → number_of t ≡ v → leaf_span ends (leaf_of k v) ≡ span_end ends t
  span_as t e f = ap₂ (λ (k v : ℕ). leaf_span ends (leaf_of k v)) (sym e) (sym f) ∙ sym (span_back t)

pub varint_as : (t : Tree) {k v : ℕ} → kind_of t ≡ k → number_of t ≡ v → varint_end (leaf (leaf_of k v)) ≡ varint_end t
unfolding varint_end
varint_as t e f = span_as (80 ∷ 80 ∷ 24 ∷ 40 ∷ 80 ∷ []) t e f

pub zigzag_as : (t : Tree) {k v : ℕ} → kind_of t ≡ k → number_of t ≡ v → zig_zag_end (leaf (leaf_of k v)) ≡ zig_zag_end t
unfolding zig_zag_end
zigzag_as t e f = span_as (80 ∷ 80 ∷ 80 ∷ 80 ∷ 80 ∷ 80 ∷ 24 ∷ 40 ∷ 80 ∷ []) t e f

-- the numbers of primitives that have the last end
pub varint_rest : (n : ℕ) → (n ≡ 2 → ⊥) → (n ≡ 3 → ⊥) → varint_end (leaf (primitive n)) ≡ 80
unfolding varint_end
varint_rest zero a b = refl
varint_rest (suc zero) a b = refl
varint_rest (suc (suc zero)) a b = absurd (a refl)
varint_rest (suc (suc (suc zero))) a b = absurd (b refl)
varint_rest (suc (suc (suc (suc zero)))) a b = refl
varint_rest (suc (suc (suc (suc (suc n))))) a b = refl

pub zigzag_rest : (n : ℕ) → (n ≡ 6 → ⊥) → (n ≡ 7 → ⊥) → zig_zag_end (leaf (primitive n)) ≡ 80
unfolding zig_zag_end
zigzag_rest zero a b = refl
zigzag_rest (suc zero) a b = refl
zigzag_rest (suc (suc zero)) a b = refl
zigzag_rest (suc (suc (suc zero))) a b = refl
zigzag_rest (suc (suc (suc (suc zero)))) a b = refl
zigzag_rest (suc (suc (suc (suc (suc zero))))) a b = refl
zigzag_rest (suc (suc (suc (suc (suc (suc zero)))))) a b = absurd (a refl)
zigzag_rest (suc (suc (suc (suc (suc (suc (suc zero))))))) a b = absurd (b refl)
zigzag_rest (suc (suc (suc (suc (suc (suc (suc (suc zero)))))))) a b = refl
zigzag_rest (suc (suc (suc (suc (suc (suc (suc (suc (suc n))))))))) a b = refl
