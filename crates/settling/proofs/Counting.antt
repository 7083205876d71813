-- How many nodes a field is, by its encoding, its limit and the kind of its type. Assumes nothing.
use Prim.Native.Nat.{ℕ, suc}
use mathlib.Core.Path.{◌≡◌, refl, sym, ap, ◌∙◌}
use mathlib.Core.Bool.{Bool, true, false, cond, false≢true}
use mathlib.Core.Option.{none, some, none-ne-some}
use native.Mathlib.Omega.{arith}
use Rattle.tree.specs.Tree.{Tree, Leaf, leaf, wrap, fixed_array, pair, generic, map_of, result_of}
use Rattle.tree.specs.Encoding.{Encoding, default, varint, zig_zag, delta}
use Rattle.slot.specs.Field.{Field}
use Rattle.sizes.specs.Elements.{Count, at_most_one, any_number, exactly, count_of, Element, wrap_element, element_of, is_plain, with_limit, limited_element}
use Rattle.sizes.specs.Nodes.{wrap_nodes, type_nodes, encoded_nodes, element_nodes, own_nodes, field_nodes}

-- ## Encodings

pub plain_encoded : (e : Encoding) → is_plain e ≡ true → (t : Tree) → type_nodes t ≡ encoded_nodes e t
unfolding encoded_nodes
plain_encoded default q t = refl
plain_encoded varint q t = absurd (false≢true q)
plain_encoded zig_zag q t = absurd (false≢true q)
plain_encoded (delta e) q t = plain_encoded e q t

coded_one : (e : Encoding) → is_plain e ≡ false → (t : Tree) → encoded_nodes e t ≡ 1
unfolding encoded_nodes
coded_one default q t = absurd (false≢true (sym q))
coded_one varint q t = refl
coded_one zig_zag q t = refl
coded_one (delta e) q t = coded_one e q t

leaf_one : (e : Encoding) (l : Leaf) → encoded_nodes e (leaf l) ≡ 1
unfolding encoded_nodes type_nodes
leaf_one default l = refl
leaf_one varint l = refl
leaf_one zig_zag l = refl
leaf_one (delta e) l = leaf_one e l

-- ## Types that hold any number of elements

wrap_one : (c : Count) (u : Tree) (child : ℕ) (e : Element) → wrap_element c u ≡ some e → wrap_nodes c child ≡ 0
wrap_one at_most_one u child e q = absurd (none-ne-some e q)
wrap_one any_number u child e q = refl
wrap_one (exactly k) u child e q = absurd (none-ne-some e q)

run_one : (t : Tree) (e : Element) → element_of t ≡ some e → type_nodes t ≡ 1
unfolding type_nodes
run_one (leaf l) e q = refl
run_one (wrap w u) e q = omega (arith, wrap_one (count_of w) u (type_nodes u) e q)
run_one (fixed_array u k) e q = absurd (none-ne-some e q)
run_one (pair map_of u v) e q = refl
run_one (pair result_of u v) e q = absurd (none-ne-some e q)
run_one (generic n u) e q = refl

-- ## Fields

module _ (x : Field) where
  pub nodes_unlimited : limited_element x ≡ none → field_nodes x ≡ encoded_nodes x.encoding x.type
  unfolding own_nodes
  nodes_unlimited e = rw e

  pub nodes_limited : (e : Element) → limited_element x ≡ some e → field_nodes x ≡ suc (element_nodes e)
  unfolding own_nodes
  nodes_limited e q = rw q

  -- Varint or ZigZag governs
  pub nodes_coded : is_plain x.encoding ≡ false → limited_element x ≡ none → field_nodes x ≡ 1
  nodes_coded p e = nodes_unlimited e ∙ coded_one x.encoding p x.type

  pub nodes_leaf : (l : Leaf) → x.type ≡ leaf l → limited_element x ≡ none → field_nodes x ≡ 1
  nodes_leaf l q e = nodes_unlimited e ∙ ap (encoded_nodes x.encoding) q ∙ leaf_one x.encoding l

  pub nodes_plain : is_plain x.encoding ≡ true → limited_element x ≡ none → type_nodes x.type ≡ field_nodes x
  nodes_plain p e = plain_encoded x.encoding p x.type ∙ sym (nodes_unlimited e)

  -- an array, a set or a map that its limit does not bear on
  pub nodes_open : is_plain x.encoding ≡ true → (e : Element) → element_of x.type ≡ some e → limited_element x ≡ none → field_nodes x ≡ 1
  nodes_open p e q n = sym (nodes_plain p n) ∙ run_one x.type e q

  -- what is plain is as in Default
  pub nodes_default : is_plain x.encoding ≡ true → field_nodes (record { field_name = 0; encoding = default; type = x.type; limit = x.limit }) ≡ field_nodes x
  unfolding limited_element encoded_nodes
  nodes_default p =
      ap (λ (n : ℕ). own_nodes (with_limit x.limit (element_of x.type)) n) (plain_encoded x.encoding p x.type)
      ∙ ap (λ (b : Bool). own_nodes (cond b (with_limit x.limit (element_of x.type)) none) (encoded_nodes x.encoding x.type)) (sym p)
