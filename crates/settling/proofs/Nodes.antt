-- Each node of a type takes a byte of the image at least, so nodes are at most bytes; and no type that is read holds a generic.
-- Assumes nothing.
use Prim.Native.Nat.{ℕ, zero, suc, ◌+◌, ◌^◌, ◌≤◌, ◌<◌}
use mathlib.Core.Path.{◌≡◌, refl, sym, ap, subst, ◌∙◌}
use mathlib.Core.List.{List, [], ◌∷◌}
use mathlib.Core.Option.{Option, none, some, none-ne-some, some-injective}
use native.Mathlib.Omega.{arith}
use lib.ListN.{length}
use Rattle.number.specs.Grammar.{kind, name, count, value, Grammar, give, ◌>>=◌, number, many, counted, done, read}
use Rattle.number.proofs.Reading.{read_done, read_number, then_done, given, front}
use Rattle.number.proofs.InRange.{below_is}
use Rattle.tree.specs.Tree.{Tree, leaf, wrap, fixed_array, pair, generic, map_of, result_of}
use Rattle.tree.specs.TreeAt.{Node, none as no-child, one, two, sized, applied, body_at, head_at, fill, tree_at}
use Rattle.tree.specs.Encoding.{Encoding, default, varint, zig_zag, delta, encoding_at}
use Rattle.tree.specs.declared.Sort.TheVariants.{Resolved}
use Rattle.tree.proofs.Ranges.{each}
use Rattle.tree.proofs.Shapes.{no_tree}
use Rattle.tree.proofs.Nodes.{node_kind, head_parts}
use Rattle.slot.specs.Field.{type_at, limit_at, Field, field_at, fields_at, span_at, stored_at}
use Rattle.slot.specs.Slot.{Slot, empty, message, enum, flags, union, newtype, config, alias, trait, impl, message_at, enum_at, flags_at, union_at, newtype_at, alias_at, trait_at, impl_at, made, slot_body_at, slot_at}
use Rattle.slot.specs.declared.Edition.{Edition}
use Rattle.image.specs.Schema.{Schema}
use Rattle.view.proofs.Onward.{goes_on}
use Rattle.sizes.specs.Elements.{Count, at_most_one, any_number, exactly, count_of, Element, item, entry, wrap_element, element_of, limited_element}
use Rattle.sizes.specs.Names.{content_in}
use Rattle.sizes.specs.Nodes.{wrap_nodes, type_nodes, encoded_nodes, element_nodes, own_nodes, field_nodes, fields_nodes, variants_nodes, content_nodes}
use Rattle.sizes.specs.Changed.{Each}
use Rattle.sizes.proofs.Upward.{NoGeneric, EachType, limited_inside}
use Rattle.settling.specs.Steps.{plain_at}
use Rattle.settling.proofs.Heads.{level}

-- ## All nodes of a type

unfoldable pub all_nodes : Tree → ℕ
all_nodes (leaf l) = 1
all_nodes (wrap w t) = suc (all_nodes t)
all_nodes (fixed_array t k) = suc (all_nodes t)
all_nodes (pair p t u) = suc (all_nodes t + all_nodes u)
all_nodes (generic n t) = suc (all_nodes t)

some_node : (t : Tree) → 1 ≤ all_nodes t
unfolding all_nodes
some_node (leaf l) = omega arith
some_node (wrap w t) = omega arith
some_node (fixed_array t k) = omega arith
some_node (pair p t u) = omega arith
some_node (generic n t) = omega arith

wrap_most : (c : Count) (n m : ℕ) → n ≤ m → wrap_nodes c n ≤ m
wrap_most at_most_one n m h = h
wrap_most any_number n m h = omega arith
wrap_most (exactly k) n m h = h

type_most : (t : Tree) → type_nodes t ≤ all_nodes t
unfolding type_nodes all_nodes
type_most (leaf l) = omega arith
type_most (wrap w t) = let h = wrap_most (count_of w) (type_nodes t) (all_nodes t) (type_most t) in omega arith
type_most (fixed_array t k) = omega (arith, type_most t)
type_most (pair map_of t u) = omega arith
type_most (pair result_of t u) = omega (arith, type_most t, type_most u)
type_most (generic n t) = omega arith

element_most : (t : Tree) (e : Element) → element_of t ≡ some e → suc (element_nodes e) ≤ all_nodes t
unfolding element_nodes all_nodes
element_most (leaf l) e q = absurd (none-ne-some e q)
element_most (wrap w t) e q = go (count_of w) q
  where
    go : (c : Count) → wrap_element c t ≡ some e → suc (element_nodes e) ≤ suc (all_nodes t)
    go at_most_one q' = absurd (none-ne-some e q')
    go any_number q' = subst (λ (x : Element). suc (element_nodes x) ≤ suc (all_nodes t)) (some-injective (item t) e q') (omega (arith, type_most t))
    go (exactly k) q' = absurd (none-ne-some e q')
element_most (fixed_array t k) e q = absurd (none-ne-some e q)
element_most (pair map_of t u) e q =
    subst (λ (x : Element). suc (element_nodes x) ≤ suc (all_nodes t + all_nodes u)) (some-injective (entry t u) e q) (omega (arith, type_most t, type_most u))
element_most (pair result_of t u) e q = absurd (none-ne-some e q)
element_most (generic n t) e q = absurd (none-ne-some e q)

encoded_most : (e : Encoding) (t : Tree) → encoded_nodes e t ≤ all_nodes t
unfolding encoded_nodes
encoded_most default t = type_most t
encoded_most varint t = some_node t
encoded_most zig_zag t = some_node t
encoded_most (delta e) t = encoded_most e t

field_most : (f : Field) → field_nodes f ≤ all_nodes f.type
unfolding own_nodes
field_most f = go (limited_element f) refl
  where
    go : (o : Option Element) → limited_element f ≡ o → own_nodes o (encoded_nodes f.encoding f.type) ≤ all_nodes f.type
    go none q = encoded_most f.encoding f.type
    go (some e) q = element_most f.type e (limited_inside f e q)

-- ## As they are read

module _ (names : ℕ) (s : List ℕ) where
  abbrev TypeNodes : ℕ → Tree → ℕ → Type 0
  TypeNodes at t end = (at + all_nodes t ≤ end) × NoGeneric t

  -- the children, behind a head
  fill_nodes : (child : Grammar Tree) → ((at : ℕ) (t : Tree) (end : ℕ) → read child s at ≡ done t end → TypeNodes at t end) →
      (node : Node) → node_kind node < 17 → (at : ℕ) (t : Tree) (end : ℕ) → read (fill child node) s at ≡ done t end → (at + all_nodes t ≤ suc end) × NoGeneric t
  unfolding fill read all_nodes
  fill_nodes child h (no-child l) k at t end q = let g = given q in subst (λ (x : Tree). (at + all_nodes x ≤ suc end) × NoGeneric x) g.0 (omega arith, tt)
  fill_nodes child h (one w) k at t end q =
      let a = read_done child _ s at t end q in
      let g = given a.rest in
      let (n, m) = h at a.first a.middle a.here in
      subst (λ (x : Tree). (at + all_nodes x ≤ suc end) × NoGeneric x) g.0 (omega (arith, n, g.1), m)
  fill_nodes child h (two p) k at t end q =
      let a = read_done child _ s at t end q in
      let b = read_done child _ s a.middle t end a.rest in
      let g = given b.rest in
      let (n, m) = h at a.first a.middle a.here in
      let (n', m') = h a.middle b.first b.middle b.here in
      subst (λ (x : Tree). (at + all_nodes x ≤ suc end) × NoGeneric x) g.0 (omega (arith, n, n', g.1), (m, m'))
  fill_nodes child h sized k at t end q =
      let a = read_done child _ s at t end q in
      let b = read_done (number value (2 ^ 64)) _ s a.middle t end a.rest in
      let g = given b.rest in
      let (n, m) = h at a.first a.middle a.here in
      let o = goes_on (number value (2 ^ 64)) s a.middle b.here in
      subst (λ (x : Tree). (at + all_nodes x ≤ suc end) × NoGeneric x) g.0 (omega (arith, n, o.forward, g.1), m)
  fill_nodes child h (applied v) k at t end q = absurd (omega arith)

  tree_nodes : (levels at : ℕ) (t : Tree) (end : ℕ) → read (tree_at Resolved names levels) s at ≡ done t end → TypeNodes at t end
  tree_nodes zero at t end q = absurd (no_tree Resolved names s at 0 refl t end q)
  tree_nodes (suc l) at t end q =
      let a = then_done (read (head_at Resolved names) s at) _ (sym (level names s l at) ∙ q) in
      let h = head_parts s Resolved names at a.0 a.1 a.2 in
      let b = below_is s at 17 (node_kind a.0) h.body h.kind_read in
      let o = goes_on (body_at Resolved names (node_kind a.0)) s h.body h.body_read in
      let (n, m) = fill_nodes (tree_at Resolved names l) (tree_nodes l) a.0 h.kind_below a.1 t end a.3 in
      (omega (arith, b.after, o.forward, n), m)

  pub type_nodes_lem : (at : ℕ) (t : Tree) (end : ℕ) → read (type_at names) s at ≡ done t end → at + type_nodes t ≤ end
  type_nodes_lem at t end q = omega (arith, (tree_nodes 32 at t end q).0, type_most t)

  pub type_plain : (at : ℕ) (t : Tree) (end : ℕ) → read (type_at names) s at ≡ done t end → NoGeneric t
  type_plain at t end q = (tree_nodes 32 at t end q).1

  abbrev FieldNodes : ℕ → Field → ℕ → Type 0
  FieldNodes at f end = (at + field_nodes f ≤ end) × NoGeneric f.type

  module _ (ed : Edition) where
    -- a field from its type on
    from_type : (make : Tree → ℕ → Field) → ((t : Tree) (l : ℕ) → (make t l).type ≡ t) → (at : ℕ) (f : Field) (end : ℕ)
        → read (◌>>=◌ (type_at names) (λ t. ◌>>=◌ (limit_at ed) (λ l. give (make t l)))) s at ≡ done f end → FieldNodes at f end
    unfolding read
    from_type make typed at f end q =
        let c = read_done (type_at names) _ s at f end q in
        let d = read_done (limit_at ed) _ s c.middle f end c.rest in
        let g = given d.rest in
        let t : f.type ≡ c.first = ap (λ (x : Field). x.type) (sym g.0) ∙ typed c.first d.first in
        let (n, m) = tree_nodes 32 at c.first c.middle c.here in
        let o = goes_on (limit_at ed) s c.middle d.here in
        (omega (arith, field_most f, ap all_nodes t, n, o.forward, g.1), subst NoGeneric (sym t) m)

    field_both : (at : ℕ) (f : Field) (end : ℕ) → read (field_at ed names) s at ≡ done f end → FieldNodes at f end
    unfolding field_at
    field_both at f end q =
        let a = read_done (number name names) _ s at f end q in
        let b = read_done (encoding_at 32) _ s a.middle f end a.rest in
        let (n, m) = from_type (λ t l. record { field_name = a.first; encoding = b.first; type = t; limit = l }) (λ t l. refl) b.middle f end b.rest in
        (omega (arith, (goes_on (number name names) s at a.here).forward, (goes_on (encoding_at 32) s a.middle b.here).forward, n), m)

    pub field_nodes_lem : (at : ℕ) (f : Field) (end : ℕ) → read (field_at ed names) s at ≡ done f end → at + field_nodes f ≤ end
    field_nodes_lem at f end q = (field_both at f end q).0

    pub plain_nodes : (at : ℕ) (f : Field) (end : ℕ) → read (plain_at ed names) s at ≡ done f end → at + field_nodes f ≤ end
    unfolding plain_at
    plain_nodes at f end q = (from_type (λ t l. record { field_name = 0; encoding = default; type = t; limit = l }) (λ t l. refl) at f end q).0

    -- so many things of one kind
    module _ {A : Type 0} (g : Grammar A) (nodes : A → ℕ) (P : A → Type 0) (total : List A → ℕ) (no_more : total [] ≡ 0)
        (one_more : (x : A) (xs : List A) → total (x ∷ xs) ≡ nodes x + total xs)
        (each-one : (at : ℕ) (x : A) (end : ℕ) → read g s at ≡ done x end → (at + nodes x ≤ end) × P x) where
      many_nodes : (k at : ℕ) (xs : List A) (end : ℕ) → read (many k g) s at ≡ done xs end → (at + total xs ≤ end) × Each P xs
      unfolding many read
      many_nodes zero at xs end q = let e = given q in subst (λ (ys : List A). (at + total ys ≤ end) × Each P ys) e.0 (omega (arith, no_more, e.1), tt)
      many_nodes (suc k) at xs end q =
          let e = front g s k at xs end q in
          let (n, m) = each-one at e.first e.middle e.here in
          let (n', m') = many_nodes k e.middle e.others end e.rest in
          subst (λ (ys : List A). (at + total ys ≤ end) × Each P ys) (sym e.whole) (omega (arith, n, n', one_more e.first e.others), (m, m'))

      counted_nodes : (at : ℕ) (xs : List A) (end : ℕ) → read (counted g) s at ≡ done xs end → (at + total xs ≤ end) × Each P xs
      unfolding counted
      counted_nodes at xs end q =
          let a = read_done (number count 65537) (λ c. many c g) s at xs end q in
          let (n, m) = many_nodes a.first a.middle xs end a.rest in
          (omega (arith, (goes_on (number count 65537) s at a.here).forward, n), m)

    fields_both : (at : ℕ) (fs : List Field) (end : ℕ) → read (fields_at ed names) s at ≡ done fs end → (at + fields_nodes fs ≤ end) × Each (λ f. NoGeneric f.type) fs
    unfolding fields_nodes
    fields_both = counted_nodes (field_at ed names) field_nodes (λ f. NoGeneric f.type) fields_nodes refl (λ f fs. refl) field_both

    pub fields_nodes_lem : (at : ℕ) (fs : List Field) (end : ℕ) → read (fields_at ed names) s at ≡ done fs end → at + fields_nodes fs ≤ end
    fields_nodes_lem at fs end q = (fields_both at fs end q).0

    variants_both : (at : ℕ) (vs : List (List Field)) (end : ℕ) → read (counted (fields_at ed names)) s at ≡ done vs end
        → (at + variants_nodes vs ≤ end) × Each (Each (λ f. NoGeneric f.type)) vs
    unfolding variants_nodes
    variants_both = counted_nodes (fields_at ed names) fields_nodes (Each (λ f. NoGeneric f.type)) variants_nodes refl (λ v vs. refl) fields_both

    pub variants_nodes_lem : (at : ℕ) (vs : List (List Field)) (end : ℕ) → read (counted (fields_at ed names)) s at ≡ done vs end → at + variants_nodes vs ≤ end
    variants_nodes_lem at vs end q = (variants_both at vs end q).0

    -- ## Slots

    module _ (S : Schema) (i : ℕ) where
      abbrev SlotNodes : Slot → ℕ → Type 0
      SlotNodes x end = (content_nodes (content_in S i x) ≤ end) × EachType NoGeneric (content_in S i x)

      abbrev Gives : Grammar Slot → Type 0
      Gives g = (at : ℕ) (x : Slot) (end : ℕ) → read g s at ≡ done x end → SlotNodes x end

      at_once : (x : Slot) → ((end : ℕ) → SlotNodes x end) → Gives (give x)
      unfolding read
      at_once x h at y end q = subst (λ (z : Slot). SlotNodes z end) (given q).0 (h end)

      made_of : {A : Type 0} (f : A → Slot) (g : Grammar A) → ((at : ℕ) (a : A) (end : ℕ) → read g s at ≡ done a end → SlotNodes (f a) end) → Gives (made f g)
      unfolding read
      made_of f g h at y end q =
          let a = read_done g _ s at y end q in
          let e = given a.rest in
          subst (λ (z : Slot). SlotNodes z end) e.0 (h at a.first end (a.here ∙ ap (done a.first) e.1))

      message_nodes : Gives (made message (message_at ed names))
      unfolding message_at read content_in content_nodes
      message_nodes = made_of message (message_at ed names) (λ at m end q.
          let a = read_done span_at _ s at m end q in
          let b = read_done stored_at _ s a.middle m end a.rest in
          let c = read_done (fields_at ed names) _ s b.middle m end b.rest in
          let e = given c.rest in
          let (n, k) = fields_both b.middle c.first c.middle c.here in
          subst (λ z. SlotNodes (message z) end) e.0 (omega (arith, n, e.1), k))

      union_nodes : Gives (made union (union_at ed names))
      unfolding union_at read content_in content_nodes
      union_nodes = made_of union (union_at ed names) (λ at u end q.
          let b = read_done stored_at _ s at u end q in
          let c = read_done (counted (fields_at ed names)) _ s b.middle u end b.rest in
          let e = given c.rest in
          let (n, k) = variants_both b.middle c.first c.middle c.here in
          subst (λ z. SlotNodes (union z) end) e.0 (omega (arith, n, e.1), k))

      newtype_nodes : Gives (made newtype (newtype_at names))
      unfolding newtype_at read content_in content_nodes
      newtype_nodes = made_of newtype (newtype_at names) (λ at u end q.
          let b = read_done (type_at names) _ s at u end q in
          let c = read_done (type_at names) _ s b.middle u end b.rest in
          let e = given c.rest in
          subst (λ z. SlotNodes (newtype z) end) e.0
          (omega (arith, type_nodes_lem b.middle c.first c.middle c.here, e.1), type_plain b.middle c.first c.middle c.here))

      body_nodes : (k : ℕ) → k < 10 → Gives (slot_body_at ed names k)
      unfolding slot_body_at content_in content_nodes
      body_nodes k h =
          each (λ j. Gives (slot_body_at ed names j)) 0 10 (
            at_once empty (λ end. (omega arith, tt)),
            (
              message_nodes,
              (
                made_of enum (enum_at ed) (λ at e end q. (omega arith, tt)),
                (
                  made_of flags (flags_at ed) (λ at e end q. (omega arith, tt)),
                  (
                    union_nodes,
                    (
                      newtype_nodes,
                      (
                        at_once config (λ end. (omega arith, tt)),
                        (
                          made_of alias (alias_at names) (λ at e end q. (omega arith, tt)),
                          (
                            made_of trait (trait_at names) (λ at e end q. (omega arith, tt)),
                            (made_of impl (impl_at names) (λ at e end q. (omega arith, tt)), tt),
                          ),
                        ),
                      ),
                    ),
                  ),
                ),
              ),
            ),
          ) k (omega arith) (omega arith)

      pub slot_nodes : (at : ℕ) (x : Slot) (end : ℕ) → read (slot_at ed names) s at ≡ done x end → content_nodes (content_in S i x) ≤ length s
      unfolding slot_at
      slot_nodes at x end q =
          let a = read_done (number kind 10) (slot_body_at ed names) s at x end q in
          let b = below_is s at 10 a.first a.middle (sym (read_number kind 10 s at) ∙ a.here) in
          let o = goes_on (slot_body_at ed names a.first) s a.middle a.rest in
          omega (arith, o.within b.within, (body_nodes a.first b.under a.middle x end a.rest).0)

      pub slot_plain : (at : ℕ) (x : Slot) (end : ℕ) → read (slot_at ed names) s at ≡ done x end → EachType NoGeneric (content_in S i x)
      unfolding slot_at
      slot_plain at x end q =
          let a = read_done (number kind 10) (slot_body_at ed names) s at x end q in
          let b = below_is s at 10 a.first a.middle (sym (read_number kind 10 s at) ∙ a.here) in
          (body_nodes a.first b.under a.middle x end a.rest).1
