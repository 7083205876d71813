-- A head that was read is of the kind that was read. Assumes nothing.
use Prim.Native.Nat.{ℕ, ◌<◌}
use mathlib.Core.Path.{◌≡◌, sym, ap, subst, ◌∙◌}
use mathlib.Core.List.{List}
use native.Mathlib.Omega.{arith}
use Rattle.number.specs.Grammar.{kind, name, value, Grammar, give, ◌>>=◌, number, counted, done, below, read}
use Rattle.number.proofs.Reading.{read_done, read_number, given}
use Rattle.number.proofs.InRange.{below_is}
use Rattle.tree.specs.Tree.{primitive, sub_byte, semantic, named, bits_inline, qualified, leaf_kind, wrap_kind, pair_kind}
use Rattle.tree.specs.TreeAt.{kinds_of, id_role, ids_of, Node, none, one, two, sized, applied, sub_byte_at, bits_at, generic_at, body_at, head_at}
use Rattle.tree.specs.declared.Sort.{Sort}
use Rattle.tree.specs.declared.Sort.TheVariants.{Resolved, Expression}
use Rattle.tree.proofs.Ranges.{each}

abbrev pub node_kind : Node → ℕ
node_kind (none l) = leaf_kind l
node_kind (one w) = wrap_kind w
node_kind (two p) = pair_kind p
node_kind sized = 6
node_kind (applied n) = 18

module _ (s : List ℕ) where
  -- a grammar whose nodes are of one kind
  abbrev Gives : Grammar Node → ℕ → Type 0
  Gives g k = (at : ℕ) (node : Node) (end : ℕ) → read g s at ≡ done node end → node_kind node ≡ k

  at_once : (node : Node) → Gives (give node) (node_kind node)
  unfolding read
  at_once node at x end e = ap node_kind (sym (given e).0)

  after : {A : Type 0} (g : Grammar A) (f : A → Grammar Node) (k : ℕ) → ((a : A) → Gives (f a) k) → Gives (◌>>=◌ g f) k
  after g f k h at x end e = let a = read_done g f s at x end e in h a.first a.middle x end a.rest

  module _ (sort : Sort) (names : ℕ) where
    body_kind : (k : ℕ) → k < 19 → Gives (body_at sort names k) k
    unfolding body_at sub_byte_at bits_at generic_at
    body_kind k h =
        each (λ j. Gives (body_at sort names j) j) 0 19 (
          after (number value 14) _ 0 (λ v. at_once (none (primitive v))),
          (
            after (number value 2) _ 1 (λ g. after (number value 256) _ 1 (λ b. at_once (none (sub_byte g b)))),
            (
              after (number value 6) _ 2 (λ v. at_once (none (semantic v))),
              (
                after (number (id_role sort) (ids_of sort names)) _ 3 (λ v. at_once (none (named v))),
                (
                  at_once _,
                  (
                    at_once _,
                    (
                      at_once _,
                      (
                        at_once _,
                        (
                          at_once _,
                          (
                            at_once _,
                            (
                              at_once _,
                              (
                                at_once _,
                                (
                                  at_once _,
                                  (
                                    at_once _,
                                    (
                                      at_once _,
                                      (
                                        at_once _,
                                        (
                                          after (counted (number name names)) _ 16 (λ ns. at_once (none (bits_inline ns))),
                                          (after (number name names) _ 17 (λ n. at_once (none (qualified n))), (after (number name names) _ 18 (λ n. at_once (applied n)), tt)),
                                        ),
                                      ),
                                    ),
                                  ),
                                ),
                              ),
                            ),
                          ),
                        ),
                      ),
                    ),
                  ),
                ),
              ),
            ),
          ),
        )
        k (omega arith) (omega arith)

    -- the kind that was read, and what it holds
    pub record HeadParts (at : ℕ) (node : Node) (end : ℕ) : Type 0 where
      pub body : ℕ
      pub kind_read : below (kinds_of sort) s at ≡ done (node_kind node) body
      pub body_read : read (body_at sort names (node_kind node)) s body ≡ done node end
      pub kind_below : node_kind node < kinds_of sort

    few_kinds : kinds_of sort < 20
    few_kinds = go sort
      where
        go : (sort : Sort) → kinds_of sort < 20
        go Resolved = omega arith
        go Expression = omega arith

    pub head_parts : (at : ℕ) (node : Node) (end : ℕ) → read (head_at sort names) s at ≡ done node end → HeadParts at node end
    unfolding head_at
    head_parts at node end e =
        let a = read_done (number kind (kinds_of sort)) (body_at sort names) s at node end e in
        let b = sym (read_number kind (kinds_of sort) s at) ∙ a.here in
        let l = (below_is s at (kinds_of sort) a.first a.middle b).under in
        let q = body_kind a.first (omega (arith, few_kinds)) a.middle node end a.rest in
        record {
          body = a.middle;
          kind_read = b ∙ ap (λ (k : ℕ). done k a.middle) (sym q);
          body_read = subst (λ (k : ℕ). read (body_at sort names k) s a.middle ≡ done node end) (sym q) a.rest;
          kind_below = omega arith;
        }

    -- what a name holds is in its range
    pub named_below : (at v end : ℕ) → read (head_at sort names) s at ≡ done (none (named v)) end → v < ids_of sort names
    unfolding body_at read
    named_below at v end e =
        let p = head_parts at (none (named v)) end e in
        let a = read_done (number (id_role sort) (ids_of sort names)) (λ i. give (none (named i))) s p.body (none (named v)) end p.body_read in
        let b = sym (read_number (id_role sort) (ids_of sort names) s p.body) ∙ a.here in
        let q : a.first ≡ v = same (given a.rest).0 in
        omega (arith, (below_is s p.body (ids_of sort names) a.first a.middle b).under)
      where
        same : {i j : ℕ} → none (named i) ≡ none (named j) → i ≡ j
        same e = cc
