-- Fields that are settled before names are. Assumes nothing.
use Prim.Native.Nat.{ℕ, ◌+◌}
use mathlib.Core.Path.{◌≡◌, refl, sym, ap, subst, ◌∙◌}
use mathlib.Core.List.{List}
use native.Mathlib.Omega.{arith}
use lib.ListN.{get_or}
use Rattle.number.specs.Grammar.{done, read}
use Rattle.number.specs.Answers.{next}
use Rattle.number.proofs.Reading.{then_done, given}
use Rattle.tree.specs.Tree.{Tree, Leaf, leaf}
use Rattle.slot.specs.Field.{limit_at, field_at, Field}
use Rattle.tree.specs.Short.{short_leaf}
use Rattle.slot.specs.Short.{short_at, short_encoding, short_field}
use Rattle.slot.specs.declared.Short.{Short}
use Rattle.slot.proofs.FourBytes.{short_bytes, short_reads, short_kind, short_number}
use Rattle.sizes.specs.Nodes.{field_nodes}
use Rattle.sizes.specs.Sizes.{Resolver, leaf_size, type_size, encoded_size, field_alone, varint_end, zig_zag_end}
use Rattle.sizes.specs.declared.Size.{Size}
use Rattle.sizes.specs.declared.Size.TheVariants.{Bounded}
use Rattle.sizes.specs.declared.Worked.TheVariants.{Sized}
use Rattle.sizes.proofs.Limits.{by_type, by_encoding, alone_unlimited}
use Rattle.measures.specs.Heads.{leaf_of}
use Rattle.measures.proofs.ByKind.{leaf_as, varint_as, zigzag_as}
use Rattle.image.specs.declared.Frame.{Frame}
use Rattle.view.specs.Take.{place_of}
use Rattle.view.proofs.Places.{at_place}
use Rattle.settling.specs.Steps.{Passed, Codes, LimitTo, plain_at, Known, Settles, PastLimit}
use Rattle.settling.specs.declared.Coded.{Coded}
use Rattle.settling.specs.declared.Settled.{Settled}
use Rattle.settling.specs.declared.Walked.{Walked}
use Rattle.settling.proofs.Elements.{plain_reads, plain_alone}
use Rattle.settling.proofs.Counting.{nodes_coded, nodes_leaf, nodes_default}
use Rattle.settling.proofs.Typing.{leaf_named, plain_is, varint_is, zigzag_is}

-- by the encoding that governs
module _ (f : Frame) (s : List ℕ) (at : ℕ) (r : Coded) (codes : Codes f.names s at r) (p : ℕ) where
  pub at_type : r ≡ Coded.Plain p → Settles f s at (Settled.At p)
  unfolding Known
  at_type e x end q =
      let k = codes f.edition x end q in
      let g = plain_is _ (sym e ∙ k.1.coded) in
      (_, plain_reads f.edition f.names s p x k.0 end (at_place _ _ k.1.reads g.place) k.2, plain_alone x g.kept, nodes_default x g.kept)

  pub by_varint : r ≡ Coded.Varint p → (v w : Walked) → Passed f.names s p (λ t. Sized (Bounded 8 (varint_end t))) v → PastLimit f s v w → Settles f s at (Settled.Is w)
  unfolding Known
  by_varint e v w h past x end q =
      let k = codes f.edition x end q in
      let g = varint_is _ (sym e ∙ k.1.coded) in
      let a = h.passed _ _ (at_place _ _ k.1.reads g.place) in
      (past.next _ _ (at_place _ _ k.2 a.1), λ R. past.worked ∙ a.0 ∙ g.same R _ ∙ sym (alone_unlimited x R (by_encoding x g.kept)), nodes_coded x g.kept (by_encoding x g.kept))

  pub by_zigzag : r ≡ Coded.ZigZag p → (v w : Walked) → Passed f.names s p (λ t. Sized (Bounded 8 (zig_zag_end t))) v → PastLimit f s v w → Settles f s at (Settled.Is w)
  unfolding Known
  by_zigzag e v w h past x end q =
      let k = codes f.edition x end q in
      let g = zigzag_is _ (sym e ∙ k.1.coded) in
      let a = h.passed _ _ (at_place _ _ k.1.reads g.place) in
      (past.next _ _ (at_place _ _ k.2 a.1), λ R. past.worked ∙ a.0 ∙ g.same R _ ∙ sym (alone_unlimited x R (by_encoding x g.kept)), nodes_coded x g.kept (by_encoding x g.kept))

-- by four bytes
module _ (f : Frame) (s : List ℕ) (at e k v : ℕ) (h : short_at f.names s at ≡ Short.Is e k v) where
  abbrev own : (limit : ℕ) → Field
  own l = short_field (get_or s at 0) e k v l

  abbrev type : Tree
  type = leaf (short_leaf k v)

  is_own : (x : Field) (end : ℕ) → read (field_at f.edition f.names) s at ≡ done x end
      → (own x.limit ≡ x) × (read (limit_at f.edition) s (at + 4) ≡ done x.limit end)
  is_own x end q =
      let a = then_done (read (limit_at f.edition) s (at + 4)) _ (sym (short_reads f.names s at e k v h f.edition) ∙ q) in
      let g = given a.3 in
      let l : a.0 ≡ x.limit = ap (λ (y : Field). y.limit) g.0 in
      (ap own (sym l) ∙ g.0, a.2 ∙ ap (done a.0) g.1 ∙ ap (λ (y : ℕ). done y end) l)

  -- what has no parts has no elements
  alone : (x : Field) → own x.limit ≡ x → (R : Resolver) → encoded_size R (short_encoding e) type ≡ field_alone R x
  alone x g R = sym (alone_unlimited (own x.limit) R (by_type (own x.limit) refl)) ∙ ap (field_alone R) g

  one_node : (x : Field) → own x.limit ≡ x → field_nodes x ≡ 1
  one_node x g = sym (ap (λ (y : Field). field_nodes y) g) ∙ nodes_leaf (own x.limit) (short_leaf k v) refl (by_type (own x.limit) refl)

  by_size : (z : Size) (n : ℕ) → LimitTo f s (at + 4) n → ((R : Resolver) → Sized z ≡ encoded_size R (short_encoding e) type) → Settles f s at (Settled.Is record { worked = Sized z; next = n })
  unfolding Known
  by_size z n m same x end q = let g = is_own x end q in (m _ _ g.1, λ R. same R ∙ alone x g.0 R, one_node x g.0)

  pub short_leaf_lem : e ≡ 0 → (z : Size) → ((R : Resolver) → Sized z ≡ leaf_size R (leaf_of k v)) → (n : ℕ) → LimitTo f s (at + 4) n
      → Settles f s at (Settled.Is record { worked = Sized z; next = n })
  unfolding encoded_size type_size
  short_leaf_lem i z g n m =
      by_size z n m (λ R. g R ∙ leaf_as R (short_leaf k v) (short_kind f.names s at e k v h) (short_number f.names s at e k v h) ∙ subst (λ (j : ℕ). type_size R type ≡ encoded_size R (short_encoding j) type) (sym i) refl)

  pub short_varint : e ≡ 1 → (z : Size) → z ≡ Bounded 8 (varint_end (leaf (leaf_of k v))) → (n : ℕ) → LimitTo f s (at + 4) n
      → Settles f s at (Settled.Is record { worked = Sized z; next = n })
  unfolding encoded_size
  short_varint i z g n m =
      by_size z n m (λ R. ap Sized (g ∙ ap (Bounded 8) (varint_as type (short_kind f.names s at e k v h) (short_number f.names s at e k v h))) ∙ subst (λ (j : ℕ). Sized (Bounded 8 (varint_end type)) ≡ encoded_size R (short_encoding j) type) (sym i) refl)

  pub short_zigzag : (e ≡ 0 → ⊥) → (e ≡ 1 → ⊥) → (z : Size) → z ≡ Bounded 8 (zig_zag_end (leaf (leaf_of k v))) → (n : ℕ) → LimitTo f s (at + 4) n
      → Settles f s at (Settled.Is record { worked = Sized z; next = n })
  unfolding encoded_size
  short_zigzag a b z g n m =
      let i : e ≡ 2 = omega (arith, (short_bytes f.names s at e k v h).coded) in
      by_size z n m (λ R. ap Sized (g ∙ ap (Bounded 8) (zigzag_as type (short_kind f.names s at e k v h) (short_number f.names s at e k v h))) ∙ subst (λ (j : ℕ). Sized (Bounded 8 (zig_zag_end type)) ≡ encoded_size R (short_encoding j) type) (sym i) refl)

  pub short_name : e ≡ 0 → k ≡ 3 → (n : ℕ) → LimitTo f s (at + 4) n → Settles f s at (Settled.Name v n)
  unfolding Known encoded_size type_size leaf_size
  short_name i j n m x end q =
      let g = is_own x end q in
      let named_is = leaf_named (short_leaf k v) (short_kind f.names s at e k v h) j (short_number f.names s at e k v h) in
      (m _ _ g.1, λ R. sym (ap (λ (l : Leaf). leaf_size R l) named_is) ∙ subst (λ (y : ℕ). type_size R type ≡ encoded_size R (short_encoding y) type) (sym i) refl ∙ alone x g.0 R, one_node x g.0)

-- what was settled, once it was matched
module _ (f : Frame) (s : List ℕ) (at : ℕ) (r : Settled) (h : Settles f s at r) where
  pub is_settled : (w : Walked) → r ≡ Settled.Is w → (x : Field) (end : ℕ) → read (field_at f.edition f.names) s at ≡ done x end
      → (w.next ≡ end) × ((R : Resolver) → w.worked ≡ field_alone R x) × (field_nodes x ≡ 1)
  unfolding Known
  is_settled w e x end q = subst (Known f s x end) e (h x end q)

  pub name_settled : (i n : ℕ) → r ≡ Settled.Name i n → (x : Field) (end : ℕ) → read (field_at f.edition f.names) s at ≡ done x end
      → (n ≡ end) × ((R : Resolver) → R i ≡ field_alone R x) × (field_nodes x ≡ 1)
  unfolding Known
  name_settled i n e x end q = subst (Known f s x end) e (h x end q)

  pub at_settled : (p : ℕ) → r ≡ Settled.At p → (x : Field) (end : ℕ) → read (field_at f.edition f.names) s at ≡ done x end
      → (y : Field) × (read (plain_at f.edition f.names) s p ≡ done y end) × ((R : Resolver) → field_alone R y ≡ field_alone R x) × (field_nodes y ≡ field_nodes x)
  unfolding Known
  at_settled p e x end q = subst (Known f s x end) e (h x end q)

-- past the limit
pub limit_to : (f : Frame) (s : List ℕ) (at n : ℕ) → n ≡ place_of (next (read (limit_at f.edition) s at)) → LimitTo f s at n
limit_to f s at n e l end q = e ∙ ap (λ o. place_of (next o)) q
