-- A name takes two bytes, so that a table of half as many places as an image has bytes holds them all. Assumes nothing.
use Prim.Native.Nat.{ℕ, zero, suc, ◌+◌, ◌*◌, ◌^◌, ◌<◌, ◌≤◌}
use mathlib.Core.Path.{◌≡◌, refl, sym, ap, subst, ◌∙◌}
use mathlib.Core.List.{List, [], ◌∷◌}
use mathlib.Core.Bool.{Bool, true, false, cond, true≢false}
use native.Mathlib.Omega.{arith}
use lib.Dec.{eqb, ltb}
use lib.ListN.{length, length-append}
use Rattle.number.specs.Grammar.{Role, kind, slot, count, value, Grammar, give, take, ◌>>=◌, number, many, counted, nested, too_deep, done, refused, below, read}
use Rattle.number.proofs.Reading.{read_done, read_number, then_done, given, front}
use Rattle.number.proofs.InRange.{below_is}
use Rattle.tree.specs.Tree.{Tree, Leaf, leaf_kind, leaf_number}
use Rattle.tree.specs.TreeAt.{Node, none, one, two, sized, applied, sub_byte_at, bits_at, body_at, head_at, fill, tree_at}
use Rattle.tree.specs.Encoding.{encoding_at}
use Rattle.tree.specs.declared.Sort.TheVariants.{Resolved}
use Rattle.tree.proofs.Ranges.{each}
use Rattle.slot.specs.Field.{type_at, span_at, stored_at, limit_at, field_at, fields_at}
use Rattle.slot.specs.Slot.{Slot, empty, message, enum, flags, union, newtype, config, alias, trait, impl, slot_kind, Message, message_at, Union, union_at, Newtype, newtype_at, slot_body_at, slot_at}
use Rattle.slot.proofs.Whole.{made_of, slot_parts, field_parts_lem}
use Rattle.slot.specs.declared.Edition.{Edition}
use Rattle.view.proofs.Onward.{goes_on}
use Rattle.parts.specs.Names.{all_of, leaf_names, type_names, field_names, variant_names, slot_names}
use Rattle.parts.specs.Lists.{levels_at}

-- how far reading went, for the names of what was read
abbrev Costs : {A : Type 0} → List ℕ → Grammar A → (A → List ℕ) → Type 0
Costs {A} s g f = (at : ℕ) (x : A) (end : ℕ) → read g s at ≡ done x end → at + 2 * length (f x) ≤ end

leaf_short : (k v top : ℕ) → length (leaf_names k v top) ≤ 1
unfolding leaf_names
leaf_short k v top = go (eqb k 3) (ltb v 512)
  where
    go : (a b : Bool) → length (cond a (cond b ((v * 2 + top) ∷ []) []) []) ≤ 1
    go true true = omega arith
    go true false = omega arith
    go false b = omega arith

is_none : Node → Bool
is_none (none l) = true
is_none (one w) = false
is_none (two p) = false
is_none sized = false
is_none (applied n) = false

module _ (s : List ℕ) where
  takes : {A : Type 0} (role : Role) (limit : ℕ) (k : ℕ → Grammar A) (at : ℕ) (x : A) (end : ℕ) → read (take role limit k) s at ≡ done x end → at < end
  unfolding read
  takes role limit k at x end e =
      let t = then_done (below limit s at) _ e in
      let b = below_is s at limit t.0 t.1 t.2 in
      let r = goes_on (k t.0) s t.1 t.3 in
      omega (arith, b.after, r.forward)

  -- ## A type

  module _ (names at : ℕ) (l : Leaf) (n : ℕ) where
    other : (x : Node) → is_none x ≡ false → read (give x) s at ≡ done (none l) n → at < n
    unfolding read is_none
    other x h e = absurd (true≢false (sym (ap is_none (given e).0) ∙ h))

    -- a kind without a child holds a number
    leaf_body : (k : ℕ) → k < 17 → read (body_at Resolved names k) s at ≡ done (none l) n → at < n
    unfolding body_at ◌>>=◌ sub_byte_at bits_at counted is_none
    leaf_body k h =
        each (λ j. read (body_at Resolved names j) s at ≡ done (none l) n → at < n) 0 17 (
          takes value 14 _ at _ n,
          (
            takes value 2 _ at _ n,
            (
              takes value 6 _ at _ n,
              (
                takes slot (2 ^ 32) _ at _ n,
                (
                  other _ refl,
                  (
                    other _ refl,
                    (other _ refl, (other _ refl, (other _ refl, (other _ refl, (other _ refl, (other _ refl, (other _ refl, (other _ refl, (other _ refl, (other _ refl, (takes count 65537 _ at _ n, tt))))))))))),
                  ),
                ),
              ),
            ),
          ),
        )
        k (omega arith) (omega arith)

  head_forward : (names at : ℕ) (node : Node) (n : ℕ) → read (head_at Resolved names) s at ≡ done node n → at < n
  unfolding head_at ◌>>=◌
  head_forward names at node n e = takes kind 17 _ at node n e

  leaf_bytes : (names at : ℕ) (l : Leaf) (n : ℕ) → read (head_at Resolved names) s at ≡ done (none l) n → at + 2 ≤ n
  unfolding head_at
  leaf_bytes names at l n e =
      let a = read_done (number kind 17) (body_at Resolved names) s at (none l) n e in
      let b = below_is s at 17 a.first a.middle (sym (read_number kind 17 s at) ∙ a.here) in
      let r = leaf_body names a.middle l n a.first b.under a.rest in
      omega (arith, b.after, r)

  node_bytes : (names : ℕ) (child : Grammar Tree) → ((top : ℕ) → Costs s child (type_names top)) → (top at : ℕ) (node : Node) (n : ℕ) → read (head_at Resolved names) s at ≡ done node n
      → (t : Tree) (end : ℕ) → read (fill child node) s n ≡ done t end → at + 2 * length (type_names top t) ≤ end
  unfolding fill read type_names
  node_bytes names child ih top at (none l) n h t end e =
      let g = given e in
      rw (← g.0) (omega (arith, leaf_bytes names at l n h, leaf_short (leaf_kind l) (leaf_number l) top, g.1))
  node_bytes names child ih top at (one w) n h t end e =
      let a = read_done child _ s n t end e in
      let g = given a.rest in
      rw (← g.0) (omega (arith, head_forward names at (one w) n h, ih 0 n a.first a.middle a.here, g.1))
  node_bytes names child ih top at (applied v) n h t end e =
      let a = read_done child _ s n t end e in
      let g = given a.rest in
      rw (← g.0) (omega (arith, head_forward names at (applied v) n h, ih 0 n a.first a.middle a.here, g.1))
  node_bytes names child ih top at (two p) n h t end e =
      let a = read_done child _ s n t end e in
      let b = read_done child _ s a.middle t end a.rest in
      let g = given b.rest in
      rw (← g.0) (simp length-append (omega (arith, head_forward names at (two p) n h, ih 0 n a.first a.middle a.here, ih 0 a.middle b.first b.middle b.here, g.1)))
  node_bytes names child ih top at sized n h t end e =
      let a = read_done child _ s n t end e in
      let b = read_done (number value (2 ^ 64)) _ s a.middle t end a.rest in
      let g = given b.rest in
      let f = goes_on (number value (2 ^ 64)) s a.middle b.here in
      rw (← g.0) (omega (arith, head_forward names at sized n h, ih 0 n a.first a.middle a.here, f.forward, g.1))

  type_bytes : (names levels top : ℕ) → Costs s (levels_at names levels) (type_names top)
  unfolding tree_at nested too_deep read ◌>>=◌
  type_bytes names zero top at t end e = absurd (none_read (then_done (below 17 s at) _ e).3)
    where
      none_read : {r p : ℕ} {t : Tree} {n : ℕ} → refused r p ≡ done t n → ⊥
      none_read e = let z : ◌≡◌ {A = ℕ} 0 1 = cc in omega arith
  type_bytes names (suc levels) top at t end e =
      let a = read_done (head_at Resolved names) (fill (levels_at names levels)) s at t end e in
      node_bytes names (levels_at names levels) (λ k. type_bytes names levels k) top at a.first a.middle a.here t end a.rest

  -- ## Runs

  many_bytes : {A : Type 0} (g : Grammar A) (f : A → List ℕ) → Costs s g f → (left : ℕ) → Costs s (many left g) (all_of f)
  unfolding many read all_of
  many_bytes g f c zero at xs end e = let k = given e in rw (← k.0) (omega (arith, k.1))
  many_bytes g f c (suc left) at xs end e =
      let w = front g s left at xs end e in
      rw w.whole (simp length-append (omega (arith, c at w.first w.middle w.here, many_bytes g f c left w.middle w.others end w.rest)))

  counted_bytes : {A : Type 0} (g : Grammar A) (f : A → List ℕ) → Costs s g f → Costs s (counted g) (all_of f)
  unfolding counted
  counted_bytes g f c at xs end e =
      let a = read_done (number count 65537) (λ n. many n g) s at xs end e in
      let r = goes_on (number count 65537) s at a.here in
      let m = many_bytes g f c a.first a.middle xs end a.rest in
      omega (arith, r.forward, m)

  -- ## Slots

  field_bytes : (ed : Edition) (names top : ℕ) → Costs s (field_at ed names) (field_names top)
  field_bytes ed names top at x end e =
      let p = field_parts_lem s ed names at x end e in
      omega (arith, (below_is s at names x.field_name p.coded p.name_read).after, (goes_on (encoding_at 32) s p.coded p.encoding_read).forward, type_bytes names 32 top p.typed x.type p.behind p.type_read, (goes_on (limit_at ed) s p.behind p.limit_read).forward)

  fields_bytes : (ed : Edition) (names top : ℕ) → Costs s (fields_at ed names) (all_of (field_names top))
  fields_bytes ed names top = counted_bytes (field_at ed names) (field_names top) (field_bytes ed names top)

  message_bytes : (ed : Edition) (names : ℕ) → Costs s (message_at ed names) (λ m. all_of (field_names 1) m.fields)
  unfolding message_at read
  message_bytes ed names at x end e =
      let u = read_done span_at _ s at x end e in
      let v = read_done stored_at _ s u.middle x end u.rest in
      let w = read_done (fields_at ed names) _ s v.middle x end v.rest in
      let g = given w.rest in
      rw (← g.0) (omega (arith, (goes_on span_at s at u.here).forward, (goes_on stored_at s u.middle v.here).forward, fields_bytes ed names 1 v.middle w.first w.middle w.here, g.1))

  union_bytes : (ed : Edition) (names : ℕ) → Costs s (union_at ed names) (λ u. all_of variant_names u.variants)
  unfolding union_at read
  union_bytes ed names at x end e =
      let v = read_done stored_at _ s at x end e in
      let w = read_done (counted (fields_at ed names)) _ s v.middle x end v.rest in
      let g = given w.rest in
      rw (← g.0) (omega (arith, (goes_on stored_at s at v.here).forward, counted_bytes (fields_at ed names) variant_names (fields_bytes ed names 0) v.middle w.first w.middle w.here, g.1))

  newtype_bytes : (names : ℕ) → Costs s (newtype_at names) (λ n. type_names 1 n.inner)
  unfolding newtype_at read
  newtype_bytes names at x end e =
      let v = read_done (type_at names) _ s at x end e in
      let w = read_done (type_at names) _ s v.middle x end v.rest in
      let g = given w.rest in
      rw (← g.0) (omega (arith, type_bytes names 32 1 at v.first v.middle v.here, (goes_on (type_at names) s v.middle w.here).forward, g.1))

  body_bytes : (ed : Edition) (names at : ℕ) (x : Slot) (end : ℕ) → read (slot_body_at ed names (slot_kind x)) s at ≡ done x end → at + 2 * length (slot_names x) ≤ end
  unfolding slot_body_at slot_names
  body_bytes ed names at (message m) end e =
      let d = made_of s message (message_at ed names) at (message m) end e in
      let q : d.held ≡ m = let p = d.slot_is in cc in
      subst (λ (y : Message). at + 2 * length (all_of (field_names 1) y.fields) ≤ end) q (message_bytes ed names at d.held end d.reads)
  body_bytes ed names at (union u) end e =
      let d = made_of s union (union_at ed names) at (union u) end e in
      let q : d.held ≡ u = let p = d.slot_is in cc in
      subst (λ (y : Union). at + 2 * length (all_of variant_names y.variants) ≤ end) q (union_bytes ed names at d.held end d.reads)
  body_bytes ed names at (newtype n) end e =
      let d = made_of s newtype (newtype_at names) at (newtype n) end e in
      let q : d.held ≡ n = let p = d.slot_is in cc in
      subst (λ (y : Newtype). at + 2 * length (type_names 1 y.inner) ≤ end) q (newtype_bytes names at d.held end d.reads)
  body_bytes ed names at empty end e = omega (arith, (goes_on (slot_body_at ed names 0) s at e).forward)
  body_bytes ed names at (enum x) end e = omega (arith, (goes_on (slot_body_at ed names 2) s at e).forward)
  body_bytes ed names at (flags x) end e = omega (arith, (goes_on (slot_body_at ed names 3) s at e).forward)
  body_bytes ed names at config end e = omega (arith, (goes_on (slot_body_at ed names 6) s at e).forward)
  body_bytes ed names at (alias x) end e = omega (arith, (goes_on (slot_body_at ed names 7) s at e).forward)
  body_bytes ed names at (trait x) end e = omega (arith, (goes_on (slot_body_at ed names 8) s at e).forward)
  body_bytes ed names at (impl x) end e = omega (arith, (goes_on (slot_body_at ed names 9) s at e).forward)

  slot_bytes : (ed : Edition) (names : ℕ) → Costs s (slot_at ed names) slot_names
  slot_bytes ed names at x end e =
      let p = slot_parts s ed names at x end e in
      let b = below_is s at 10 (slot_kind x) p.body p.kind_read in
      omega (arith, b.after, body_bytes ed names p.body x end p.body_read)

  -- the names of a run of slots
  pub names_fit : (ed : Edition) (names left at : ℕ) (xs : List Slot) (end : ℕ) → read (many left (slot_at ed names)) s at ≡ done xs end → 2 * length (all_of slot_names xs) ≤ length s
  unfolding many read all_of
  names_fit ed names zero at xs end e = rw (← (given e).0) (omega arith)
  names_fit ed names (suc left) at xs end e =
      let w = front (slot_at ed names) s left at xs end e in
      let p = slot_parts s ed names at w.first w.middle w.here in
      let b = below_is s at 10 _ p.body p.kind_read in
      let c = many_bytes (slot_at ed names) slot_names (slot_bytes ed names) (suc left) at xs end e in
      let o = (goes_on (many (suc left) (slot_at ed names)) s at e).within (omega (arith, b.after, b.within)) in
      omega (arith, c, o)
