-- Bare names that lead on: of a type, a field, fields, a slot, and the slots in their order. Assumes nothing.
use Prim.Native.Nat.{ℕ, suc, ◌+◌, ◌-◌, ◌≤◌, ◌<◌, zero}
use mathlib.Core.Path.{◌≡◌, refl, sym, ap, ap₂, ◌∙◌}
use mathlib.Core.List.{List, [], ◌∷◌}
use mathlib.Core.Bool.{Bool, true, false, cond}
use mathlib.Core.Logic.{inl, inr, ⊎_elim}
use native.Mathlib.Omega.{arith}
use native.Mathlib.Numerals.{add-one}
use lib.Dec.{ltb}
use lib.ListN.{length, drop, get_or-eq_default}
use lib.Seq.{drop-nil, drop-cons}
use Rattle.std.proofs.Common.{Some, None}
use Rattle.std.specs.Bool.{then_some}
use Rattle.std.specs.Option.{is_some}
use Rattle.std.specs.declared.option.Option.{Option}
use types.Run.{OneOf}
use denote.Enum.Declared.{tag_of}
use borrow.Author.Tests.{ltb-true, ltb-false, lt-ltb, le-ltb}
use Rattle.number.specs.Grammar.{many, Outcome, done, refused, below, read}
use Rattle.number.specs.Answers.{next, follow}
use Rattle.number.specs.declared.Next.{Next}
use Rattle.number.proofs.Reading.{given, not_done, then_done, front, counted_on, counted_refused}
use Rattle.tree.specs.Tree.{Tree, Leaf, leaf_kind, leaf_number, primitive, sub_byte, semantic, named, bits_inline, qualified}
use Rattle.tree.specs.TreeAt.{Node, none, one, two, sized, applied, head_at, shape}
use Rattle.tree.specs.Encoding.{encoding_at}
use Rattle.tree.specs.declared.Sort.TheVariants.{Resolved}
use Rattle.tree.specs.declared.Head.{Head}
use Rattle.tree.specs.contracts.Head as heads
use Rattle.tree.proofs.Shapes.{parts}
use Rattle.tree.proofs.Nodes.{head_parts}
use Rattle.slot.specs.Field.{type_at, limit_at, Field, field_at, fields_at}
use Rattle.slot.specs.Slot.{Slot, empty, message, enum, flags, union, newtype, config, alias, trait, impl, slot_kind, Message, message_at, newtype_at, slot_body_at}
use Rattle.tree.specs.Short.{short_leaf}
use Rattle.slot.specs.Short.{short_at}
use Rattle.slot.specs.declared.Short.{Short}
use Rattle.slot.proofs.FourBytes.{short_reads, short_kind, short_number}
use Rattle.slot.proofs.Whole.{made_of}
use Rattle.slot.specs.declared.Edition.{Edition}
use Rattle.image.specs.Schema.{Schema, slot_of}
use Rattle.view.specs.Take.{place_of}
use Rattle.view.proofs.Places.{inner_stands, type_stands}
use Rattle.view.proofs.Taking.{placed}
use Rattle.view.proofs.Fetching.{Behind, body_at}
use Rattle.order.specs.Order.{holds_bare, rank, leads_on, bare_leaf, bare_type, bare_fields, bare_slot, in_order, ordered, is_ordered}
use Rattle.order.specs.Steps.{PassesTyped}

-- ## A name

module _ (up : Bool) (i j : ℕ) where
  pub lower_up : up ≡ true → i < 512 → ltb i j ≡ ltb (rank up j) (rank up i)
  unfolding rank
  lower_up e h = rw e (go (ltb i j) refl)
    where
      go : (b : Bool) → ltb i j ≡ b → b ≡ ltb (512 - j) (512 - i)
      go true q = let k = ltb-true i j q in sym (lt-ltb (512 - j) (512 - i) (omega arith))
      go false q = let k = ltb-false i j q in sym (le-ltb (512 - j) (512 - i) (omega arith))

  pub lower_down : up ≡ false → ltb j i ≡ ltb (rank up j) (rank up i)
  unfolding rank
  lower_down e = rw e

  module _ (S : Schema) where
    pub leads_lower : ltb (rank up j) (rank up i) ≡ true → true ≡ leads_on up S i j
    unfolding leads_on
    leads_lower e = rw e (go (holds_bare (slot_of S j)))
      where
        go : (b : Bool) → true ≡ cond b true true
        go true = refl
        go false = refl

    free : holds_bare (slot_of S j) ≡ false → true ≡ leads_on up S i j
    unfolding leads_on
    free e = rw e

    pub leads_past : length S.slots ≤ j → true ≡ leads_on up S i j
    unfolding slot_of
    leads_past h = free (ap holds_bare (get_or-eq_default S.slots empty h))

    pub leads_bare : (k : ℕ) → slot_kind (slot_of S j) ≡ k → OneOf (1 ∷ 5 ∷ []) k → ltb (rank up j) (rank up i) ≡ false → false ≡ leads_on up S i j
    unfolding leads_on
    leads_bare k e h q = rw (q, go (slot_of S j) (rw (← e) at h))
      where
        go : (x : Slot) → OneOf (1 ∷ 5 ∷ []) (slot_kind x) → holds_bare x ≡ true
        go (message m) h = refl
        go (newtype n) h = refl
        go empty h = absurd (⊎_elim (λ e. omega arith) (λ e. omega arith) h)
        go (enum m) h = absurd (⊎_elim (λ e. omega arith) (λ e. omega arith) h)
        go (flags m) h = absurd (⊎_elim (λ e. omega arith) (λ e. omega arith) h)
        go (union m) h = absurd (⊎_elim (λ e. omega arith) (λ e. omega arith) h)
        go config h = absurd (⊎_elim (λ e. omega arith) (λ e. omega arith) h)
        go (alias m) h = absurd (⊎_elim (λ e. omega arith) (λ e. omega arith) h)
        go (trait m) h = absurd (⊎_elim (λ e. omega arith) (λ e. omega arith) h)
        go (impl m) h = absurd (⊎_elim (λ e. omega arith) (λ e. omega arith) h)

    pub leads_free : (k : ℕ) → slot_kind (slot_of S j) ≡ k → (k ≡ 1 → ⊥) → (k ≡ 5 → ⊥) → true ≡ leads_on up S i j
    leads_free k e h i = free (go (slot_of S j) e)
      where
        go : (x : Slot) → slot_kind x ≡ k → holds_bare x ≡ false
        go (message m) q = absurd (h (sym q))
        go (newtype n) q = absurd (i (sym q))
        go empty q = refl
        go (enum m) q = refl
        go (flags m) q = refl
        go (union m) q = refl
        go config q = refl
        go (alias m) q = refl
        go (trait m) q = refl
        go (impl m) q = refl

-- ## A type

module _ (test : ℕ → Bool) where
  pub leaf_name : (l : Leaf) (k v : ℕ) → leaf_kind l ≡ k → leaf_number l ≡ v → k ≡ 3 → test v ≡ bare_leaf test l
  unfolding bare_leaf
  leaf_name (named j) k v a b e = rw (← b)
  leaf_name (primitive p) k v a b e = absurd (omega arith)
  leaf_name (sub_byte g n) k v a b e = absurd (omega arith)
  leaf_name (semantic m) k v a b e = absurd (omega arith)
  leaf_name (bits_inline ns) k v a b e = absurd (omega arith)
  leaf_name (qualified n) k v a b e = absurd (omega arith)

  pub leaf_other : (l : Leaf) (k : ℕ) → leaf_kind l ≡ k → (k ≡ 3 → ⊥) → true ≡ bare_leaf test l
  unfolding bare_leaf
  leaf_other (named j) k a h = absurd (h (sym a))
  leaf_other (primitive p) k a h = refl
  leaf_other (sub_byte g n) k a h = refl
  leaf_other (semantic m) k a h = refl
  leaf_other (bits_inline ns) k a h = refl
  leaf_other (qualified n) k a h = refl

-- what `then_some` gave
some_is : (b : Bool) (n m : ℕ) → Some n ≡ then_some b m → (b ≡ true) × (n ≡ m)
some_is true n m e = (refl, cc)
some_is false n m e = absurd cc

none_is : (b : Bool) (m : ℕ) → None ≡ then_some b m → b ≡ false
none_is true m e = absurd cc
none_is false m e = refl

is_some_is : (b : Bool) (m : ℕ) → is_some (then_some b m) ≡ b
is_some_is true m = refl
is_some_is false m = refl

module _ (test : ℕ → Bool) (names : ℕ) (s : List ℕ) where
  -- the position after the type at a place, if it passes the test
  abbrev pub PassesType : (at : ℕ) → Option ℕ → Type 0
  PassesType at r = (t : Tree) (end : ℕ) → read (type_at names) s at ≡ done t end → r ≡ then_some (bare_type test t) end

  module _ (at : ℕ) where
    pub pass_leaf : (k g v n : ℕ) (ok : Bool) → shape (read (head_at Resolved names) s at) ≡ Head.Leaf k g v n
        → ((l : Leaf) → leaf_kind l ≡ k → leaf_number l ≡ v → ok ≡ bare_leaf test l) → (r : Option ℕ) → r ≡ then_some ok n → PassesType at r
    unfolding bare_type
    pass_leaf k g v n ok q w r f t end e =
        let p = parts Resolved names s at 32 (λ z. omega arith) _ q t end e in
        f ∙ ap₂ (λ (b : Bool) (m : ℕ). then_some b m) (w p.0 p.2 p.4 ∙ sym (ap (bare_type test) p.1)) p.5

    -- the type at a place is no bare name that fails the test
    abbrev pub Passes : Type 0
    Passes = (t : Tree) (end : ℕ) → read (type_at names) s at ≡ done t end → bare_type test t ≡ true

    -- a head that is no leaf's
    pub not_leaf : (x : Head) → OneOf (1 ∷ 2 ∷ 3 ∷ 4 ∷ 5 ∷ []) (tag_of heads.the_type x) → shape (read (head_at Resolved names) s at) ≡ x → Passes
    unfolding bare_type
    not_leaf (Head.Leaf k g v n) h q t end e = absurd (none h)
      where
        none : OneOf (1 ∷ 2 ∷ 3 ∷ 4 ∷ 5 ∷ []) 0 → ⊥
        none (inl a) = omega arith
        none (inr (inl a)) = omega arith
        none (inr (inr (inl a))) = omega arith
        none (inr (inr (inr (inl a)))) = omega arith
        none (inr (inr (inr (inr a)))) = omega arith
    not_leaf (Head.One k n) h q t end e = let p = parts Resolved names s at 32 (λ z. omega arith) _ q t end e in ap (bare_type test) p.2
    not_leaf (Head.Two k n) h q t end e = let p = parts Resolved names s at 32 (λ z. omega arith) _ q t end e in ap (bare_type test) p.4
    not_leaf (Head.Sized n) h q t end e = let p = parts Resolved names s at 32 (λ z. omega arith) _ q t end e in ap (bare_type test) p.3
    not_leaf (Head.Generic v n) h q t end e = let p = parts Resolved names s at 32 (λ z. omega arith) _ q t end e in ap (bare_type test) p.1
    not_leaf (Head.Refused r n) h q t end e = absurd (parts Resolved names s at 32 (λ z. omega arith) _ q t end e)

    pub no_leaf : (x : Head) → ((k g v n : ℕ) → x ≡ Head.Leaf k g v n → ⊥) → shape (read (head_at Resolved names) s at) ≡ x → Passes
    no_leaf (Head.Leaf k g v n) h q = absurd (h k g v n refl)
    no_leaf (Head.One k n) h q = not_leaf _ (inl refl) q
    no_leaf (Head.Two k n) h q = not_leaf _ (inr (inl refl)) q
    no_leaf (Head.Sized n) h q = not_leaf _ (inr (inr (inl refl))) q
    no_leaf (Head.Generic v n) h q = not_leaf _ (inr (inr (inr (inl refl)))) q
    no_leaf (Head.Refused r n) h q = not_leaf _ (inr (inr (inr (inr refl)))) q

    -- a kind that is not a name's
    pub not_name : (k n : ℕ) → below 17 s at ≡ done k n → (k ≡ 3 → ⊥) → Passes
    unfolding bare_type
    not_name k n q h t end e = go (read (head_at Resolved names) s at) refl
      where
        go : (o : Outcome Node) → read (head_at Resolved names) s at ≡ o → bare_type test t ≡ true
        go (done (none l) m) f =
            let p = parts Resolved names s at 32 (λ z. omega arith) _ (ap shape f) t end e in
            let w = (given (sym (head_parts s Resolved names at (none l) m f).kind_read ∙ q)).0 in
            ap (bare_type test) p.1 ∙ sym (leaf_other test p.0 k (p.2 ∙ w) h)
        go (done (one w) m) f = not_leaf _ (inl refl) (ap shape f) t end e
        go (done (two w) m) f = not_leaf _ (inr (inl refl)) (ap shape f) t end e
        go (done sized m) f = not_leaf _ (inr (inr (inl refl))) (ap shape f) t end e
        go (done (applied v) m) f = not_leaf _ (inr (inr (inr (inl refl)))) (ap shape f) t end e
        go (refused r p) f = not_leaf _ (inr (inr (inr (inr refl)))) (ap shape f) t end e

    pub pass_other : Passes → (a : Next) (n : ℕ) → a ≡ next (read (type_at names) s at) → n ≡ place_of a → PassesType at (Some n)
    pass_other h a n f w t end e = rw (h t end e) (ap Some (placed w (f ∙ ap next e)))

-- ## A field

module _ (ed : Edition) (names : ℕ) (s : List ℕ) (at : ℕ) where
  -- a field's type stands at p, and the limit behind it
  abbrev pub TypeAt : (p : ℕ) → Type 0
  TypeAt p = (x : Field) (end : ℕ) → read (field_at ed names) s at ≡ done x end
      → (n : ℕ) × (read (type_at names) s p ≡ done x.type n) × (read (limit_at ed) s n ≡ done x.limit end)

  pub type_place : (a b : Next) (p : ℕ) → a ≡ next (below names s at) → b ≡ follow a (λ n. next (read (encoding_at 32) s n)) → p ≡ place_of b → TypeAt p
  type_place a b p f g w x end e =
      let y = type_stands s ed names at x end e a b f g in
      (y.2, ap (read (type_at names) s) (placed w y.1) ∙ y.3, y.4)

module _ (test : ℕ → Bool) (ed : Edition) (names : ℕ) (s : List ℕ) (at : ℕ) where
  -- the position between the type of the field at a place and its limit, if it passes the test
  abbrev pub PassesUpTo : Option ℕ → Type 0
  PassesUpTo r = (x : Field) (end : ℕ) → read (field_at ed names) s at ≡ done x end → PassesTyped test ed s x end r

  -- and the position after the field
  abbrev pub PassesField : Option ℕ → Type 0
  PassesField r = (x : Field) (end : ℕ) → read (field_at ed names) s at ≡ done x end → r ≡ then_some (bare_type test x.type) end

  pub pass_long : (p : ℕ) (r : Option ℕ) → TypeAt ed names s at p → PassesType test names s p r → PassesUpTo r
  pass_long p r w i x end e = let y = w x end e in (y.0, i x.type y.0 y.1, y.2)

  pub pass_short : (g k v : ℕ) (ok : Bool) → short_at names s at ≡ Short.Is g k v
      → ((l : Leaf) → leaf_kind l ≡ k → leaf_number l ≡ v → ok ≡ bare_leaf test l) → (r : Option ℕ) → r ≡ then_some ok (at + 4) → PassesUpTo r
  unfolding bare_type
  pass_short g k v ok q w o f x end e =
      let y = then_done (read (limit_at ed) s (at + 4)) _ (sym (short_reads names s at g k v q ed) ∙ e) in
      let r = given y.3 in (
        at + 4,
        f ∙ ap (λ (b : Bool). then_some b (at + 4)) (w (short_leaf k v) (short_kind names s at g k v q) (short_number names s at g k v q) ∙ ap (λ (z : Field). bare_type test z.type) r.0),
        y.2 ∙ ap (λ (z : Field). done z.limit y.1) r.0 ∙ ap (done x.limit) r.1,
      )

  -- past the limit
  pub pass_limit : (n : ℕ) → PassesUpTo (Some n) → (l : Next) (m : ℕ) → l ≡ follow (Next.At n) (λ k. next (read (limit_at ed) s k)) → m ≡ place_of l → PassesField (Some m)
  unfolding follow
  pass_limit n i l m f w x end e =
      let t = i x end e in
      let r = some_is (bare_type test x.type) n t.0 t.1 in
      rw r.0 (ap Some (placed w (f ∙ ap (λ (k : ℕ). next (read (limit_at ed) s k)) r.1 ∙ ap next t.2)))

-- ## One field after another

-- so many of `count` fields passed the test, and the answer is that of the others, still to come at p
pub record Run (test : ℕ → Bool) (ed : Edition) (names : ℕ) (s : List ℕ) (count at passed p : ℕ) : Type 0 where
  pub whole : (fs : List Field) (end : ℕ) → read (many count (field_at ed names)) s at ≡ done fs end
      → (gs : List Field) × (read (many (count - passed) (field_at ed names)) s p ≡ done gs end) × (bare_fields test fs ≡ bare_fields test gs)

module _ (test : ℕ → Bool) (ed : Edition) (names : ℕ) (s : List ℕ) where
  module _ (count at : ℕ) where
    pub run_start : Run test ed names s count at 0 at
    run_start = let d : count - 0 ≡ count = omega arith in record { whole = λ fs end e. (fs, rw d e, refl) }

    module _ (passed p : ℕ) (l : Run test ed names s count at passed p) where
      module _ (h : passed < count) where
        -- the field at p, and the answer by it
        record Next_field (fs : List Field) (end : ℕ) : Type 0 where
          field : Field
          middle : ℕ
          here : read (field_at ed names) s p ≡ done field middle
          others : List Field
          rest : read (many (count - (passed + 1)) (field_at ed names)) s middle ≡ done others end
          answer : bare_fields test fs ≡ cond (bare_type test field.type) (bare_fields test others) false

        next_field : (fs : List Field) (end : ℕ) → read (many count (field_at ed names)) s at ≡ done fs end → Next_field fs end
        unfolding bare_fields
        next_field fs end e =
            let d : count - passed ≡ suc (count - (passed + 1)) = omega arith in
            let a = l.whole fs end e in
            let w = front (field_at ed names) s (count - (passed + 1)) p a.0 end (rw d at a.1) in
            record {
              field = w.first;
              middle = w.middle;
              here = w.here;
              others = w.others;
              rest = w.rest;
              answer = a.2 ∙ ap (bare_fields test) w.whole;
            }

        pub run_on : (n : ℕ) → PassesField test ed names s p (Some n) → Run test ed names s count at (passed + 1) n
        run_on n i =
            record {
              whole = λ fs end e.
                  let a = next_field fs end e in
                  let r = some_is (bare_type test a.field.type) n a.middle (i a.field a.middle a.here) in (
                    a.others,
                    ap (read (many (count - (passed + 1)) (field_at ed names)) s) r.1 ∙ a.rest,
                    a.answer ∙ ap (λ (b : Bool). cond b (bare_fields test a.others) false) r.0,
                  );
            }

        pub run_stop : PassesField test ed names s p None → (fs : List Field) (end : ℕ) → read (many count (field_at ed names)) s at ≡ done fs end → false ≡ bare_fields test fs
        run_stop i fs end e =
            let a = next_field fs end e in
            sym (a.answer ∙ ap (λ (b : Bool). cond b (bare_fields test a.others) false) (none_is (bare_type test a.field.type) a.middle (i a.field a.middle a.here)))

      pub run_end : count ≤ passed → (fs : List Field) (end : ℕ) → read (many count (field_at ed names)) s at ≡ done fs end → true ≡ bare_fields test fs
      unfolding many read bare_fields
      run_end h fs end e =
          let d : count - passed ≡ 0 = omega arith in
          let a = l.whole fs end e in
          sym (a.2 ∙ ap (bare_fields test) (sym (given (rw d at a.1)).0))

  -- behind their count
  module _ (at : ℕ) (r : Bool) where
    abbrev pub LedFields : Type 0
    LedFields = (fs : List Field) (end : ℕ) → read (fields_at ed names) s at ≡ done fs end → r ≡ bare_fields test fs

    pub counted_led : (c n : ℕ) → below 65537 s at ≡ done c n
        → ((fs : List Field) (end : ℕ) → read (many c (field_at ed names)) s n ≡ done fs end → r ≡ bare_fields test fs) → LedFields
    counted_led c n e i fs end q = i fs end (sym (counted_on (field_at ed names) s at c n e) ∙ q)

    pub counted_not : (q p : ℕ) → below 65537 s at ≡ refused q p → LedFields
    counted_not q p e fs end k = absurd (not_done (counted_refused (field_at ed names) s at q p e) k)

-- ## A slot

module _ (test : ℕ → Bool) (ed : Edition) (names : ℕ) (s : List ℕ) (x : Slot) (kind body : ℕ) (b : Behind ed names s x kind body) where
  pub slot_message : kind ≡ 1 → (p : ℕ) (r : Bool)
      → ((ed : Edition) (names : ℕ) (m : Message) (end : ℕ) → read (message_at ed names) s body ≡ done m end → read (fields_at ed names) s p ≡ done m.fields end)
      → LedFields test ed names s p r → r ≡ bare_slot test x
  unfolding slot_body_at bare_slot
  slot_message e p r w i =
      let m = made_of s message (message_at ed names) body x b.end (body_at b 1 e) in
      i m.held.fields b.end (w ed names m.held b.end m.reads) ∙ sym (ap (bare_slot test) m.slot_is)

  pub slot_newtype : kind ≡ 5 → (r : Option ℕ) → PassesType test names s body r → is_some r ≡ bare_slot test x
  unfolding slot_body_at bare_slot
  slot_newtype e r i =
      let m = made_of s newtype (newtype_at names) body x b.end (body_at b 5 e) in
      let k = inner_stands s names body m.held b.end m.reads in
      ap is_some (i m.held.inner k.0 k.1) ∙ is_some_is (bare_type test m.held.inner) k.0 ∙ sym (ap (bare_slot test) m.slot_is)

  pub slot_other : (kind ≡ 1 → ⊥) → (kind ≡ 5 → ⊥) → true ≡ bare_slot test x
  unfolding bare_slot
  slot_other h i = go x b.kind_is
    where
      go : (z : Slot) → slot_kind z ≡ kind → true ≡ bare_slot test z
      go (message m) q = absurd (h (sym q))
      go (newtype n) q = absurd (i (sym q))
      go empty q = refl
      go (enum m) q = refl
      go (flags m) q = refl
      go (union m) q = refl
      go config q = refl
      go (alias m) q = refl
      go (trait m) q = refl
      go (impl m) q = refl

-- ## The slots

-- the slots before i lead on
abbrev pub Sofar : Bool → Schema → ℕ → Type 0
Sofar up S i = ordered up S ≡ in_order up S i (drop i S.slots)

module _ (up : Bool) (S : Schema) where
  pub sofar_start : Sofar up S 0
  unfolding ordered
  sofar_start = refl

  module _ (i : ℕ) (l : Sofar up S i) where
    pub sofar_end : length S.slots ≤ i → true ≡ ordered up S
    unfolding in_order
    sofar_end h = sym (l ∙ ap (in_order up S i) (none i S.slots h))
      where
        none : (n : ℕ) (xs : List Slot) → length xs ≤ n → drop n xs ≡ []
        none n [] q = drop-nil n
        none zero (x ∷ xs) q = absurd (omega arith)
        none (suc n) (x ∷ xs) q = none n xs (omega arith)

    module _ (h : i < length S.slots) (r : Bool) (q : r ≡ bare_slot (leads_on up S i) (slot_of S i)) where
      step : ordered up S ≡ cond r (in_order up S (suc i) (drop (suc i) S.slots)) false
      unfolding in_order slot_of
      step = l ∙ ap (in_order up S i) (drop-cons S.slots i empty h) ∙ ap (λ (b : Bool). cond b (in_order up S (suc i) (drop (suc i) S.slots)) false) (sym q)

      pub sofar_on : r ≡ true → Sofar up S (i + 1)
      sofar_on e = rw add-one (rw e at step)

      pub sofar_stop : r ≡ false → false ≡ ordered up S
      sofar_stop e = sym (rw e at step)

-- either way
module _ (S : Schema) where
  pub ordered_down : true ≡ ordered false S → true ≡ is_ordered S
  unfolding is_ordered
  ordered_down e = rw (← e)

  pub ordered_up : false ≡ ordered false S → (r : Bool) → r ≡ ordered true S → r ≡ is_ordered S
  unfolding is_ordered
  ordered_up e r q = rw (← e) q
