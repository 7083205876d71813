-- The parts of a slot, from the numbers that were taken, and the row that they make. Assumes nothing.
use Prim.Native.Nat.{ℕ, zero, suc, ◌<◌, ◌^◌}
use mathlib.Core.Path.{◌≡◌, refl, sym, ap, subst, ◌∙◌}
use mathlib.Core.List.{List}
use mathlib.Core.Bool.{Bool, true, false, not, cond}
use mathlib.Core.Option.{some}
use native.Mathlib.Omega.{arith}
use lib.Dec.{eqb}
use lib.ListN.{get_or}
use Rattle.number.specs.Grammar.{Grammar, kind, count, value, give, ◌>>=◌, number, many, counted, done, read}
use Rattle.number.proofs.Reading.{read_done, given}
use Rattle.tree.specs.TreeAt.{no_kind}
use Rattle.slot.specs.Field.{Span, span_at, Stored, stored_table, stored_at, fields_at}
use Rattle.slot.specs.Slot.{Slot, empty, message, enum, flags, union, newtype, config, alias, trait, impl, slot_kind, Message, message_at, Ordinals, retired_at, ordinals_at, Enum, enum_at, Flags, flags_at, Union, union_at, made, slot_body_at}
use Rattle.slot.proofs.Whole.{Made, made_of}
use Rattle.slot.specs.declared.Edition.{Edition}
use Rattle.slot.specs.declared.Edition.TheVariants.{One, Two}
use Rattle.graph.specs.Ways.{has}
use Rattle.image.specs.Schema.{Schema, slot_of}
use Rattle.image.specs.declared.Frame.{Frame}
use Rattle.reader.specs.Reading.{schema_of}
use Rattle.reader.specs.Promise.{Promise}
use Rattle.view.specs.Part.{part_at}
use Rattle.view.specs.declared.Part.{Part}
use Rattle.reader.proofs.Fetching.{part_behind, not_missing}
use Rattle.sizes.specs.Widths.{highest, top_of, enum_bits, bytes_to, flags_bytes, enum_bits_at, flags_bytes_at}
use Rattle.sizes.specs.declared.Size.TheVariants.{Fixed, Bounded, Open}
use Rattle.sizes.specs.Names.{State}
use Rattle.sizes.specs.Check.{size_in, brought_in, brought, is_there, row, size_row, slot_row}
use Rattle.sizes.specs.Demand.{Sizable, is_message, is_union}
use Rattle.sizes.proofs.Table.{sizable_row}
use Rattle.rows.specs.Rows.{numbers, Takes, Tops, RowIs, BringsIs}
use Rattle.rows.specs.declared.Row.{Row}
use Rattle.rows.proofs.Taking.{take_on}

brings : {y z : Stored} → y ≡ z → size_row (size_in y) ≡ size_row (size_in z)
brings e = ap (λ (x : Stored). size_row (size_in x)) e

there : {y z : Stored} → y ≡ z → is_there (size_in y) ≡ is_there (size_in z)
there e = ap (λ (x : Stored). is_there (size_in x)) e

-- a kind of stored size that holds no number
none_stored : (s : List ℕ) (n : ℕ) (z : Stored) (end k : ℕ) → read (get_or stored_table k no_kind) s n ≡ done z end
    → ¬ (k ≡ 1) → ¬ (k ≡ 2) → ¬ (k ≡ 3) → row 0 0 0 ≡ size_row (size_in z)
unfolding read ◌>>=◌
none_stored s n z end zero e a b c = brings (given e).0
none_stored s n z end (suc zero) e a b c = absurd (a refl)
none_stored s n z end (suc (suc zero)) e a b c = absurd (b refl)
none_stored s n z end (suc (suc (suc zero))) e a b c = absurd (c refl)
none_stored s n z end (suc (suc (suc (suc k)))) e a b c = let y : ◌≡◌ {A = ℕ} 0 1 = cc in absurd (omega arith)

-- all but kind 0 hold some
some_stored : (s : List ℕ) (n : ℕ) (z : Stored) (end k : ℕ) → read (get_or stored_table k no_kind) s n ≡ done z end → not (eqb k 0) ≡ is_there (size_in z)
unfolding read ◌>>=◌
some_stored s n z end zero e = there (given e).0
some_stored s n z end (suc zero) e = there (given (read_done (number value (2 ^ 63)) (λ b. give (Stored.fixed b)) s n z end e).rest).0
some_stored s n z end (suc (suc zero)) e = there (given (read_done (number value (2 ^ 63)) (λ l. give (Stored.from l)) s n z end e).rest).0
some_stored s n z end (suc (suc (suc zero))) e =
    let p = read_done (number value (2 ^ 63)) (λ l. ◌>>=◌ (number value (2 ^ 63)) (λ h. give (Stored.bounded l h))) s n z end e in
    there (given (read_done (number value (2 ^ 63)) (λ h. give (Stored.bounded p.first h)) s p.middle z end p.rest).rest).0
some_stored s n z end (suc (suc (suc (suc k)))) e = let y : ◌≡◌ {A = ℕ} 0 1 = cc in absurd (omega arith)

module _ (s : List ℕ) (at : ℕ) where
  -- ## Spans and stored sizes

  pub span_end_lem : (v n w m : ℕ) → Takes s at v n → Takes s n w m → (x : Span) (end : ℕ) → read span_at s at ≡ done x end → m ≡ end
  unfolding span_at read
  span_end_lem v n w m t u x end e =
      (given (take_on s n value (2 ^ 32) _ x end w m u (take_on s at value (2 ^ 32) _ x end v n t e))).1

  module _ (k n : ℕ) (t : Takes s at k n) (z : Stored) (end : ℕ) (e : read stored_at s at ≡ done z end) where
    behind_kind : read (get_or stored_table k no_kind) s n ≡ done z end
    unfolding stored_at
    behind_kind = take_on s at kind 4 _ z end k n t e

    pub stored_fixed : (b m : ℕ) → Takes s n b m → k ≡ 1 → size_row (some (Fixed b)) ≡ size_row (size_in z)
    unfolding read
    stored_fixed b m u q = brings (given (take_on s n value (2 ^ 63) _ z end b m u (rw q at behind_kind))).0

    pub stored_from : (b m : ℕ) → Takes s n b m → k ≡ 2 → size_row (some (Open b)) ≡ size_row (size_in z)
    unfolding read
    stored_from b m u q = brings (given (take_on s n value (2 ^ 63) _ z end b m u (rw q at behind_kind))).0

    pub stored_bounded : (b m h o : ℕ) → Takes s n b m → Takes s m h o → k ≡ 3 → size_row (some (Bounded b h)) ≡ size_row (size_in z)
    unfolding read
    stored_bounded b m h o u w q =
        brings (given (take_on s m value (2 ^ 63) _ z end h o w (take_on s n value (2 ^ 63) _ z end b m u (rw q at behind_kind)))).0

    pub stored_there : not (eqb k 0) ≡ is_there (size_in z)
    stored_there = some_stored s n z end k behind_kind

    pub stored_none : ¬ (k ≡ 1) → ¬ (k ≡ 2) → ¬ (k ≡ 3) → row 0 0 0 ≡ size_row (size_in z)
    stored_none a b c = none_stored s n z end k behind_kind a b c

  -- ## Ordinals and bits

  -- a count, and so many
  pub counted_tops : (c n : ℕ) → Takes s at c n → (start top next : ℕ) → Tops (many c (number value (2 ^ 32))) s n start top next
      → Tops (counted (number value (2 ^ 32))) s at start top next
  unfolding counted
  counted_tops c n t start top next h os m r = h os m (take_on s at count 65537 _ os m c n t r)

  -- the live ones, and the retired ones behind them
  record OrdinalsParts (ed : Edition) (os : Ordinals) : Type 0 where
    live : List ℕ
    live_end : ℕ
    live_read : read (counted (number value (2 ^ 32))) s at ≡ done live live_end
    retired : List ℕ
    retired_end : ℕ
    retired_read : read (retired_at ed) s live_end ≡ done retired retired_end
    ordinals_are : record { live = live; retired = retired } ≡ os

  ordinals_parts : (ed : Edition) (os : Ordinals) (end : ℕ) → read (ordinals_at ed) s at ≡ done os end → OrdinalsParts ed os
  unfolding ordinals_at read
  ordinals_parts ed os end r =
      let p = read_done (counted (number value (2 ^ 32))) _ s at os end r in
      let q = read_done (retired_at ed) _ s p.middle os end p.rest in
      record {
        live = p.first;
        live_end = p.middle;
        live_read = p.here;
        retired = q.first;
        retired_end = q.middle;
        retired_read = q.here;
        ordinals_are = (given q.rest).0;
      }

  module _ (v n : ℕ) (t : Tops (counted (number value (2 ^ 32))) s at 0 v n) where
    -- in edition one none is retired
    pub live_top : (ed : Edition) → ed ≡ One → (os : Ordinals) (end : ℕ) → read (ordinals_at ed) s at ≡ done os end → v ≡ top_of os
    unfolding retired_at read top_of highest
    live_top ed e os end r =
        let p = ordinals_parts One os end (rw e at r) in
        let none = (given p.retired_read).0 in
        (t p.live p.live_end p.live_read).0
        ∙ ap (λ (l : List ℕ). top_of (record { live = p.live; retired = l })) none
        ∙ ap top_of p.ordinals_are

    -- in edition two they go on from the live ones
    pub both_top : (ed : Edition) → ed ≡ Two → (w m : ℕ) → Tops (counted (number value (2 ^ 32))) s n v w m
        → (os : Ordinals) (end : ℕ) → read (ordinals_at ed) s at ≡ done os end → w ≡ top_of os
    unfolding retired_at top_of
    both_top ed e w m u os end r =
        let p = ordinals_parts Two os end (rw e at r) in
        let q = t p.live p.live_end p.live_read in
        (u p.retired p.retired_end (ap (read (counted (number value (2 ^ 32))) s) q.1 ∙ p.retired_read)).0
        ∙ ap (λ (x : ℕ). highest x p.retired) q.0
        ∙ ap top_of p.ordinals_are

  -- ## Enums and flags

  module _ (ed : Edition) where
    -- an enum from the numbers in front of its ordinals
    record EnumParts (backing non_exhaustive bits ordinals : ℕ) (e : Enum) (end : ℕ) : Type 0 where
      pub list : Ordinals
      pub list_read : read (ordinals_at ed) s ordinals ≡ done list end
      pub enum_is : e ≡ record { backing = backing; non_exhaustive = non_exhaustive; stored_bits = bits; ordinals = list }

    module _ (b n x m w o : ℕ) (t : Takes s at b n) (u : Takes s n x m) (v : Takes s m w o) where
      enum_parts : (e : Enum) (end : ℕ) → read (enum_at ed) s at ≡ done e end → EnumParts b x w o e end
      unfolding enum_at read
      enum_parts e end r =
          let p = read_done (ordinals_at ed) _ s o e end (take_on s m value 256 _ e end w o v (take_on s n value 2 _ e end x m u (take_on s at value 5 _ e end b n t r))) in
          let g = given p.rest in
          record { list = p.first; list_read = p.here ∙ ap (done p.first) g.1; enum_is = sym g.0 }

      pub enum_stored : (declared : Bool) → declared ≡ false → (e : Enum) (end : ℕ) → read (enum_at ed) s at ≡ done e end
          → w ≡ cond declared (enum_bits e) e.stored_bits
      enum_stored declared d e end r = rw (d, (enum_parts e end r).enum_is)

      pub enum_worked : (declared : Bool) → declared ≡ true → (top : ℕ) → ((os : Ordinals) (k : ℕ) → read (ordinals_at ed) s o ≡ done os k → top ≡ top_of os)
          → (bits : ℕ) → ((e : Enum) → e.backing ≡ b → e.non_exhaustive ≡ x → top_of e.ordinals ≡ top → bits ≡ enum_bits e)
          → (e : Enum) (end : ℕ) → read (enum_at ed) s at ≡ done e end → bits ≡ cond declared (enum_bits e) e.stored_bits
      enum_worked declared d top h bits k e end r =
          let p = enum_parts e end r in
          rw d (k e (ap (λ (y : Enum). y.backing) p.enum_is) (ap (λ (y : Enum). y.non_exhaustive) p.enum_is)
          (ap (λ (y : Enum). top_of y.ordinals) p.enum_is ∙ sym (h p.list end p.list_read)))

    record FlagsParts (bytes ordinals : ℕ) (f : Flags) (end : ℕ) : Type 0 where
      pub list : Ordinals
      pub list_read : read (ordinals_at ed) s ordinals ≡ done list end
      pub flags_is : f ≡ record { stored_bytes = bytes; bits = list }

    module _ (w o : ℕ) (t : Takes s at w o) where
      flags_parts : (f : Flags) (end : ℕ) → read (flags_at ed) s at ≡ done f end → FlagsParts w o f end
      unfolding flags_at read
      flags_parts f end r =
          let p = read_done (ordinals_at ed) _ s o f end (take_on s at value 256 _ f end w o t r) in
          let g = given p.rest in
          record { list = p.first; list_read = p.here ∙ ap (done p.first) g.1; flags_is = sym g.0 }

      pub flags_stored : (declared : Bool) → declared ≡ false → (f : Flags) (end : ℕ) → read (flags_at ed) s at ≡ done f end
          → w ≡ cond declared (flags_bytes f) f.stored_bytes
      flags_stored declared d f end r = rw (d, (flags_parts f end r).flags_is)

      pub flags_worked : (declared : Bool) → declared ≡ true → (top : ℕ) → ((os : Ordinals) (k : ℕ) → read (ordinals_at ed) s o ≡ done os k → top ≡ top_of os)
          → (bytes : ℕ) → bytes ≡ bytes_to top → (f : Flags) (end : ℕ) → read (flags_at ed) s at ≡ done f end → bytes ≡ cond declared (flags_bytes f) f.stored_bytes
      unfolding flags_bytes
      flags_worked declared d top h bytes k f end r =
          let p = flags_parts f end r in
          rw d (k ∙ ap bytes_to (h p.list end p.list_read ∙ ap (λ (y : Flags). top_of y.bits) (sym p.flags_is)))

  -- ## Messages and unions

  record MessageParts (m : Message) : Type 0 where
    pub span : Span
    pub span_end : ℕ
    pub span_read : read span_at s at ≡ done span span_end
    pub stored_end : ℕ
    pub stored_read : read stored_at s span_end ≡ done m.stored stored_end

  message_parts : (ed : Edition) (names : ℕ) (m : Message) (end : ℕ) → read (message_at ed names) s at ≡ done m end → MessageParts m
  unfolding message_at read
  message_parts ed names m end r =
      let p = read_done span_at _ s at m end r in
      let q = read_done stored_at _ s p.middle m end p.rest in
      let f = read_done (fields_at ed names) _ s q.middle m end q.rest in
      record {
        span = p.first;
        span_end = p.middle;
        span_read = p.here;
        stored_end = q.middle;
        stored_read = q.here ∙ ap (λ (y : Message). done y.stored q.middle) (given f.rest).0;
      }

  union_stored : (ed : Edition) (names : ℕ) (u : Union) (end : ℕ) → read (union_at ed names) s at ≡ done u end → (n : ℕ) × (read stored_at s at ≡ done u.stored n)
  unfolding union_at read
  union_stored ed names u end r =
      let p = read_done stored_at _ s at u end r in
      let f = read_done (counted (fields_at ed names)) _ s p.middle u end p.rest in
      (p.middle, p.here ∙ ap (λ (y : Union). done y.stored p.middle) (given f.rest).0)

-- ## The row of a slot

module _ (S : Schema) (i : ℕ) where
  enum_row : (st : State) (e : Enum) (declared : Bool) (w : ℕ) → declared ≡ has i S.declared → w ≡ cond declared (enum_bits e) e.stored_bits
      → row 4 w 0 ≡ slot_row S st i (enum e)
  unfolding slot_row enum_bits_at
  enum_row st e declared w d q = rw (q, d)

  flags_row : (st : State) (f : Flags) (declared : Bool) (w : ℕ) → declared ≡ has i S.declared → w ≡ cond declared (flags_bytes f) f.stored_bytes
      → row 5 w 0 ≡ slot_row S st i (flags f)
  unfolding slot_row flags_bytes_at
  flags_row st f declared w d q = rw (q, d)

  -- no other kind has a row
  blank_row : (st : State) (x : Slot) → ¬ (slot_kind x ≡ 1) → ¬ (slot_kind x ≡ 2) → ¬ (slot_kind x ≡ 3) → ¬ (slot_kind x ≡ 4) → row 0 0 0 ≡ slot_row S st i x
  unfolding slot_row
  blank_row st empty a b c d = refl
  blank_row st (message m) a b c d = absurd (a refl)
  blank_row st (enum e) a b c d = absurd (b refl)
  blank_row st (flags f) a b c d = absurd (c refl)
  blank_row st (union u) a b c d = absurd (d refl)
  blank_row st (newtype n) a b c d = refl
  blank_row st config a b c d = refl
  blank_row st (alias x) a b c d = refl
  blank_row st (trait t) a b c d = refl
  blank_row st (impl m) a b c d = refl

-- a message or union, and the stored size that stands at a position
record Sized (S : Schema) (i : ℕ) (s : List ℕ) (at : ℕ) : Type 0 where
  stored : Stored
  end : ℕ
  reads : read stored_at s at ≡ done stored end
  brings : brought S i ≡ size_in stored
  sizable : Sizable (slot_of S i)

-- its row shows what the image brings
sized_row : (S : Schema) (i : ℕ) (s : List ℕ) (at : ℕ) (z : Sized S i s at) → size_row (size_in z.stored) ≡ slot_row S (brought S) i (slot_of S i)
sized_row S i s at z = sym (sizable_row S (brought S) i z.sizable ∙ ap size_row z.brings)

-- no other kind brings a size
brings_none : (x : Slot) → ¬ (slot_kind x ≡ 1) → ¬ (slot_kind x ≡ 4) → false ≡ is_there (brought_in x)
brings_none empty a b = refl
brings_none (message m) a b = absurd (a refl)
brings_none (enum e) a b = refl
brings_none (flags f) a b = refl
brings_none (union u) a b = absurd (b refl)
brings_none (newtype n) a b = refl
brings_none config a b = refl
brings_none (alias x) a b = refl
brings_none (trait t) a b = refl
brings_none (impl m) a b = refl

module _ (s starts : List ℕ) (i : ℕ) where
  pub row_missing : part_at s starts i ≡ Part.Missing → (ed : Edition) (declared : Bool) (r : Row) → RowIs s starts ed i declared r
  row_missing e ed declared r f same promise h d = absurd (not_missing s starts f promise i h e)

  pub brings_missing : part_at s starts i ≡ Part.Missing → (r : Bool) → BringsIs s starts i r
  brings_missing e r f promise h = absurd (not_missing s starts f promise i h e)

  module _ (k body : ℕ) (part : part_at s starts i ≡ Part.At k body) where
    -- a slot of one kind
    held : {A : Type 0} (g : A → Slot) (a : Grammar A) (f : Frame) (promise : Promise s starts f) (h : i < f.slots)
        → slot_body_at f.edition f.names k ≡ made g a → (end : ℕ) × Made g a s body (slot_of (schema_of f.edition s) i) end
    held g a f promise h q =
        let b = part_behind s starts f promise i h k body part in
        (b.end, made_of s g a body (slot_of (schema_of f.edition s) i) b.end (ap (λ (y : Grammar Slot). read y s body) (sym q) ∙ b.reads))

    module _ (f : Frame) (promise : Promise s starts f) (h : i < f.slots) where
      message_sized : k ≡ 1 → (p : ℕ) → ((x : Span) (n : ℕ) → read span_at s body ≡ done x n → p ≡ n) → Sized (schema_of f.edition s) i s p
      unfolding slot_body_at brought
      message_sized q p after =
          let m = (held message (message_at f.edition f.names) f promise h (rw q)).1 in
          let t = message_parts s body f.edition f.names m.held _ m.reads in
          record {
            stored = m.held.stored;
            end = t.stored_end;
            reads = rw (after t.span t.span_end t.span_read) t.stored_read;
            brings = ap brought_in m.slot_is;
            sizable = subst Sizable (sym m.slot_is) is_message;
          }

      union_sized : k ≡ 4 → Sized (schema_of f.edition s) i s body
      unfolding slot_body_at brought
      union_sized q =
          let m = (held union (union_at f.edition f.names) f promise h (rw q)).1 in
          let t = union_stored s body f.edition f.names m.held _ m.reads in
          record {
            stored = m.held.stored;
            end = t.0;
            reads = t.1;
            brings = ap brought_in m.slot_is;
            sizable = subst Sizable (sym m.slot_is) is_union;
          }

    -- ## Whether it brings a size

    pub brings_message : k ≡ 1 → (p : ℕ) → ((x : Span) (n : ℕ) → read span_at s body ≡ done x n → p ≡ n)
        → (r : Bool) → ((z : Stored) (n : ℕ) → read stored_at s p ≡ done z n → r ≡ is_there (size_in z)) → BringsIs s starts i r
    brings_message q p after r says f promise h =
        let z = message_sized f promise h q p after in
        says z.stored z.end z.reads ∙ ap is_there (sym z.brings)

    pub brings_union : k ≡ 4 → (r : Bool) → ((z : Stored) (n : ℕ) → read stored_at s body ≡ done z n → r ≡ is_there (size_in z)) → BringsIs s starts i r
    brings_union q r says f promise h =
        let z = union_sized f promise h q in
        says z.stored z.end z.reads ∙ ap is_there (sym z.brings)

    pub brings_other : ¬ (k ≡ 1) → ¬ (k ≡ 4) → BringsIs s starts i false
    unfolding brought
    brings_other a b f promise h =
        let q = (part_behind s starts f promise i h k body part).kind_is in
        brings_none (slot_of (schema_of f.edition s) i) (λ x. a (sym q ∙ x)) (λ x. b (sym q ∙ x))

    -- ## Its row

    pub row_message : (ed : Edition) (declared : Bool) → k ≡ 1 → (p : ℕ) → ((x : Span) (n : ℕ) → read span_at s body ≡ done x n → p ≡ n)
        → (r : Row) → ((z : Stored) (n : ℕ) → read stored_at s p ≡ done z n → numbers r ≡ size_row (size_in z)) → RowIs s starts ed i declared r
    row_message ed declared q p after r says f same promise h d =
        let z = message_sized f promise h q p after in
        says z.stored z.end z.reads ∙ sized_row _ _ _ _ z

    pub row_union : (ed : Edition) (declared : Bool) → k ≡ 4 → (r : Row) → ((z : Stored) (n : ℕ) → read stored_at s body ≡ done z n → numbers r ≡ size_row (size_in z))
        → RowIs s starts ed i declared r
    row_union ed declared q r says f same promise h d =
        let z = union_sized f promise h q in
        says z.stored z.end z.reads ∙ sized_row _ _ _ _ z

    pub row_enum : (ed : Edition) (declared : Bool) → k ≡ 2 → (w : ℕ) → ((e : Enum) (n : ℕ) → read (enum_at ed) s body ≡ done e n → w ≡ cond declared (enum_bits e) e.stored_bits)
        → RowIs s starts ed i declared (record { kind = 4; a = w; b = 0 })
    unfolding slot_body_at
    row_enum ed declared q w says f same promise h d =
        let m = (held enum (enum_at f.edition) f promise h (rw q)).1 in
        enum_row (schema_of f.edition s) i (brought (schema_of f.edition s)) m.held declared w d (says m.held _ (ap (λ (x : Edition). read (enum_at x) s body) (sym same) ∙ m.reads))
        ∙ ap (slot_row (schema_of f.edition s) (brought (schema_of f.edition s)) i) (sym m.slot_is)

    pub row_flags : (ed : Edition) (declared : Bool) → k ≡ 3 → (w : ℕ) → ((f : Flags) (n : ℕ) → read (flags_at ed) s body ≡ done f n → w ≡ cond declared (flags_bytes f) f.stored_bytes)
        → RowIs s starts ed i declared (record { kind = 5; a = w; b = 0 })
    unfolding slot_body_at
    row_flags ed declared q w says f same promise h d =
        let m = (held flags (flags_at f.edition) f promise h (rw q)).1 in
        flags_row (schema_of f.edition s) i (brought (schema_of f.edition s)) m.held declared w d (says m.held _ (ap (λ (x : Edition). read (flags_at x) s body) (sym same) ∙ m.reads))
        ∙ ap (slot_row (schema_of f.edition s) (brought (schema_of f.edition s)) i) (sym m.slot_is)

    pub row_blank : (ed : Edition) (declared : Bool) → ¬ (k ≡ 1) → ¬ (k ≡ 2) → ¬ (k ≡ 3) → ¬ (k ≡ 4) → (r : Row) → numbers r ≡ row 0 0 0 → RowIs s starts ed i declared r
    row_blank ed declared a b c d r e f same promise h m =
        let q = (part_behind s starts f promise i h k body part).kind_is in
        e ∙ blank_row (schema_of f.edition s) i (brought (schema_of f.edition s)) (slot_of (schema_of f.edition s) i) (λ x. a (sym q ∙ x)) (λ x. b (sym q ∙ x)) (λ x. c (sym q ∙ x)) (λ x. d (sym q ∙ x))
