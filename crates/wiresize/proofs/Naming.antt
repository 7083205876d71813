-- A name by the code's steps: marks, rows, and what the slot holds. Assumes nothing.
use Prim.Native.Nat.{ℕ, ◌+◌, ◌*◌, ◌≤◌, ◌<◌}
use mathlib.Core.Path.{◌≡◌, refl, sym, ap, ap₂, fun_ext, ◌∙◌}
use mathlib.Core.List.{List}
use mathlib.Core.Bool.{Bool, true, false, cond}
use mathlib.Core.Option.{Option, none, some}
use native.Mathlib.Omega.{arith}
use native.Mathlib.Nat.{mul_comm}
use lib.Dec.{leb}
use lib.ListN.{length, get_or, set, length-set, get_or-eq_default}
use borrow.Author.Tests.{le-ltb}
use Rattle.number.specs.Grammar.{value, number, done, read}
use Rattle.number.proofs.Reading.{read_done, read_number, given}
use Rattle.number.proofs.InRange.{below_is}
use Rattle.slot.specs.Slot.{Slot, empty, message, enum, flags, union, newtype, config, alias, trait, impl, Flags, Message, Union, Newtype, slot_kind, flags_at, message_at, union_at, newtype_at, slot_body_at}
use Rattle.slot.proofs.Whole.{slot_parts, made_of}
use Rattle.graph.specs.Ways.{has}
use Rattle.image.specs.Schema.{Schema, slot_of}
use Rattle.image.specs.declared.Frame.{Frame}
use Rattle.reader.specs.Reading.{schema_of}
use Rattle.reader.specs.Promise.{Promise}
use Rattle.view.specs.Part.{part_at}
use Rattle.view.specs.declared.Part.{Part}
use Rattle.view.proofs.Fetching.{body_at}
use Rattle.reader.proofs.Fetching.{part_behind}
use Rattle.sizes.specs.declared.Layout.{Layout}
use Rattle.sizes.specs.declared.Size.{Size}
use Rattle.sizes.specs.declared.Size.TheVariants.{Fixed, Bounded, Open}
use Rattle.sizes.specs.declared.Worked.{Worked}
use Rattle.sizes.specs.declared.Worked.TheVariants.{Sized}
use Rattle.sizes.specs.Sizes.{limit, limited, limited_product, Resolver, type_size, fields_size, union_size}
use Rattle.sizes.specs.Widths.{top_of, bytes_to, flags_bytes, flags_bytes_at}
use Rattle.sizes.specs.Names.{terminal, anything, content_in, content_of, State, Working, inserted, or_else, content_size, name_rule, name_size}
use Rattle.sizes.specs.Check.{size_row, slot_row}
use Rattle.sizes.proofs.Fuel.{name_obeys, inserted_is}
use Rattle.wiresize.specs.Rows.{row_by, row_at, RowsHold}
use Rattle.wiresize.specs.Asked.{marked, Ready, resolver, Meant, Names}
use Rattle.wiresize.specs.declared.Row.{Row}
use Rattle.wiresize.proofs.Ends.{newtypes_end}

-- ## Widths of flags are small

bytes_few : (n : ℕ) → bytes_to n ≤ 8
unfolding bytes_to
bytes_few n = go (leb n 7) (leb n 15) (leb n 31)
  where
    go : (a b c : Bool) → cond a 1 (cond b 2 (cond c 4 8)) ≤ 8
    go true b c = omega arith
    go false true c = omega arith
    go false false true = omega arith
    go false false false = omega arith

flags_few : (S : Schema) (i : ℕ) (g : Flags) → g.stored_bytes ≤ 255 → flags_bytes_at S i g ≤ 255
unfolding flags_bytes_at flags_bytes
flags_few S i g h = go (has i S.declared)
  where
    go : (b : Bool) → cond b (bytes_to (top_of g.bits)) g.stored_bytes ≤ 255
    go true = omega (arith, bytes_few (top_of g.bits))
    go false = h

eight_times : (n : ℕ) → n ≤ 255 → limited_product (Fixed (n * 8)) ≡ Sized (Fixed (8 * n))
unfolding limited
eight_times n h = let t = le-ltb limit (n * 8) (omega arith) in rw t (ap (λ (k : ℕ). Sized (Fixed k)) (mul_comm n 8))

-- ## Slots that were read

module _ (s starts : List ℕ) (f : Frame) (p : Promise s starts f) (i : ℕ) (h : i < f.slots) where
  pub stored_few : (g : Flags) → slot_of (schema_of f.edition s) i ≡ flags g → g.stored_bytes ≤ 255
  unfolding slot_body_at flags_at read
  stored_few g e =
      let r = p.slots i h in
      let q = slot_parts s f.edition f.names (get_or starts i 0) (flags g) r.0 (r.1 ∙ ap (λ (x : Slot). done x r.0) e) in
      let m = made_of s flags (flags_at f.edition) q.body (flags g) r.0 q.body_read in
      let a = read_done (number value 256) _ s q.body m.held r.0 m.reads in
      let b = below_is s q.body 256 a.first a.middle (sym (read_number value 256 s q.body) ∙ a.here) in
      let c = read_done _ _ s a.middle m.held r.0 a.rest in
      let d = (given c.rest).0 in
      let j : g ≡ m.held = let z = m.slot_is in cc in
      let k : g.stored_bytes ≡ a.first = ap (λ (x : Flags). x.stored_bytes) (j ∙ sym d) in
      omega (arith, b.under)

  module _ (kind body : ℕ) (e : part_at s starts i ≡ Part.At kind body) where
    pub is_message_lem : kind ≡ 1 → (m : Message) × (end : ℕ) × (slot_of (schema_of f.edition s) i ≡ message m) × (read (message_at f.edition f.names) s body ≡ done m end)
    unfolding slot_body_at
    is_message_lem z =
        let b = part_behind s starts f p i h kind body e in
        let m = made_of s message (message_at f.edition f.names) body _ b.end (body_at b _ z) in
        (m.held, b.end, m.slot_is, m.reads)

    pub is_union : kind ≡ 4 → (u : Union) × (end : ℕ) × (slot_of (schema_of f.edition s) i ≡ union u) × (read (union_at f.edition f.names) s body ≡ done u end)
    unfolding slot_body_at
    is_union z =
        let b = part_behind s starts f p i h kind body e in
        let m = made_of s union (union_at f.edition f.names) body _ b.end (body_at b _ z) in
        (m.held, b.end, m.slot_is, m.reads)

    pub is_newtype : kind ≡ 5 → (n : Newtype) × (end : ℕ) × (slot_of (schema_of f.edition s) i ≡ newtype n) × (read (newtype_at f.names) s body ≡ done n end)
    unfolding slot_body_at
    is_newtype z =
        let b = part_behind s starts f p i h kind body e in
        let m = made_of s newtype (newtype_at f.names) body _ b.end (body_at b _ z) in
        (m.held, b.end, m.slot_is, m.reads)

    pub kind_is_lem : slot_kind (slot_of (schema_of f.edition s) i) ≡ kind
    kind_is_lem = (part_behind s starts f p i h kind body e).kind_is

-- ## Rows

abbrev pub row_in : List ℕ → Row
row_in l = row_by (get_or l 0 0) (get_or l 1 0) (get_or l 2 0)

known_inj : {x y : Worked} → Row.Known x ≡ Row.Known y → x ≡ y
known_inj e = cc

none_known : {A : Type 0} {x : Worked} → Row.None ≡ Row.Known x → A
none_known e = let z : ◌≡◌ {A = ℕ} 0 1 = cc in absurd (omega arith)

stored_known : (o : Option Size) (y v : Worked) → row_in (size_row o) ≡ Row.Known y → or_else o v ≡ y
unfolding row_by
stored_known none y v q = none_known q
stored_known (some (Fixed b)) y v q = known_inj q
stored_known (some (Bounded l h)) y v q = known_inj q
stored_known (some (Open l)) y v q = known_inj q

not_stored : (o : Option Size) → row_in (size_row o) ≡ Row.None → o ≡ none
unfolding row_by
not_stored none q = refl
not_stored (some (Fixed b)) q = none_known (sym q)
not_stored (some (Bounded l h)) q = none_known (sym q)
not_stored (some (Open l)) q = none_known (sym q)

pub row_of : (S : Schema) (st : State) (rows : List ℕ) → RowsHold S st rows → (i : ℕ) → i < length S.slots
    → row_at rows i ≡ row_in (slot_row S st i (slot_of S i))
row_of S st rows H i h =
    let z : 3 * i + 0 ≡ 3 * i = omega arith in
    let p = ap (λ (n : ℕ). get_or rows n 0) (sym z) ∙ H.place i 0 h (omega arith) in
    let q = H.place i 1 h (omega arith) in
    let r = H.place i 2 h (omega arith) in
    rw (p, q, r)

-- what a known row says is the slot's size, whatever its parts come to
pub row_known : (L : Layout) (S : Schema) (st : State) (i : ℕ) (beside inside : Resolver) (y : Worked) (x : Slot) → ((g : Flags) → x ≡ flags g → g.stored_bytes ≤ 255)
    → row_in (slot_row S st i x) ≡ Row.Known y → content_size L (st i) beside inside (content_in S i x) ≡ y
unfolding row_by slot_row content_size content_in
row_known L S st i b n y empty few q = none_known q
row_known L S st i b n y (message m) few q = stored_known (st i) y _ q
row_known L S st i b n y (enum e) few q = known_inj q
row_known L S st i b n y (flags g) few q = sym (eight_times _ (flags_few S i g (few g refl))) ∙ known_inj q
row_known L S st i b n y (union u) few q = stored_known (st i) y _ q
row_known L S st i b n y (newtype t) few q = none_known q
row_known L S st i b n y config few q = none_known q
row_known L S st i b n y (alias a) few q = none_known q
row_known L S st i b n y (trait t) few q = none_known q
row_known L S st i b n y (impl m) few q = none_known q

-- a slot without a row that is no message, union or newtype
pub row_other : (L : Layout) (S : Schema) (st : State) (i : ℕ) (beside inside : Resolver) (x : Slot) → (slot_kind x ≡ 1 → ⊥) → (slot_kind x ≡ 4 → ⊥) → (slot_kind x ≡ 5 → ⊥)
    → row_in (slot_row S st i x) ≡ Row.None → content_size L (st i) beside inside (content_in S i x) ≡ Sized (Open 0)
unfolding row_by slot_row content_size content_in
row_other L S st i b n empty u v t q = refl
row_other L S st i b n (message m) u v t q = absurd (u refl)
row_other L S st i b n (enum e) u v t q = none_known (sym q)
row_other L S st i b n (flags g) u v t q = none_known (sym q)
row_other L S st i b n (union w) u v t q = absurd (v refl)
row_other L S st i b n (newtype w) u v t q = absurd (t refl)
row_other L S st i b n config u v t q = refl
row_other L S st i b n (alias a) u v t q = refl
row_other L S st i b n (trait r) u v t q = refl
row_other L S st i b n (impl m) u v t q = refl

-- ## A name

pub meant : {L : Layout} {S : Schema} {rows : List ℕ} {w : List Bool} (st : State) → RowsHold S st rows → Meant L S rows w (resolver L S st w)
meant st H = record { state = st; holds = H; is = refl }

pub name_meant : {L : Layout} {S : Schema} {rows : List ℕ} {w : List Bool} {i : ℕ} {r : Worked} → Names L S rows w i r → (R : Resolver) → Meant L S rows w R → r ≡ R i
name_meant {i = i} n R m = n.worked m.state m.holds ∙ sym (ap (λ (Q : Resolver). Q i) m.is)

module _ (L : Layout) (s starts : List ℕ) (f : Frame) (rows : List ℕ) (w : List Bool) (ready : Ready s starts f rows w) (st : State) (H : RowsHold (schema_of f.edition s) st rows) (i : ℕ) where
  obeys : resolver L (schema_of f.edition s) st w i ≡ name_rule L (schema_of f.edition s) st (name_size L (schema_of f.edition s) st) (marked w) i
  obeys = name_obeys L (schema_of f.edition s) st (newtypes_end s starts f ready.promise) (marked w) i

  pub name_missing : f.slots ≤ i → Sized (Open 0) ≡ resolver L (schema_of f.edition s) st w i
  unfolding name_rule content_of content_in content_size slot_of
  name_missing h =
      let c = ready.promise.count in
      let e : content_of (schema_of f.edition s) i ≡ anything = ap (content_in (schema_of f.edition s) i) (get_or-eq_default (schema_of f.edition s).slots empty (omega arith)) in
      sym (obeys ∙ rw e (go (marked w i)))
    where
      go : (b : Bool) → cond b (Sized (Open 0)) (Sized (Open 0)) ≡ Sized (Open 0)
      go true = refl
      go false = refl

  pub name_marked : get_or w i false ≡ true → Sized (Open 0) ≡ resolver L (schema_of f.edition s) st w i
  unfolding name_rule
  name_marked e = sym (obeys ∙ rw e)

  module _ (h : i < f.slots) (free : get_or w i false ≡ false) where
    inside : inserted i (marked w) ≡ marked (set w i true)
    inside = let c = ready.marks in let d = ready.promise.few in fun_ext (λ j. sym (inserted_is w i j (omega arith)))

    opened : (x : Slot) → slot_of (schema_of f.edition s) i ≡ x → resolver L (schema_of f.edition s) st w i ≡ content_size L (st i) (resolver L (schema_of f.edition s) st w) (resolver L (schema_of f.edition s) st (set w i true)) (content_in (schema_of f.edition s) i x)
    unfolding name_rule content_of
    opened x e = obeys ∙ rw free (ap₂ (λ (u : Working) (y : Slot). content_size L (st i) (resolver L (schema_of f.edition s) st w) (name_size L (schema_of f.edition s) st u) (content_in (schema_of f.edition s) i y)) inside e)

    row_is : (x : Slot) → slot_of (schema_of f.edition s) i ≡ x → row_at rows i ≡ row_in (slot_row (schema_of f.edition s) st i x)
    row_is x e = let c = ready.promise.count in row_of (schema_of f.edition s) st rows H i (omega arith) ∙ ap (λ (y : Slot). row_in (slot_row (schema_of f.edition s) st i y)) e

    pub name_known : {y : Worked} → row_at rows i ≡ Row.Known y → y ≡ resolver L (schema_of f.edition s) st w i
    name_known q = sym (opened _ refl ∙ row_known L (schema_of f.edition s) st i _ _ _ _ (stored_few s starts f ready.promise i h) (sym (row_is _ refl) ∙ q))

    module _ (unknown : row_at rows i ≡ Row.None) {r : Worked} where
      pub name_message : (m : Message) → slot_of (schema_of f.edition s) i ≡ message m → r ≡ fields_size L (resolver L (schema_of f.edition s) st (set w i true)) m.fields → r ≡ resolver L (schema_of f.edition s) st w i
      unfolding content_in content_size slot_row
      name_message m e q =
          let z = not_stored (st i) (sym (row_is _ e) ∙ unknown) in
          q ∙ sym (opened _ e ∙ ap (λ (o : Option Size). or_else o (fields_size L (resolver L (schema_of f.edition s) st (set w i true)) m.fields)) z)

      pub name_union : (u : Union) → slot_of (schema_of f.edition s) i ≡ union u → r ≡ union_size L (resolver L (schema_of f.edition s) st (set w i true)) u.variants → r ≡ resolver L (schema_of f.edition s) st w i
      unfolding content_in content_size slot_row
      name_union u e q =
          let z = not_stored (st i) (sym (row_is _ e) ∙ unknown) in
          q ∙ sym (opened _ e ∙ ap (λ (o : Option Size). or_else o (union_size L (resolver L (schema_of f.edition s) st (set w i true)) u.variants)) z)

      pub name_newtype : (n : Newtype) → slot_of (schema_of f.edition s) i ≡ newtype n → r ≡ type_size (resolver L (schema_of f.edition s) st w) n.terminal → r ≡ resolver L (schema_of f.edition s) st w i
      unfolding content_in content_size
      name_newtype n e q = q ∙ sym (opened _ e)

    pub name_other : row_at rows i ≡ Row.None → (k : ℕ) → slot_kind (slot_of (schema_of f.edition s) i) ≡ k → (k ≡ 1 → ⊥) → (k ≡ 4 → ⊥) → (k ≡ 5 → ⊥)
        → Sized (Open 0) ≡ resolver L (schema_of f.edition s) st w i
    name_other unknown k e u v t =
        sym (opened _ refl ∙ row_other L (schema_of f.edition s) st i _ _ _ (λ z. u (sym e ∙ z)) (λ z. v (sym e ∙ z)) (λ z. t (sym e ∙ z)) (sym (row_is _ refl) ∙ unknown))

pub newtype_content : (S : Schema) (i : ℕ) (n : Newtype) → slot_of S i ≡ newtype n → content_of S i ≡ terminal n.terminal
unfolding content_of content_in
newtype_content S i n e = ap (content_in S i) e

-- one more mark
pub inside_ready : (s starts : List ℕ) (f : Frame) (rows : List ℕ) (w : List Bool) (i : ℕ) → Ready s starts f rows w → Ready s starts f rows (set w i true)
inside_ready s starts f rows w i r = record { promise = r.promise; row_room = r.row_room; marks = length-set w i true ∙ r.marks }
