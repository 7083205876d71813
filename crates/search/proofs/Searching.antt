-- The search over fields that were read: what is left of them, and what is known of the first. Assumes nothing.
use Prim.Native.Nat.{ℕ, suc, ◌+◌, ◌-◌, ◌<◌, ◌≤◌}
use mathlib.Core.Path.{◌≡◌, refl, sym, ap, ◌∙◌}
use mathlib.Core.List.{List, ◌∷◌}
use mathlib.Core.Bool.{Bool, true, false, cond}
use native.Mathlib.Omega.{arith}
use borrow.Author.Tests.{eq-eqb, ne_eqb}
use Rattle.number.specs.Grammar.{many, done, refused, below, read}
use Rattle.number.specs.Answers.{next, follow}
use Rattle.number.specs.declared.Next.{Next}
use Rattle.number.proofs.Reading.{given, not_done, front, follow_on}
use Rattle.tree.specs.Tree.{Tree}
use Rattle.tree.specs.Encoding.{encoding_at}
use Rattle.tree.specs.declared.Sort.TheVariants.{Expression}
use Rattle.slot.specs.Field.{type_at, limit_at, Field, field_at}
use Rattle.slot.proofs.Whole.{FieldParts, field_parts_lem}
use Rattle.image.specs.Schema.{Schema}
use Rattle.image.specs.declared.Frame.{Frame}
use Rattle.reader.specs.Reading.{schema_of}
use Rattle.view.proofs.Places.{at_same, at_not, at_place}
use Rattle.findings.specs.Conformance.{is_field, has_field}
use Rattle.matching.specs.Comparing.{meant, LookedUp, Asked, Compares}
use Rattle.matching.specs.declared.Matched.{Matched}
use Rattle.matching.proofs.Equality.{says_true, says_false}
use Rattle.search.specs.Search.{Expressed, meaning_in, Heads, FieldAsked, IsField, SearchAsked, HasField}
use Rattle.search.specs.declared.FieldHead.{FieldHead}

module _ (f : Frame) (s : List ℕ) (at : ℕ) where
  abbrev Parts : (x : Field) (end : ℕ) → read (field_at f.edition f.names) s at ≡ done x end → FieldParts s f.edition f.names at x end
  Parts x end q = field_parts_lem s f.edition f.names at x end q

  pub head_cut : (r p : ℕ) → below f.names s at ≡ refused r p → (h : FieldHead) → Heads f s at h
  head_cut r p e h x end q = absurd (not_done e (Parts x end q).name_read)

  module _ (v n : ℕ) (e : below f.names s at ≡ done v n) where
    encoding_at_lem : (x : Field) (end : ℕ) (q : read (field_at f.edition f.names) s at ≡ done x end) → next (read (encoding_at 32) s n) ≡ Next.At (Parts x end q).typed
    encoding_at_lem x end q =
        let g = Parts x end q in
        ap (λ (m : ℕ). next (read (encoding_at 32) s m)) (given (sym e ∙ g.name_read)).1 ∙ ap next g.encoding_read

    pub head_is : (p : ℕ) → Next.At p ≡ next (read (encoding_at 32) s n) → Heads f s at (record { name = v; place = p })
    head_is p u x end q =
        let g = Parts x end q in
        ((given (sym g.name_read ∙ e)).0, g.behind, at_place (type_at f.names) s g.type_read (at_same (sym u) (encoding_at_lem x end q)), g.limit_read)

    pub encoding_cut : (r p : ℕ) → Next.Refused r p ≡ next (read (encoding_at 32) s n) → (h : FieldHead) → Heads f s at h
    encoding_cut r p u h x end q = absurd (at_not (sym u) (encoding_at_lem x end q))

-- one field
pub compare_asked : (s starts : List ℕ) (f : Frame) (finds places : List ℕ) (place expression : ℕ) → FieldAsked s starts f finds places place expression
    → Asked s starts f finds places place expression 32 Expression
unfolding LookedUp
compare_asked s starts f finds places place expression a =
    let x = a.expressed in
    record {
      ready = a.ready;
      few = omega arith;
      depth = 32;
      type = a.type;
      type_end = a.type_end;
      type_read = a.type_read;
      parameters = x.parameters;
      arguments = x.arguments;
      sound = x.sound;
      tree = x.tree;
      end = x.end;
      reads = x.reads;
      known = x.known;
    }

module _ (f : Frame) (s places : List ℕ) (h : FieldHead) (name expression : ℕ) where
  pub name_differs : (h.name ≡ name → ⊥) → IsField f s places h name expression false
  unfolding is_field
  name_differs e x end q rt y = sym (simp (ne_eqb x.field_name name (λ z. e (sym q ∙ z))))

  pub of_name : h.name ≡ name → (r : Bool) → IsField f s places h h.name expression r → r ≡ false → IsField f s places h name expression false
  of_name e r j w x end q rt y = sym w ∙ j x end q rt y ∙ ap (λ (n : ℕ). is_field x n (meaning_in (schema_of f.edition s) y)) e

  pub is_named : h.name ≡ name → (r : Bool) → IsField f s places h h.name expression r → IsField f s places h name expression r
  is_named e r j x end q rt y = j x end q rt y ∙ ap (λ (n : ℕ). is_field x n (meaning_in (schema_of f.edition s) y)) e

  module _ (e : h.name ≡ name) (r : Matched) (c : Compares f.names (schema_of f.edition s) s places h.place expression 32 Expression r) where
    pub type_same : (m n : ℕ) → r ≡ Matched.Same m n → IsField f s places h name expression true
    unfolding is_field LookedUp meant
    type_same m n w x end q rt y =
        sym (simp (eq-eqb x.field_name name (q ∙ e)) (says_true (c 32 x.type end rt y.parameters y.arguments y.sound y.tree y.end y.reads y.known) w))

    pub type_differs : r ≡ Matched.Differs → IsField f s places h name expression false
    unfolding is_field LookedUp meant
    type_differs w x end q rt y =
        sym (simp (eq-eqb x.field_name name (q ∙ e)) (says_false (c 32 x.type end rt y.parameters y.arguments y.sound y.tree y.end y.reads y.known) w))

-- the fields that are left
has_front : {fs : List Field} {f : Field} {gs : List Field} (name : ℕ) (x : Tree) → fs ≡ f ∷ gs → has_field fs name x ≡ cond (is_field f name x) true (has_field gs name x)
unfolding has_field
has_front name x e = rw e

module _ (f : Frame) (s places : List ℕ) (fields count name expression : ℕ) where
  abbrev S : Schema
  S = schema_of f.edition s

  -- so many fields from a position on
  abbrev Reads : (left p : ℕ) (fs : List Field) (end : ℕ) → Type 0
  Reads left p fs end = read (many left (field_at f.edition f.names)) s p ≡ done fs end

  abbrev Answers : Bool → Type 0
  Answers r = (fs : List Field) (end : ℕ) → Reads count fields fs end → (y : Expressed f.names s places expression) → r ≡ has_field fs name (meaning_in S y)

  flat : (r : Bool) → Answers r → HasField f s places fields count name expression r
  flat r h fs end ps ts e n rf sound re known =
      h fs end rf (record { parameters = ps; arguments = ts; sound = sound; tree = e; end = n; reads = re; known = known })

  -- behind `i` fields, what is left of them was read, and has the trait field exactly if all have it
  abbrev pub Left : (i p : ℕ) → Type 0
  Left i p =
      (fs : List Field) (end : ℕ) → Reads count fields fs end → (y : Expressed f.names s places expression)
      → (gs : List Field) × Reads (count - i) p gs end × (has_field fs name (meaning_in S y) ≡ has_field gs name (meaning_in S y))

  pub at_start : Left 0 fields
  at_start fs end e y = let d : count - 0 ≡ count = omega arith in (fs, rw d e, refl)

  pub at_end : (i p : ℕ) → count ≤ i → Left i p → HasField f s places fields count name expression false
  unfolding many read has_field
  at_end i p z h =
      let d : count - i ≡ 0 = omega arith in
      flat false (λ fs end e y. let j = h fs end e y in sym (j.2 ∙ ap (λ (l : List Field). has_field l name (meaning_in S y)) (sym (given (rw d at j.1)).0)))

  module _ (i p : ℕ) (z : i < count) (h : Left i p) (field : FieldHead) (head : Heads f s p field) where
    record First (fs : List Field) (end : ℕ) (x : Tree) : Type 0 where
      first : Field
      others : List Field
      behind : ℕ
      middle : ℕ
      named : first.field_name ≡ field.name
      type_read : read (type_at f.names) s field.place ≡ done first.type behind
      limit_read : read (limit_at f.edition) s behind ≡ done first.limit middle
      rest : Reads (count - (i + 1)) middle others end
      has : has_field fs name x ≡ cond (is_field first name x) true (has_field others name x)

    first_of : (fs : List Field) (end : ℕ) → Reads count fields fs end → (y : Expressed f.names s places expression) → First fs end (meaning_in S y)
    first_of fs end e y =
        let d : count - i ≡ suc (count - (i + 1)) = omega arith in
        let j = h fs end e y in
        let x = front (field_at f.edition f.names) s (count - (i + 1)) p j.0 end (rw d at j.1) in
        let g = head x.first x.middle x.here in
        record {
          first = x.first;
          others = x.others;
          behind = g.1;
          middle = x.middle;
          named = g.0;
          type_read = g.2;
          limit_read = g.3;
          rest = x.rest;
          has = j.2 ∙ has_front name (meaning_in S y) x.whole;
        }

    -- the position after the type, and after the limit behind it
    module _ (t u : Next) (a : t ≡ next (read (type_at f.names) s field.place)) (b : u ≡ follow t (λ n. next (read (limit_at f.edition) s n))) where
      passed : (fs : List Field) (end : ℕ) (e : Reads count fields fs end) (y : Expressed f.names s places expression) → u ≡ Next.At (first_of fs end e y).middle
      passed fs end e y = let x = first_of fs end e y in b ∙ follow_on t _ x.behind (a ∙ ap next x.type_read) ∙ ap next x.limit_read

      pub field_cut : (x q : ℕ) (o : Bool) → u ≡ Next.Refused x q → HasField f s places fields count name expression o
      field_cut x q o w = flat o (λ fs end e y. absurd (at_not w (passed fs end e y)))

    module _ (r : Bool) (j : IsField f s places field name expression r) where
      here : (fs : List Field) (end : ℕ) (e : Reads count fields fs end) (y : Expressed f.names s places expression) (b : Bool) → r ≡ b
          → has_field fs name (meaning_in S y) ≡ cond b true (has_field (first_of fs end e y).others name (meaning_in S y))
      here fs end e y b w =
          let x = first_of fs end e y in
          x.has ∙ ap (λ (c : Bool). cond c true (has_field x.others name (meaning_in S y))) (sym (j x.first x.behind x.named x.type_read y) ∙ w)

      pub hit : r ≡ true → HasField f s places fields count name expression true
      hit w = flat true (λ fs end e y. sym (here fs end e y true w))

      pub onward : r ≡ false → (t u : Next) → t ≡ next (read (type_at f.names) s field.place) → u ≡ follow t (λ n. next (read (limit_at f.edition) s n))
          → (after : ℕ) → u ≡ Next.At after → Left (i + 1) after
      onward w t u a b after v fs end e y =
          let x = first_of fs end e y in
          (x.others, at_place (many (count - (i + 1)) (field_at f.edition f.names)) s x.rest (at_same v (passed t u a b fs end e y)), here fs end e y false w)

-- what the call for a field asks for
pub field_asked : (s starts : List ℕ) (f : Frame) (finds places : List ℕ) (fields count name expression : ℕ) → SearchAsked s starts f finds places fields count expression
    → (i p : ℕ) → i < count → Left f s places fields count name expression i p → (field : FieldHead) → Heads f s p field
    → FieldAsked s starts f finds places field.place expression
field_asked s starts f finds places fields count name expression a i p z h field head =
    let b = first_of f s places fields count name expression i p z h field head a.list a.list_end a.list_read a.expressed in
    record { ready = a.ready; type = b.first.type; type_end = b.behind; type_read = b.type_read; expressed = a.expressed }
