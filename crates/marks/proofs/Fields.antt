-- Marks of a type and of a field, by its encoding, its limit and the kind of its type. Assumes nothing.
use Prim.Native.Nat.{ℕ, zero, suc, ◌+◌, ◌<◌}
use mathlib.Core.Path.{◌≡◌, refl, sym, ap, ◌∙◌}
use mathlib.Core.List.{List, []}
use mathlib.Core.Bool.{Bool, true, false, cond, false≢true}
use mathlib.Core.Option.{none, some, none-ne-some}
use native.Mathlib.Omega.{arith}
use lib.ListN.{get_or}
use Rattle.number.specs.Grammar.{done, refused, below, read}
use Rattle.number.specs.Answers.{next, follow}
use Rattle.number.specs.declared.Next.{Next}
use Rattle.number.proofs.Reading.{then_done, given}
use Rattle.tree.specs.Tree.{Tree, leaf, wrap, fixed_array, pair, generic, map_of, result_of}
use Rattle.tree.specs.Short.{short_leaf}
use Rattle.tree.specs.Encoding.{Encoding, default, varint, zig_zag, delta}
use Rattle.tree.specs.declared.Sort.TheVariants.{Resolved}
use Rattle.tree.specs.declared.Head.{Head}
use Rattle.tree.proofs.Shapes.{head_refused}
use Rattle.slot.specs.Field.{type_at, limit_at, Field, field_at}
use Rattle.slot.specs.Short.{short_at, short_encoding, short_field}
use Rattle.slot.specs.declared.Short.{Short}
use Rattle.slot.specs.declared.Edition.{Edition}
use Rattle.slot.specs.declared.Edition.TheVariants.{One, Two}
use Rattle.slot.proofs.FourBytes.{short_bytes, short_reads}
use Rattle.graph.specs.Table.{Marked}
use Rattle.loops.specs.Leads.{tree_slots}
use Rattle.loops.specs.Marks.{Led, TreeMarked}
use Rattle.loops.proofs.Marking.{led_none, led_one, led_as, led_more}
use Rattle.view.specs.Take.{place_of}
use Rattle.view.proofs.Places.{at_place}
use Rattle.sizes.specs.Elements.{Count, at_most_one, any_number, exactly, count_of, Element, wrap_element, element_of, is_plain, with_limit, limited_element}
use Rattle.sizes.specs.Lengths.{leaf_parts, wrap_parts, type_parts, encoded_parts, element_parts, own_parts, field_parts}
use Rattle.sizes.proofs.Limits.{by_type, by_limit, by_encoding, by_all}
use Rattle.settling.specs.Steps.{Codes, LimitBehind, Holds, plain_at}
use Rattle.settling.specs.declared.Coded.{Coded}
use Rattle.settling.proofs.Elements.{no_element_lem, first_of, run_of, PlainParts, plain_parts, plain_reads}
use Rattle.settling.proofs.Heads.{type_parts_lem}
use Rattle.settling.proofs.Typing.{plain_is, varint_is, zigzag_is}
use Rattle.wiresize.proofs.Ends.{type_slots}
use Rattle.marks.specs.Marks.{Marks, FieldTo}

-- ## A type

pub type_marked : (names : ℕ) (finds s : List ℕ) (at row : ℕ) (m m' : List ℕ) (r : ℕ) → TreeMarked Resolved names 32 finds row s at m m' r
    → Marks (type_at names) type_parts s at row m m' r
unfolding tree_slots
type_marked names finds s at row m m' r w =
    record { marked = λ t end e. let q = w t end e in (led_as row (sym (type_slots t)) q.0, q.1) }

-- ## Limits

module _ (ed : Edition) (s : List ℕ) where
  -- past the limit behind a position
  pub limit_end : (n : ℕ) {c : Next} {r : ℕ} → r ≡ place_of c → c ≡ follow (Next.At n) (λ k. next (read (limit_at ed) s k)) → (l end : ℕ)
      → read (limit_at ed) s n ≡ done l end → r ≡ end
  unfolding follow
  limit_end n e f l end q = e ∙ ap place_of f ∙ ap (λ o. place_of (next o)) q

  pub passed : (names at : ℕ) {b c : Next} {r : ℕ} → b ≡ next (read (type_at names) s at) → c ≡ follow b (λ k. next (read (limit_at ed) s k)) → r ≡ place_of c
      → FieldTo ed names s at r
  passed names at {b = b} f g e t behind l end p q =
      limit_end behind e (g ∙ ap (λ (x : Next). follow x (λ k. next (read (limit_at ed) s k))) (f ∙ ap next p)) l end q

-- ## The parts of a field

plain_encoded : (e : Encoding) → is_plain e ≡ true → (t : Tree) → encoded_parts e t ≡ type_parts t
unfolding encoded_parts
plain_encoded default q t = refl
plain_encoded varint q t = absurd (false≢true q)
plain_encoded zig_zag q t = absurd (false≢true q)
plain_encoded (delta e) q t = plain_encoded e q t

coded_none : (e : Encoding) → is_plain e ≡ false → (t : Tree) → encoded_parts e t ≡ []
unfolding encoded_parts
coded_none default q t = absurd (false≢true (sym q))
coded_none varint q t = refl
coded_none zig_zag q t = refl
coded_none (delta e) q t = coded_none e q t

-- a type that holds any number of elements has no parts of its own
wrap_none : (c : Count) (u : Tree) (child : List ℕ) (e : Element) → wrap_element c u ≡ some e → wrap_parts c child ≡ []
wrap_none at_most_one u child e q = absurd (none-ne-some e q)
wrap_none any_number u child e q = refl
wrap_none (exactly k) u child e q = absurd (none-ne-some e q)

run_none : (t : Tree) (e : Element) → element_of t ≡ some e → type_parts t ≡ []
unfolding type_parts
run_none (leaf l) e q = absurd (none-ne-some e q)
run_none (wrap w u) e q = wrap_none (count_of w) u (type_parts u) e q
run_none (fixed_array u k) e q = absurd (none-ne-some e q)
run_none (pair map_of u v) e q = refl
run_none (pair result_of u v) e q = absurd (none-ne-some e q)
run_none (generic n u) e q = absurd (none-ne-some e q)

module _ (x : Field) where
  unlimited : limited_element x ≡ none → field_parts x ≡ encoded_parts x.encoding x.type
  unfolding own_parts
  unlimited e = rw e

  limited : (e : Element) → limited_element x ≡ some e → field_parts x ≡ element_parts e
  unfolding own_parts
  limited e q = rw q

  plain_whole : is_plain x.encoding ≡ true → limited_element x ≡ none → field_parts x ≡ type_parts x.type
  plain_whole p e = unlimited e ∙ plain_encoded x.encoding p x.type

  coded : is_plain x.encoding ≡ false → field_parts x ≡ []
  coded p = unlimited (by_encoding x p) ∙ coded_none x.encoding p x.type

  -- what is plain is as in Default
  as_default : is_plain x.encoding ≡ true → field_parts (record { field_name = 0; encoding = default; type = x.type; limit = x.limit }) ≡ field_parts x
  unfolding limited_element encoded_parts
  as_default p =
      ap (λ (l : List ℕ). own_parts (with_limit x.limit (element_of x.type)) l) (sym (plain_encoded x.encoding p x.type))
      ∙ ap (λ (b : Bool). own_parts (cond b (with_limit x.limit (element_of x.type)) none) (encoded_parts x.encoding x.type)) (sym p)

-- ## A plain field, from its type on

module _ (names : ℕ) (s : List ℕ) (at row : ℕ) (m : List ℕ) where
  pub whole_marked : (ed : Edition) (m' : List ℕ) (behind r : ℕ) → Marks (type_at names) type_parts s at row m m' behind
      → ((l end : ℕ) → read (limit_at ed) s behind ≡ done l end → r ≡ end) → Marks (plain_at ed names) (λ x. type_parts x.type) s at row m m' r
  whole_marked ed m' behind r i f =
      record {
        marked = λ x end e.
            let k = plain_parts ed names s at x end e in
            let v = i.marked x.type k.behind k.typed in
            (v.0, f x.limit end (at_place (limit_at ed) s k.limit v.1));
      }

  by_whole : (ed : Edition) (m' : List ℕ) (r : ℕ) → Marks (plain_at ed names) (λ x. type_parts x.type) s at row m m' r
      → ((x : Field) (end : ℕ) → PlainParts ed names s at x end → limited_element x ≡ none) → Marks (plain_at ed names) field_parts s at row m m' r
  by_whole ed m' r i f =
      record {
        marked = λ x end e.
            let k = plain_parts ed names s at x end e in
            let v = i.marked x end e in
            (led_as row (sym (plain_whole x (ap is_plain k.plain) (f x end k))) v.0, v.1);
      }

  -- edition one
  pub one_marked : (m' : List ℕ) (r : ℕ) → Marks (plain_at One names) (λ x. type_parts x.type) s at row m m' r → Marks (plain_at One names) field_parts s at row m m' r
  unfolding limit_at read
  one_marked m' r i = by_whole One m' r i (λ x end k. by_limit x (sym (given k.limit).0))

  -- no head is read
  pub none_marked : {q p : ℕ} → below 17 s at ≡ refused q p → (m' : List ℕ) (r : ℕ) → Marks (plain_at Two names) field_parts s at row m m' r
  none_marked {q} {p} h m' r =
      record {
        marked = λ x end e.
            let k = plain_parts Two names s at x end e in
            absurd (type_parts_lem names s at (Head.Refused q p) (head_refused Resolved names s at 32 q p h) x.type k.behind k.typed);
      }

  module _ (kind body : ℕ) (q : below 17 s at ≡ done kind body) where
    -- a kind that holds no elements
    pub other_marked : (kind ≡ 5 → ⊥) → (kind ≡ 7 → ⊥) → (kind ≡ 8 → ⊥) → (m' : List ℕ) (r : ℕ)
        → Marks (plain_at Two names) (λ x. type_parts x.type) s at row m m' r → Marks (plain_at Two names) field_parts s at row m m' r
    other_marked a b c m' r i =
        by_whole Two m' r i (λ x end k. by_type x (no_element_lem names s at kind body q x.type k.behind k.typed a b c))

    module _ (holds : Holds kind) (most r : ℕ) (behind : LimitBehind names s at most r) where
      -- limit 0
      pub open_marked : most ≡ 0 → Marks (plain_at Two names) field_parts s at row m m r
      open_marked z =
          record {
            marked = λ x end e.
                let k = plain_parts Two names s at x end e in
                let d = behind x.type k.behind x.limit end k.typed k.limit in
                let u = run_of names s at kind body q x.type k.behind k.typed holds in (
                  led_none row (sym (plain_whole x (ap is_plain k.plain) (by_limit x (sym d.0 ∙ z)) ∙ run_none x.type u.element u.holds)),
                  d.1,
                );
          }

      module _ (n : most ≡ 0 → ⊥) (m₁ : List ℕ) (second : ℕ) (i : Marks (type_at names) type_parts s body row m m₁ second) where
        -- an array or a set
        pub items_marked : (kind ≡ 8 → ⊥) → Marks (plain_at Two names) field_parts s at row m m₁ r
        unfolding element_parts
        items_marked a =
            record {
              marked = λ x end e.
                  let k = plain_parts Two names s at x end e in
                  let d = behind x.type k.behind x.limit end k.typed k.limit in
                  let u = run_of names s at kind body q x.type k.behind k.typed holds in
                  let w = first_of names s kind body u.element k.behind u.reads in
                  let v = i.marked w.type w.middle w.here in
                  let b = by_all x u.element (ap is_plain k.plain) (λ z. n (d.0 ∙ z)) u.holds in
                  (led_as row (sym (limited x u.element b ∙ ap element_parts (w.alone a))) v.0, d.1);
            }

        -- a map
        pub entries_marked : kind ≡ 8 → (m₂ : List ℕ) (last : ℕ) → Marks (type_at names) type_parts s second row m₁ m₂ last → Marks (plain_at Two names) field_parts s at row m m₂ r
        unfolding element_parts
        entries_marked a m₂ last j =
            record {
              marked = λ x end e.
                  let k = plain_parts Two names s at x end e in
                  let d = behind x.type k.behind x.limit end k.typed k.limit in
                  let u = run_of names s at kind body q x.type k.behind k.typed holds in
                  let w = first_of names s kind body u.element k.behind u.reads in
                  let v = i.marked w.type w.middle w.here in
                  let p = w.paired a in
                  let o = j.marked p.0 k.behind (at_place (type_at names) s p.1 v.1) in
                  let b = by_all x u.element (ap is_plain k.plain) (λ z. n (d.0 ∙ z)) u.holds in (
                    led_as row (sym (limited x u.element b ∙ ap element_parts p.2)) (led_more row (type_parts w.type) (type_parts p.0) v.0 o.0),
                    d.1,
                  );
            }

-- ## A field, by the encoding that governs it

module _ (ed : Edition) (names : ℕ) (s : List ℕ) (at row : ℕ) (m : List ℕ) (c : Coded) (w : Codes names s at c) (p : ℕ) where
  pub plain_marked : c ≡ Coded.Plain p → (m' : List ℕ) (r : ℕ) → Marks (plain_at ed names) field_parts s p row m m' r → Marks (field_at ed names) field_parts s at row m m' r
  plain_marked q m' r i =
      record {
        marked = λ x end e.
            let k = w ed x end e in
            let g = plain_is _ (sym q ∙ k.1.coded) in
            let v = i.marked _ end (plain_reads ed names s p x k.0 end (at_place _ _ k.1.reads g.place) k.2) in
            (led_as row (as_default x g.kept) v.0, v.1);
      }

  pub varint_marked : c ≡ Coded.Varint p → (r : ℕ) → FieldTo ed names s p r → Marks (field_at ed names) field_parts s at row m m r
  varint_marked q r f =
      record {
        marked = λ x end e.
            let k = w ed x end e in
            let g = varint_is _ (sym q ∙ k.1.coded) in
            (led_none row (sym (coded x g.kept)), f x.type k.0 x.limit end (at_place _ _ k.1.reads g.place) k.2);
      }

  pub zigzag_marked : c ≡ Coded.ZigZag p → (r : ℕ) → FieldTo ed names s p r → Marks (field_at ed names) field_parts s at row m m r
  zigzag_marked q r f =
      record {
        marked = λ x end e.
            let k = w ed x end e in
            let g = zigzag_is _ (sym q ∙ k.1.coded) in
            (led_none row (sym (coded x g.kept)), f x.type k.0 x.limit end (at_place _ _ k.1.reads g.place) k.2);
      }

-- ## A field of four bytes

other_leaf : (k v : ℕ) → (k ≡ 3 → ⊥) → leaf_parts (short_leaf k v) ≡ []
other_leaf zero v h = refl
other_leaf (suc zero) v h = refl
other_leaf (suc (suc zero)) v h = refl
other_leaf (suc (suc (suc zero))) v h = absurd (h refl)
other_leaf (suc (suc (suc (suc k)))) v h = refl

abbrev pub short_parts : (encoding kind number : ℕ) → List ℕ
short_parts e k v = encoded_parts (short_encoding e) (leaf (short_leaf k v))

module _ {m : List ℕ} (row e k v : ℕ) where
  pub short_name : e ≡ 0 → k ≡ 3 → (m' : List ℕ) → Marked m row v m' → Led m row (short_parts e k v) m'
  unfolding encoded_parts type_parts
  short_name i j m' g = led_one row g (rw (i, j))

  pub short_leaf_lem : e ≡ 0 → (k ≡ 3 → ⊥) → Led m row (short_parts e k v) m
  unfolding encoded_parts type_parts
  short_leaf_lem i h = led_none row (rw i (sym (other_leaf k v h)))

  pub short_coded : (e ≡ 0 → ⊥) → (names at : ℕ) (s : List ℕ) → short_at names s at ≡ Short.Is e k v → Led m row (short_parts e k v) m
  unfolding encoded_parts
  short_coded h names at s q = led_none row (go e h (short_bytes names s at e k v q).coded)
    where
      go : (j : ℕ) → (j ≡ 0 → ⊥) → j < 3 → [] ≡ encoded_parts (short_encoding j) (leaf (short_leaf k v))
      go zero a b = absurd (a refl)
      go (suc zero) a b = refl
      go (suc (suc zero)) a b = refl
      go (suc (suc (suc j))) a b = absurd (omega arith)

  pub short_marked : (ed : Edition) (names at : ℕ) (s : List ℕ) → short_at names s at ≡ Short.Is e k v → (m' : List ℕ) → Led m row (short_parts e k v) m' → (r : ℕ)
      → ((l end : ℕ) → read (limit_at ed) s (at + 4) ≡ done l end → r ≡ end) → Marks (field_at ed names) field_parts s at row m m' r
  short_marked ed names at s h m' g r f =
      record {
        marked = λ x end q.
            let a = then_done (read (limit_at ed) s (at + 4)) _ (sym (short_reads names s at e k v h ed) ∙ q) in
            let d = given a.3 in
            let own = short_field (get_or s at 0) e k v a.0 in
            (led_as row (sym (unlimited own (by_type own refl)) ∙ ap field_parts d.0) g, f a.0 a.1 a.2 ∙ d.1);
      }
