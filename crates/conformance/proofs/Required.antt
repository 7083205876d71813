-- The fields that a trait requires, one after the other. Assumes nothing.
use Prim.Native.Nat.{ℕ, suc, ◌+◌, ◌-◌, ◌≤◌, ◌<◌, ◌^◌}
use mathlib.Core.Path.{◌≡◌, refl, sym, ap, ap₂, ◌∙◌}
use mathlib.Core.List.{List, [], ◌∷◌, ◌++◌, append-nil, append_assoc}
use mathlib.Core.Bool.{Bool, true, false, cond, not}
use native.Mathlib.Omega.{arith}
use native.Mathlib.Numerals.{add-one}
use lib.ListN.{length, replicate, get_or}
use lib.Seq.{sets}
use Rattle.number.specs.Grammar.{name, slot, count, number, many, counted, done, read}
use Rattle.number.proofs.Reading.{read_done, given, front, many_length}
use Rattle.table.proofs.Fitting.{zeros_at, written_at}
use Rattle.tree.specs.Tree.{Tree}
use Rattle.slot.specs.Field.{Span, field_at, expression_at}
use Rattle.slot.specs.Slot.{Message, TraitField, trait_field_at, Impl}
use Rattle.image.specs.Schema.{Schema}
use Rattle.image.specs.Finds.{finds_at}
use Rattle.image.specs.declared.Frame.{Frame}
use Rattle.image.proofs.Finding.{finds_read_lem}
use Rattle.reader.specs.Reading.{schema_of}
use Rattle.reader.specs.Promise.{Promise}
use Rattle.view.proofs.Taking.{Takes, take_on}
use Rattle.findings.specs.Finding.{finding}
use Rattle.findings.specs.Adding.{Adds}
use Rattle.findings.specs.Meaning.{meaning_of}
use Rattle.findings.specs.Conformance.{has_field, lacking}
use Rattle.findings.specs.declared.Finding.{Finding}
use Rattle.findings.proofs.Adding.{adds_none, adds_then, adds_same}
use Rattle.meanings.specs.Places.{Sound, LookAsked}
use Rattle.meanings.specs.Scopes.{FindsHold}
use Rattle.search.specs.Search.{FieldSought, FoundIf, LooksUp, PlacesHold}
use Rattle.search.proofs.Sought.{still_sound}
use Rattle.conformance.specs.Parts.{ImplIs}
use Rattle.conformance.specs.Adding.{own_finding, Targeted}
use Rattle.conformance.specs.declared.ImplDef.{ImplDef}
use Rattle.conformance.specs.declared.TraitDef.{TraitDef}

-- what names find, in a table of zeros that it was written into
pub finds_hold : (s starts : List ℕ) (f : Frame) → Promise s starts f → (table : List ℕ)
    → table ≡ sets (replicate 4096 0) 0 (finds_at f.names s f.finds) → FindsHold (schema_of f.edition s) table
finds_hold s starts f p table h =
    let few : length (schema_of f.edition s).finds ≤ 4096 = omega (arith, p.few_names, many_length (number slot 513) s f.names f.finds (schema_of f.edition s).finds p.finds_end p.finds) in
    record { entry = λ n. ap (λ (l : List ℕ). get_or l n 0) (h ∙ ap (λ (fs : List ℕ). sets (replicate 4096 0) 0 fs) (finds_read_lem f.names s f.finds (schema_of f.edition s).finds p.finds_end p.finds)) ∙ written_at 4096 (schema_of f.edition s).finds few n }

-- no name was looked up
pub none_known : (names : ℕ) (s ps : List ℕ) (ts : List Tree) → Sound names s ps ts (replicate 4096 0)
none_known names s ps ts = record { right = λ n k. absurd (k (zeros_at 4096 n)) }

lacking_first : (S : Schema) (i : ℕ) (x : Impl) (ps : List ℕ) (m : Message) (k : ℕ) (g : TraitField) (gs : List TraitField) (found : Bool)
    → found ≡ has_field m.fields g.field_name (meaning_of S ps x.arguments g.type)
    → lacking S i x ps m k (g ∷ gs) ≡ cond found [] (finding 4 i x.span k 0 ∷ []) ++ lacking S i x ps m (suc k) gs
unfolding lacking
lacking_first S i x ps m k g gs true e = rw (← e)
lacking_first S i x ps m k g gs false e = rw (← e)

-- a trait field, by its name's number
field_parts_lem : (s : List ℕ) (names p : ℕ) (x : TraitField) (m : ℕ) → names ≤ 2 ^ 32 → read (trait_field_at names) s p ≡ done x m → (v n : ℕ) → Takes s p v n
    → (v ≡ x.field_name) × (read (expression_at names) s n ≡ done x.type m)
unfolding trait_field_at read
field_parts_lem s names p x m l e v n t =
    let a = take_on s p name names _ x m v n t l e in
    let b = read_done (expression_at names) _ s n x m a in
    let g = given b.rest in
    (ap (λ (z : TraitField). z.field_name) g.0, b.here ∙ ap₂ (λ (z : TraitField) (w : ℕ). done z.type w) g.0 g.1)

-- one finding more, unless the field was found
pub found_not_added : (found : Bool) (y : Finding) {t u : List ℕ} {n r : ℕ} → not found ≡ false → u ≡ t → r ≡ n → Adds 1 t u n r (cond found [] (y ∷ []))
found_not_added true y {t} {u} {n} e f g = rw (f, g) (adds_none 1 t n)
found_not_added false y e f g = absurd (cc)

pub lacking_added : (found : Bool) {x y : Finding} {t u v : List ℕ} {n r q : ℕ} → not found ≡ true → x ≡ y → v ≡ u → q ≡ r → Adds 1 t u n r (x ∷ []) → Adds 1 t v n q (cond found [] (y ∷ []))
lacking_added true e f g h a = absurd (cc)
lacking_added false e f g h a = rw (g, h, ← f) a

pub own_is : {names : ℕ} {s : List ℕ} {d : ImplDef} {x : Impl} → ImplIs names s d x → (c i k : ℕ) → own_finding c i d k ≡ finding c i x.span k 0
own_is e c i k = ap (λ (p : Span). finding c i p k 0) e.span

module _ (s starts : List ℕ) (f : Frame) (d : ImplDef) (e : TraitDef) (slot place held : ℕ) where
  -- k fields were passed; the others stand at p
  pub record Going (x : Targeted s starts f d e place held) (before now places : List ℕ) (n p k : ℕ) : Type 0 where
    pub low : k ≤ e.field_count
    pub sound : Sound f.names s x.paired.trait.parameters x.paired.impl.arguments places
    pub left : List TraitField
    pub left_read : read (many (e.field_count - k) (trait_field_at f.names)) s p ≡ done left x.paired.trait_is.fields_end
    pub added : List Finding
    pub adds : Adds k before now held n added
    pub whole : lacking (schema_of f.edition s) slot x.paired.impl x.paired.trait.parameters x.message 0 x.paired.trait.fields
        ≡ added ++ lacking (schema_of f.edition s) slot x.paired.impl x.paired.trait.parameters x.message k left

  pub at_start : (x : Targeted s starts f d e place held) (t : List ℕ) → Going x t t (replicate 4096 0) held e.fields 0
  at_start x t =
      let z : e.field_count - 0 ≡ e.field_count = omega arith in
      record {
        low = omega arith;
        sound = none_known _ _ _ _;
        left = x.paired.trait.fields;
        left_read = rw z x.paired.trait_is.fields;
        added = [];
        adds = adds_none 0 t held;
        whole = refl;
      }

  pub at_end : (x : Targeted s starts f d e place held) (before now places : List ℕ) (n p k : ℕ) → Going x before now places n p k → e.field_count ≤ k
      → Adds 65536 before now held n (lacking (schema_of f.edition s) slot x.paired.impl x.paired.trait.parameters x.message 0 x.paired.trait.fields)
  unfolding many read lacking
  at_end x before now places n p k g h =
      let z : e.field_count - k ≡ 0 = omega arith in
      let q : g.left ≡ [] = sym (given (rw z at g.left_read)).0 in
      adds_same 65536 (omega (arith, g.low, x.paired.trait_is.few))
      (g.whole ∙ ap (λ (l : List TraitField). g.added ++ lacking (schema_of f.edition s) slot x.paired.impl x.paired.trait.parameters x.message k l) q ∙ append-nil g.added)
      g.adds

  -- the names of an expression are looked up among the trait's parameters
  abbrev looks : (x : Targeted s starts f d e place held) (at : ℕ) (u : Tree) (end : ℕ) → read (expression_at f.names) s at ≡ done u end
      → LookAsked f.names 32 s at e.type_params d.type_args d.type_arg_count
  looks x at u end q =
      record {
        few = omega arith;
        parameters = x.paired.trait.parameters;
        types = x.paired.impl.arguments;
        bound = record {
          parameters_end = x.paired.trait_is.parameters_end;
          parameters_read = x.paired.trait_is.parameters;
          arguments_end = x.paired.impl_is.arguments_end;
          arguments_read = x.paired.impl_is.arguments;
        };
        tree = u;
        end = end;
        reads = q;
      }

  module _ (before now places : List ℕ) (n p k : ℕ) (h : k < e.field_count) (v at : ℕ) (t : Takes s p v at) where
    -- the field that comes next
    record Next (x : Targeted s starts f d e place held) (g : Going x before now places n p k) : Type 0 where
      field : TraitField
      others : List TraitField
      end : ℕ
      name_is : v ≡ field.field_name
      type_read : read (expression_at f.names) s at ≡ done field.type end
      rest : read (many (e.field_count - (k + 1)) (trait_field_at f.names)) s end ≡ done others x.paired.trait_is.fields_end
      left_is : g.left ≡ field ∷ others

    next_field : (x : Targeted s starts f d e place held) (g : Going x before now places n p k) → Next x g
    next_field x g =
        let z : e.field_count - k ≡ suc (e.field_count - (k + 1)) = omega arith in
        let a = front (trait_field_at f.names) s (e.field_count - (k + 1)) p g.left x.paired.trait_is.fields_end (rw z at g.left_read) in
        let b = field_parts_lem s f.names p a.first a.middle (omega (arith, x.paired.promise.few_names)) a.here v at t in
        record { field = a.first; others = a.others; end = a.middle; name_is = b.0; type_read = b.1; rest = a.rest; left_is = a.whole }

    module _ (long : length places ≡ 4096) (finds : List ℕ) (hold : FindsHold (schema_of f.edition s) finds) (c m : ℕ) (u : Takes s place c m) where
      fields_read : (x : Targeted s starts f d e place held) → read (many c (field_at f.edition f.names)) s m ≡ done x.message.fields x.end
      unfolding counted
      fields_read x = take_on s place count 65537 (λ j. many j (field_at f.edition f.names)) x.message.fields x.end c m u (omega arith) x.reads

      pub sought : (x : Targeted s starts f d e place held) → Going x before now places n p k
          → FieldSought s starts f finds places e.type_params d.type_args d.type_arg_count m c at
      sought x g =
          let a = next_field x g in
          record {
            ready = record { promise = x.paired.promise; holds = hold };
            room = omega (arith, x.paired.promise.few_names);
            looks = looks x at a.field.type a.end a.type_read;
            sound = g.sound;
            own = x.message.fields;
            own_end = x.end;
            own_read = fields_read x;
          }

      -- whether it is there
      pub going_on : (found : Bool) → FoundIf f s e.type_params d.type_args d.type_arg_count m c v at found
          → (look_ups next : ℕ) → LooksUp f.names s at look_ups next
          → (after : List ℕ) → PlacesHold f.names s e.type_params d.type_args d.type_arg_count at places after
          → (table : List ℕ) (r : ℕ) → Adds 1 now table n r (cond found [] (own_finding 4 slot d k ∷ []))
          → (x : Targeted s starts f d e place held) → Going x before now places n p k → Going x before table after r next (k + 1)
      unfolding sought
      going_on found w look_ups next l after hold-after table r add x g =
          let a = next_field x g in
          let S = schema_of f.edition s in
          let i = x.paired.impl in
          let ps = x.paired.trait.parameters in
          let asked = sought x g in
          let there : found ≡ has_field x.message.fields a.field.field_name (meaning_of S ps i.arguments a.field.type) =
          w x.message.fields x.end (fields_read x) ps i.arguments asked.looks.bound a.field.type a.end a.type_read
          ∙ ap (λ (j : ℕ). has_field x.message.fields j (meaning_of S ps i.arguments a.field.type)) a.name_is in
          let here : List Finding = cond found [] (own_finding 4 slot d k ∷ []) in
          record {
            low = omega arith;
            sound = still_sound asked after hold-after;
            left = a.others;
            left_read = ap (read (many (e.field_count - (k + 1)) (trait_field_at f.names)) s) (l a.field.type a.end a.type_read).1 ∙ a.rest;
            added = g.added ++ here;
            adds = adds_then (k + 1) g.adds add (omega arith);
            whole = g.whole
                ∙ ap (λ (q : List TraitField). g.added ++ lacking S slot i ps x.message k q) a.left_is
                ∙ ap (λ (q : List Finding). g.added ++ q)
                (lacking_first S slot i ps x.message k a.field a.others found there
                ∙ ap₂ (λ (q : Finding) (j : ℕ). cond found [] (q ∷ []) ++ lacking S slot i ps x.message j a.others) (sym (own_is x.paired.impl_is 4 slot k)) (sym (add-one k)))
                ∙ sym (append_assoc g.added here (lacking S slot i ps x.message (k + 1) a.others));
          }
