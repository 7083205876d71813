-- Findings of a message, of a declaration, and of all declarations. Assumes nothing.
use Prim.Native.Nat.{ℕ, suc, ◌+◌, ◌*◌, ◌-◌, ◌^◌, ◌<◌, ◌≤◌}
use mathlib.Core.Path.{◌≡◌, refl, sym, ap, ◌∙◌}
use mathlib.Core.List.{List, [], ◌∷◌, ◌++◌, append-nil, append_assoc}
use mathlib.Core.Bool.{Bool, true, false, true≢false}
use mathlib.Core.Logic.{by_cases}
use native.Mathlib.Omega.{arith}
use native.Mathlib.Decide.{dec_lt}
use lib.ListN.{length, get_or, replicate, length-append, length-replicate, replicate-append-replicate, get_or-eq_default}
use lib.Seq.{sets}
use Rattle.number.specs.Grammar.{slot, number, many, done, refused, below, read}
use Rattle.number.proofs.Reading.{read_done, read_number, given, not_done, front}
use Rattle.slot.specs.Field.{Span, span_at, stored_at, fields_at}
use Rattle.slot.specs.Slot.{Slot, empty, message, enum, flags, union, newtype, config, alias, trait, impl, Message, message_at, slot_kind, slot_body_at}
use Rattle.slot.proofs.Whole.{made_of}
use Rattle.slot.specs.declared.Edition.{Edition}
use Rattle.image.specs.Schema.{Schema, slot_of}
use Rattle.image.specs.declared.Frame.{Frame}
use Rattle.reader.specs.Reading.{schema_of}
use Rattle.reader.specs.Promise.{Promise}
use Rattle.view.proofs.Fetching.{Behind}
use Rattle.view.proofs.Taking.{Takes, span_taken}
use Rattle.findings.specs.Finding.{finding, rows_of, noted}
use Rattle.findings.specs.Adding.{Adds}
use Rattle.findings.specs.Endless.{endless_at, endless_of}
use Rattle.findings.specs.declared.Finding.{Finding}
use Rattle.findings.proofs.Adding.{adds_none, adds_one, adds_then, adds_same, adds_noted}
use Rattle.parts.specs.Names.{is_message}
use Rattle.parts.specs.Lists.{Listable, Tabled}
use Rattle.parts.proofs.Tabling.{all_fit}
use Rattle.walks.specs.Walk.{Held, Countable, Counted}
use Rattle.walks.proofs.Holding.{held}
use Rattle.recursion.specs.Recursion.{Ready, Checked, Tables, FindingAt}

-- ## The finding of a message

pub finding_is : (s : List ℕ) (body i o n l k : ℕ) → Takes s body o n → Takes s n l k → FindingAt s body i (record { class = 1; slot = i; offset = o; length = l; a = 0; b = 0 })
unfolding message_at read
finding_is s body i o n l k t u ed names m end e =
    let a = read_done span_at _ s body m end e in
    let d = read_done stored_at _ s a.middle m end a.rest in
    let f = read_done (fields_at ed names) _ s d.middle m end d.rest in
    let p : a.first ≡ m.span = ap (λ (z : Message). z.span) (given f.rest).0 in
    ap (λ (z : Span). finding 1 i z 0 0) ((span_taken s body a.first a.middle o n l k t u a.here).0 ∙ p)

-- ## Findings that are alike

module _ (before : List ℕ) (count : ℕ) (x : Finding) where
  pub put_start : Adds (count - count) before before count count (replicate (count - count) x)
  put_start = let z : count - count ≡ 0 = omega arith in rw z (adds_none 0 before count)

  pub put_on : (n : ℕ) (now after : List ℕ) → count ≤ n → Adds (n - count) before now count n (replicate (n - count) x) → after ≡ sets now (6 * n) (rows_of (x ∷ []))
      → Adds (n + 1 - count) before after count (n + 1) (replicate (n + 1 - count) x)
  put_on n now after l a f =
      let e : n + 1 - count ≡ n - count + 1 = omega arith in
      rw e (adds_same (n - count + 1) (omega arith) (sym (replicate-append-replicate (n - count) 1 x)) (adds_then (n - count + 1) a (adds_one now after n x f) (omega arith)))

-- ## A declaration

module _ (t : List ℕ) (count : ℕ) where
  none_here : (more : List Finding) → more ≡ [] → Adds 65536 t t count count more
  none_here more e = rw e (adds_none 65536 t count)

  module _ (S : Schema) (i : ℕ) where
    pub slot_past : {n : ℕ} → n ≡ length S.slots → n ≤ i → Adds 65536 t t count count (endless_at S i (slot_of S i))
    unfolding slot_of
    slot_past e h = none_here _ (ap (endless_at S i) (get_or-eq_default S.slots empty {n = i} (omega arith)))

    slot_other : (x : Slot) → is_message x ≡ false → Adds 65536 t t count count (endless_at S i x)
    slot_other (message m) h = absurd (true≢false h)
    slot_other empty h = none_here _ refl
    slot_other (enum e) h = none_here _ refl
    slot_other (flags f) h = none_here _ refl
    slot_other (union u) h = none_here _ refl
    slot_other (newtype n) h = none_here _ refl
    slot_other config h = none_here _ refl
    slot_other (alias a) h = none_here _ refl
    slot_other (trait y) h = none_here _ refl
    slot_other (impl y) h = none_here _ refl

    pub slot_not : {messages : List Bool} {first parts : List ℕ} → Held S messages first parts → get_or messages i false ≡ false
        → Adds 65536 t t count count (endless_at S i (slot_of S i))
    slot_not h e = slot_other (slot_of S i) (sym (h.message i) ∙ e)

pub message_in : (x : Slot) → is_message x ≡ true → (m : Message) × (x ≡ message m)
message_in (message m) h = (m, refl)
message_in empty h = absurd (true≢false (sym h))
message_in (enum e) h = absurd (true≢false (sym h))
message_in (flags f) h = absurd (true≢false (sym h))
message_in (union u) h = absurd (true≢false (sym h))
message_in (newtype n) h = absurd (true≢false (sym h))
message_in config h = absurd (true≢false (sym h))
message_in (alias a) h = absurd (true≢false (sym h))
message_in (trait y) h = absurd (true≢false (sym h))
message_in (impl y) h = absurd (true≢false (sym h))

-- a slot that is marked holds a message
abbrev pub countable : {messages : List Bool} {first parts : List ℕ} (S : Schema) → Held S messages first parts → (i : ℕ) → get_or messages i false ≡ true → Countable messages first parts i
countable {messages} S h i e =
    let own = message_in (slot_of S i) (sym (h.message i) ∙ e) in
    record {
      schema = S;
      held = h;
      within = by_cases (dec_lt i 512) (λ l. l) (λ l. absurd (true≢false (sym e ∙ get_or-eq_default messages false {n = i} (omega (arith, h.marks)))));
      holder = own.0;
      there = own.1;
    }

-- a message, from its kind and its body
message_reads : (ed : Edition) (names : ℕ) (s : List ℕ) (x : Slot) (kind body : ℕ) → Behind ed names s x kind body → (m : Message) → x ≡ message m → (end : ℕ) × (read (message_at ed names) s body ≡ done m end)
unfolding slot_body_at
message_reads ed names s x kind body b m e =
    let k : 1 ≡ kind = sym (ap slot_kind e) ∙ b.kind_is in
    let r : read (slot_body_at ed names 1) s body ≡ done (message m) b.end = ap (λ (j : ℕ). read (slot_body_at ed names j) s body) k ∙ b.reads ∙ ap (λ (y : Slot). done y b.end) e in
    let d = made_of s message (message_at ed names) body (message m) b.end r in
    let q : d.held ≡ m = let p = d.slot_is in cc in
    (b.end, d.reads ∙ ap (λ (y : Message). done y b.end) q)

module _ (S : Schema) (messages : List Bool) (first parts : List ℕ) (h : Held S messages first parts) (i : ℕ) (more : ℕ) (c : Counted messages first parts i more)
    (t : List ℕ) (count : ℕ) where
  module _ (e : get_or messages i false ≡ true) where
    abbrev own : Countable messages first parts i
    own = countable S h i e

    all_of : endless_at S i (slot_of S i) ≡ replicate more (finding 1 i own.holder.span 0 0)
    all_of = ap (endless_at S i) own.there ∙ ap (λ (n : ℕ). replicate n (finding 1 i own.holder.span 0 0)) (sym (c.count own))

    pub slot_free : more ≡ 0 → Adds 65536 t t count count (endless_at S i (slot_of S i))
    slot_free z = none_here t count _ (all_of ∙ ap (λ (n : ℕ). replicate n (finding 1 i own.holder.span 0 0)) z)

    pub slot_found_lem : (ed : Edition) (names : ℕ) (s : List ℕ) (kind body : ℕ) → Behind ed names s (slot_of S i) kind body → (x : Finding) → FindingAt s body i x → (t' : List ℕ) (r : ℕ) → Adds more t t' count r (replicate more x)
        → Adds 65536 t t' count r (endless_at S i (slot_of S i))
    slot_found_lem ed names s kind body b x f t' r a =
        let w = message_reads ed names s (slot_of S i) kind body b own.holder own.there in
        adds_same 65536 (omega (arith, c.most)) (all_of ∙ ap (replicate more) (sym (f ed names own.holder w.0 w.1))) a

-- ## All declarations

-- `left` places of the list are still to come at p, and the findings of the others are in the table
pub record Turn (S : Schema) (s before : List ℕ) (left p count : ℕ) (now : List ℕ) : Type 0 where
  pub others : List ℕ
  pub end : ℕ
  pub reads : read (many left (number slot (2 ^ 32))) s p ≡ done others end
  pub found : List Finding
  pub whole : endless_of S S.declared ≡ found ++ endless_of S others
  pub table : now ≡ noted (length before) found
  pub counts : count ≡ length found
  pub most : count + 65536 * left ≤ 67108864

module _ (s starts : List ℕ) (f : Frame) (promise : Promise s starts f) (before : List ℕ) (blank : before ≡ noted (length before) []) where
  pub first_turn : Turn (schema_of f.edition s) s before f.declarations f.declared 0 before
  first_turn =
      record {
        others = (schema_of f.edition s).declared;
        end = promise.declared_end;
        reads = promise.declared;
        found = [];
        whole = refl;
        table = blank;
        counts = refl;
        most = omega (arith, promise.few_declared);
      }

module _ (S : Schema) (s before : List ℕ) (left p count : ℕ) (now : List ℕ) (t : Turn S s before left p count now) where
  module _ (h : 0 < left) where
    declared_front : (i : ℕ) × (others : List ℕ) × (n : ℕ) × (below (2 ^ 32) s p ≡ done i n) × (read (many (left - 1) (number slot (2 ^ 32))) s n ≡ done others t.end) × (t.others ≡ i ∷ others)
    declared_front =
        let d : left ≡ suc (left - 1) = omega arith in
        let w = front (number slot (2 ^ 32)) s (left - 1) p t.others t.end (rw d at t.reads) in
        (w.first, w.others, w.middle, sym (read_number slot (2 ^ 32) s p) ∙ w.here, w.rest, w.whole)

    pub small_count : count ≤ 2 ^ 27
    small_count = omega (arith, t.most)

    pub never_refused : (r q : ℕ) → below (2 ^ 32) s p ≡ refused r q → ⊥
    never_refused r q e = not_done e declared_front.3

    pub next_turn : (i n : ℕ) → below (2 ^ 32) s p ≡ done i n → (after : List ℕ) (r : ℕ)
        → Adds 65536 now after count r (endless_at S i (slot_of S i)) → Turn S s before (left - 1) n r after
    unfolding endless_of
    next_turn i n e after r a =
        let w = declared_front in
        let g = given (sym e ∙ w.3) in
        let more = endless_at S i (slot_of S i) in
        let own : t.others ≡ i ∷ w.1 = w.5 ∙ ap (λ (j : ℕ). j ∷ w.1) (sym g.0) in
        record {
          others = w.1;
          end = t.end;
          reads = ap (read (many (left - 1) (number slot (2 ^ 32))) s) g.1 ∙ w.4;
          found = t.found ++ more;
          whole = t.whole ∙ ap (λ (ds : List ℕ). t.found ++ endless_of S ds) own ∙ sym (append_assoc t.found more (endless_of S w.1));
          table = adds_noted a (length before) t.found (sym t.counts) t.table;
          counts = a.answer ∙ omega (arith, t.counts, length-append t.found more);
          most = omega (arith, t.most, a.few);
        }

  pub last_turn : left ≤ 0 → Checked S before now count
  unfolding many read endless_of
  last_turn h =
      let z : left ≡ 0 = omega arith in
      let k : [] ≡ t.others = (given (rw z at t.reads)).0 in
      let w : endless_of S S.declared ≡ t.found = t.whole ∙ ap (λ (ds : List ℕ). t.found ++ endless_of S ds) (sym k) ∙ append-nil t.found in
      record { count = t.counts ∙ ap length (sym w); table = t.table ∙ ap (noted (length before)) (sym w); most = omega (arith, t.most) }

-- ## No findings

pub none_found : {s starts findings : List ℕ} {f : Frame} {S : Schema} → Ready s starts f findings → endless_of S S.declared ≡ [] → Checked S findings findings 0
none_found {findings = findings} r n = record { count = ap length (sym n); table = r.blank ∙ ap (noted (length findings)) (sym n); most = omega arith }

-- ## The tables

-- of an image with no more than two bytes a place
module _ (n : ℕ) {s starts findings : List ℕ} {f : Frame} (r : Ready s starts f findings) (room : length s ≤ 2 * n) (few : n ≤ 32768) where
  listable : Listable s starts f (replicate 512 false) (replicate 513 0) (replicate n 0)
  listable =
      let l = length-replicate {A = ℕ} n 0 in
      record { promise = r.promise; marks = refl; places = refl; room = omega arith; few = omega arith }

  pub tables : (messages : List Bool) (first parts : List ℕ) → Tabled (schema_of f.edition s).slots messages first (replicate n 0) parts → Tables s starts f messages first parts
  tables messages first parts t =
      record {
        promise = r.promise;
        held = held (schema_of f.edition s) messages first _ parts t (all_fit _ _ _ _ _ _ listable) (omega (arith, r.promise.few, r.promise.count)) (omega (arith, length-replicate {A = ℕ} n 0));
      }
