-- From the parts of an image to the answer, and to what is promised of it. Assumes nothing.
use Prim.Native.Nat.{ℕ, zero, suc, ◌+◌, ◌-◌, ◌≤◌, ◌<◌, ◌^◌}
use mathlib.Core.Path.{◌≡◌, refl, sym, ap, ap₂, subst, fun_ext, ◌∙◌}
use mathlib.Core.List.{List}
use mathlib.Core.Bool.{false}
use mathlib.Core.Logic.{by_cases}
use native.Mathlib.Omega.{arith}
use native.Mathlib.Decide.{dec_lt}
use lib.ListN.{length, get_or, take, drop, replicate, length-map, length-take, get_or-eq_default, get_or-append}
use lib.Seq.{sets, sets-eq, length-sets, get_or-take}
use Rattle.number.specs.Grammar.{slot, count, give, ◌>>=◌, number, here, many, Outcome, done, refused, read}
use Rattle.number.proofs.Reading.{read_bind, read_number, read_done, then_on, given, front, many_length}
use Rattle.number.proofs.InRange.{below_is}
use Rattle.tree.specs.declared.Sort.{Sort}
use Rattle.tree.specs.declared.Sort.TheVariants.{Resolved, Expression}
use Rattle.slot.specs.Slot.{Slot, empty, slot_at}
use Rattle.slot.specs.declared.Edition.{Edition}
use Rattle.graph.specs.declared.Lowest.{Lowest}
use Rattle.graph.specs.Loops.{is_false}
use Rattle.image.specs.Schema.{Schema, slot_of}
use Rattle.image.specs.Image.{Image, image_of, schema_in, frame_in, framed, starts_of, readable_slots, contents_of, Placed, placed_at, Declared, declared_at}
use Rattle.image.specs.declared.Frame.{Frame}
use Rattle.image.specs.declared.Framed.{Framed}
use Rattle.image.proofs.Framing.{Accepted, accepted, all_readable, FrontParts, front_parts, declared_parts}
use Rattle.image.proofs.Tables.{placed_is, entry}
use Rattle.image.specs.Finds.{finds_at}
use Rattle.image.proofs.Finding.{finds_read_lem}
use Rattle.view.specs.Take.{taken_of}
use Rattle.view.specs.Inside.{name_count}
use Rattle.loops.specs.Leads.{loop_of}
use Rattle.loops.specs.Located.{slots_of, Located}
use Rattle.loops.specs.Refusals.{slots_past}
use Rattle.reader.specs.Reading.{is_empty, lost_name, judged, answered, reading_of, schema_or, schema_of, starts_or, starts_table}
use Rattle.reader.specs.Promise.{Seen, Promise, Answered, ReadsAs}
use Rattle.reader.specs.declared.Reading.{Reading}
use Rattle.reader.proofs.Losing.{slot_at_lem}
use Rattle.reader.proofs.Telling.{clear, is_empty_lem, names_none, loops_none, schema_read, accepted_6, exactly}

-- the slots of a run, without where they start
slots_run : (ed : Edition) (names : ℕ) (s : List ℕ) (left at : ℕ) (xs : List Placed) (end : ℕ) → read (many left (placed_at ed names)) s at ≡ done xs end
    → read (many left (slot_at ed names)) s at ≡ done (contents_of xs) end
unfolding many read
slots_run ed names s zero at xs end e = let g = given e in ap₂ (λ (l : List Placed) (n : ℕ). done (contents_of l) n) g.0 g.1
slots_run ed names s (suc left) at xs end e =
    let f = front (placed_at ed names) s left at xs end e in
    read_bind (slot_at ed names) _ s at
    ∙ then_on _ _ (placed_is ed names s at f.first f.middle f.here).holds
    ∙ read_bind (many left (slot_at ed names)) _ s f.middle
    ∙ then_on _ _ (slots_run ed names s left f.middle f.others end f.rest)
    ∙ ap (λ (l : List Placed). done (contents_of l) end) (sym f.whole)

few_declarations : (s : List ℕ) (at : ℕ) (d : Declared) (n : ℕ) → read declared_at s at ≡ done d n → d.declarations ≤ 1024
unfolding declared_at read ◌>>=◌
few_declarations s at d n e =
    let a = read_done (number count 1025) (λ m. ◌>>=◌ here (λ q. ◌>>=◌ (many m (number slot (2 ^ 32))) (λ ds. give (record { declarations = m; declared_place = q; declared = ds })))) s at d n e in
    let u = (below_is s at 1025 a.first a.middle (sym (read_number count 1025 s at) ∙ a.here)).under in
    let b = read_done (many a.first (number slot (2 ^ 32))) (λ ds. give (record { declarations = a.first; declared_place = a.middle; declared = ds })) s a.middle d n a.rest in
    let k = ap (λ (x : Declared). x.declarations) (given b.rest).0 in
    omega arith

-- an image that was seen
module _ (s starts : List ℕ) (f : Frame) (v : Seen s starts f) where
  parts : Accepted f.edition s v.image v.end
  parts = accepted f.edition s v.image v.end v.reads

  fronts : FrontParts s v.image.front
  fronts = front_parts s v.image.front parts.slots_place parts.front_read

  schema_is : schema_of f.edition s ≡ schema_in v.image
  unfolding schema_of
  schema_is = ap schema_or v.reads

  pub names_are : f.names ≡ v.image.front.names
  unfolding frame_in
  names_are = ap (λ (g : Frame). g.names) v.frame

  slots_are : f.slots ≡ v.image.front.slot_count
  unfolding frame_in
  slots_are = ap (λ (g : Frame). g.slots) v.frame

  finds_are : f.finds ≡ v.image.front.finds_place
  unfolding frame_in
  finds_are = ap (λ (g : Frame). g.finds) v.frame

  names_first : name_count s ≡ f.names
  unfolding name_count
  names_first = ap (λ o. (taken_of o).value) fronts.names_read ∙ sym names_are

  pub few_names_lem : f.names ≤ 4096
  few_names_lem = omega (arith, names_are, fronts.few_names)

  slots_read_lem : (i : ℕ) → i < f.slots → (end : ℕ) × (read (slot_at f.edition f.names) s (get_or starts i 0) ≡ done (slot_of (schema_of f.edition s) i) end)
  unfolding slot_of schema_in
  slots_read_lem i h =
      let k : i < v.image.front.slot_count = omega (arith, slots_are) in
      let e = entry f.edition v.image.front.names s v.image.front.slot_count parts.slots_place v.image.slots parts.declarations_place parts.slots_read i empty k in
      (e.end, ap₂ (λ (n p : ℕ). read (slot_at f.edition n) s p) names_are (v.table i k) ∙ e.reads ∙ ap (λ (S : Schema). done (get_or S.slots i empty) e.end) (sym schema_is))

  pub located : Located f.edition f.names f.slots s starts
  located =
      record {
        few = omega (arith, slots_are, fronts.few_slots);
        room = v.room ∙ sym slots_are;
        named = names_first;
        reads = λ i h. let e = slots_read_lem i h in (slot_of (schema_of f.edition s) i, e.0, e.1);
      }

  count_is : f.slots ≡ length (schema_of f.edition s).slots
  unfolding schema_in
  count_is =
      slots_are
      ∙ sym (many_length (placed_at f.edition v.image.front.names) s v.image.front.slot_count parts.slots_place v.image.slots parts.declarations_place parts.slots_read)
      ∙ sym (length-map v.image.slots (λ x. x.content))
      ∙ ap (λ (S : Schema). length S.slots) (sym schema_is)

  slots_same : slots_of f.edition f.names f.slots s starts ≡ slot_of (schema_of f.edition s)
  unfolding slot_of
  slots_same = fun_ext (λ i. by_cases (dec_lt i f.slots)
      (λ h. let e = slots_read_lem i h in slot_at_lem f.edition f.names f.slots s starts located i h _ e.0 e.1)
      (λ h. slots_past f.edition f.names f.slots s starts i (omega arith) ∙ sym (get_or-eq_default (schema_of f.edition s).slots empty {n = i} (omega (arith, count_is)))))

  finds_stand : read (many f.names (number slot 513)) s f.finds ≡ done (schema_of f.edition s).finds fronts.finds_end
  unfolding schema_in
  finds_stand =
      ap₂ (λ (n p : ℕ). read (many n (number slot 513)) s p) names_are finds_are
      ∙ fronts.finds_read
      ∙ ap (λ (S : Schema). done S.finds fronts.finds_end) (sym schema_is)

  -- what the code's answers say of the schema
  pub told_names : (r : Lowest) → ((ed : Edition) → Located ed f.names f.slots s starts → (fs : List ℕ) (n : ℕ) → read (many f.names (number slot 513)) s f.finds ≡ done fs n → r ≡ lost_name fs (slots_of ed f.names f.slots s starts))
      → lost_name (schema_of f.edition s).finds (slot_of (schema_of f.edition s)) ≡ r
  told_names r h = sym (h f.edition located (schema_of f.edition s).finds fronts.finds_end finds_stand ∙ ap (lost_name (schema_of f.edition s).finds) slots_same)

  pub told_loop : (sort : Sort) (r : Lowest) → ((ed : Edition) → Located ed f.names f.slots s starts → r ≡ loop_of sort (finds_at f.names s f.finds) (slots_of ed f.names f.slots s starts) f.slots)
      → loop_of sort (schema_of f.edition s).finds (slot_of (schema_of f.edition s)) (length (schema_of f.edition s).slots) ≡ r
  told_loop sort r h =
      sym (h f.edition located ∙ ap (λ (fs : List ℕ). loop_of sort fs (slots_of f.edition f.names f.slots s starts) f.slots) (finds_read_lem f.names s f.finds (schema_of f.edition s).finds fronts.finds_end finds_stand)
      ∙ ap₂ (λ (x : ℕ → Slot) (k : ℕ). loop_of sort (schema_of f.edition s).finds x k) slots_same count_is)

  pub reading_is : judged (schema_of f.edition s) f ≡ reading_of f.edition s
  reading_is = ap (judged (schema_of f.edition s)) v.frame ∙ schema_read f.edition s record { image = v.image; end = v.end; reads = v.reads }

  all_found : lost_name (schema_of f.edition s).finds (slot_of (schema_of f.edition s)) ≡ Lowest.Nowhere
      → (n i : ℕ) → get_or (schema_of f.edition s).finds n 0 ≡ suc i → is_empty (slot_of (schema_of f.edition s) i) ≡ false
  all_found e n i h = is_false _ (λ t. (names_none (schema_of f.edition s)).0 e n (i, h, is_empty_lem _ t))

  pub promised : (g : Frame) → judged (schema_of f.edition s) f ≡ Reading.Accepted g → Promise s starts g
  unfolding frame_in schema_in
  promised g e =
      let c = clear (schema_of f.edition s) f g e in
      subst (λ (h : Frame). Promise s starts h) c.frame
      record {
        small = parts.few;
        named = names_first;
        few_names = few_names_lem;
        finds_end = fronts.finds_end;
        finds = finds_stand;
        count = count_is;
        few = located.few;
        room = located.room;
        slots = slots_read_lem;
        run = (parts.slots_place, parts.declarations_place, slots_follow);
        few_declared = omega (arith, declarations_are, few_declarations s parts.declarations_place v.image.declared v.end parts.declared_read);
        declared_end = v.end;
        declared = declared_is;
        found = all_found c.names;
        newtypes = (loops_none (schema_of f.edition s) Resolved).0 c.newtypes;
        aliases = (loops_none (schema_of f.edition s) Expression).0 c.aliases;
      }
    where
      declarations_are : f.declarations ≡ v.image.declared.declarations
      declarations_are = ap (λ (h : Frame). h.declarations) v.frame

      slots_follow : read (many f.slots (slot_at f.edition f.names)) s parts.slots_place ≡ done (schema_of f.edition s).slots parts.declarations_place
      slots_follow =
          ap₂ (λ (k n : ℕ). read (many k (slot_at f.edition n)) s parts.slots_place) slots_are names_are
          ∙ slots_run f.edition v.image.front.names s v.image.front.slot_count parts.slots_place v.image.slots parts.declarations_place parts.slots_read
          ∙ ap (λ (S : Schema). done S.slots parts.declarations_place) (sym schema_is)

      declared_is : read (many f.declarations (number slot (2 ^ 32))) s f.declared ≡ done (schema_of f.edition s).declared v.end
      declared_is =
          ap (λ (h : Frame). read (many h.declarations (number slot (2 ^ 32))) s h.declared) v.frame
          ∙ declared_parts s parts.declarations_place v.image.declared v.end parts.declared_read
          ∙ ap (λ (S : Schema). done S.declared v.end) (sym schema_is)

-- the first places of a table, as a part of it
pub first_places : (k : ℕ) (l : List ℕ) → take k l ≡ take (k - 0) (drop 0 l)
first_places k l = let z : k - 0 ≡ k = omega arith in rw z

-- the image that was framed, with as many of the table's places as it has slots
pub seen : (ed : Edition) (s l l' : List ℕ) (f : Frame) → 512 ≤ length l → Framed.Read f ≡ framed (image_of ed s)
    → l' ≡ sets l 0 (starts_of (readable_slots ed s)) → (f.slots ≤ length l') × (f.edition ≡ ed) × Seen s (take f.slots l') f
unfolding frame_in
seen ed s l l' f h e t = go (image_of ed s) refl e
  where
    inside : (i : Image) (n : ℕ) → image_of ed s ≡ done i n → f ≡ frame_in i → (f.slots ≤ length l') × (f.edition ≡ ed) × Seen s (take f.slots l') f
    inside i n x y =
        let a = accepted ed s i n x in
        let k = (front_parts s i.front a.slots_place a.front_read).few_slots in
        let c = length-map i.slots (λ z. z.start) ∙ many_length (placed_at ed i.front.names) s i.front.slot_count a.slots_place i.slots a.declarations_place a.slots_read in
        let w : 0 + length (starts_of i.slots) ≤ length l = omega arith in
        let written = t ∙ ap (λ (ss : List Placed). sets l 0 (starts_of ss)) (all_readable ed s i n x) in
        let same : f.edition ≡ ed = ap (λ (g : Frame). g.edition) y ∙ a.edition in
        let m : f.slots ≡ i.front.slot_count = ap (λ (g : Frame). g.slots) y in
        let r : f.slots ≤ length l' = omega (arith, ap length written ∙ length-sets l 0 (starts_of i.slots)) in (
          r,
          same,
          record {
            image = i;
            end = n;
            reads = ap (λ (z : Edition). image_of z s) same ∙ x;
            frame = y;
            table = λ j q. get_or-take f.slots l' j 0 (omega arith) ∙ ap (λ (m : List ℕ). get_or m j 0) (written ∙ sets-eq (starts_of i.slots) l 0 w) ∙ get_or-append (starts_of i.slots) (drop (0 + length (starts_of i.slots)) l) 0 j (omega arith);
            room = omega (arith, length-take f.slots l');
          },
        )

    go : (o : Outcome Image) → image_of ed s ≡ o → Framed.Read f ≡ framed o → (f.slots ≤ length l') × (f.edition ≡ ed) × Seen s (take f.slots l') f
    go (done i n) x y = inside i n x (cc)
    go (refused r q) x y = let z : ◌≡◌ {A = ℕ} 0 1 = cc in absurd (omega arith)

pub not_seen : (ed : Edition) (s : List ℕ) (r q : ℕ) → Framed.Refused r q ≡ framed (image_of ed s) → Reading.Refused r q ≡ reading_of ed s
unfolding reading_of
not_seen ed s r q e = go (image_of ed s) e
  where
    go : (o : Outcome Image) → Framed.Refused r q ≡ framed o → Reading.Refused r q ≡ answered o
    go (done i n) y = let z : ◌≡◌ {A = ℕ} 0 1 = cc in absurd (omega arith)
    go (refused r' q') y = let a : r ≡ r' = cc in let b : q ≡ q' = cc in rw (a, b)

pub judged_said : (ed : Edition) (s l l' : List ℕ) (f : Frame) → 512 ≤ length l → Framed.Read f ≡ framed (image_of ed s)
    → l' ≡ sets l 0 (starts_of (readable_slots ed s)) → (r : Reading) → r ≡ judged (schema_of f.edition s) f → Answered ed s l l' r
judged_said ed s l l' f h e t r j =
    let v = seen ed s l l' f h e t in
    let p = take f.slots l' in
    let a = j ∙ reading_is s p f v.2 ∙ ap (λ (x : Edition). reading_of x s) v.1 in
    let same : (g : Frame) → r ≡ Reading.Accepted g → f ≡ g = λ g b. (clear (schema_of f.edition s) f g (sym j ∙ b)).frame in
    record {
      answer = a;
      exact = exactly ed s a;
      table = t;
      edition = λ g b. ap (λ (h : Frame). h.edition) (sym (same g b)) ∙ v.1;
      promise = λ g b. subst (λ (h : Frame). Promise s (take h.slots l') g) (same g b) (promised s p f v.2 g (sym j ∙ b));
    }

pub refused_said : (ed : Edition) (s l l' : List ℕ) (r q : ℕ) → Framed.Refused r q ≡ framed (image_of ed s) → l' ≡ sets l 0 (starts_of (readable_slots ed s))
    → Answered ed s l l' (Reading.Refused r q)
refused_said ed s l l' r q e t =
    let a = not_seen ed s r q e in record { answer = a; exact = exactly ed s a; table = t; edition = λ f a. absurd (none a); promise = λ f a. absurd (none a) }
  where
    none : {f : Frame} → Reading.Refused r q ≡ Reading.Accepted f → ⊥
    none a = let z : ◌≡◌ {A = ℕ} 0 1 = cc in omega arith

-- the table of the public entry
pub accepted_table : (ed : Edition) (s l' : List ℕ) (r : Reading) (f : Frame) → Answered ed s (replicate 512 0) l' r → r ≡ Reading.Accepted f
    → ReadsAs ed s (Reading.Accepted f) l'
unfolding starts_table
accepted_table ed s l' r f d a =
    let e = sym d.answer ∙ a in
    let w = accepted_6 ed s f e in
    let starts = ap starts_of (all_readable ed s w.image w.end w.reads) ∙ sym (ap₂ starts_or e w.reads) in
    record { answer = sym e; table = d.table ∙ ap (λ (l : List ℕ). sets (replicate 512 0) 0 l) starts; exact = rw a at d.exact }

pub refused_table : (ed : Edition) (s l' : List ℕ) (r : Reading) (n p : ℕ) → Answered ed s (replicate 512 0) l' r → r ≡ Reading.Refused n p
    → ReadsAs ed s (Reading.Refused n p) (replicate 512 0)
unfolding starts_table
refused_table ed s l' r n p d a =
    let e = sym a ∙ d.answer in
    record { answer = e; table = ap (λ (x : Reading). sets (replicate 512 0) 0 (starts_or x (image_of ed s))) e; exact = rw a at d.exact }
