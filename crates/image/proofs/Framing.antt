-- The image by the code's steps, and the parts of an image that was accepted. Assumes nothing.
use Prim.Native.Nat.{ℕ, ◌^◌, ◌≤◌, ◌<◌}
use mathlib.Core.Path.{◌≡◌, refl, sym, ap, ◌∙◌}
use mathlib.Core.List.{List}
use mathlib.Core.Bool.{Bool, true, false, cond}
use native.Mathlib.Omega.{arith}
use native.Mathlib.Decide.{dec_lt}
use mathlib.Core.Logic.{by_cases}
use lib.ListN.{length}
use lib.Dec.{ltb}
use lib.Seq.{sets}
use borrow.Author.Tests.{lt-ltb, le-ltb, ltb-false}
use Rattle.number.specs.Grammar.{slot, count, give, ◌>>=◌, number, here, many, Outcome, done, refused, and_then, below, read}
use Rattle.number.specs.Answers.{next}
use Rattle.number.specs.declared.Next.{Next}
use Rattle.number.proofs.Reading.{read_bind, read_number, read_done, then_on, then_stop, then_done, number_on, number_refused, next_at, next_refused, not_done, given}
use Rattle.number.proofs.InRange.{below_is}
use Rattle.slot.specs.declared.Edition.{Edition}
use Rattle.image.specs.Image.{Front, front_with, front_at, Placed, placed_at, Declared, declared_at, Image, end_at, image_at, whole, image_of, starts_of, readable, slots_after, readable_slots, frame_in, framed, fronted, ended}
use Rattle.image.proofs.Tables.{readable_all}
use Rattle.image.specs.declared.Framed.{Framed}
use Rattle.image.specs.declared.Fronted.{Fronted}
use Rattle.image.specs.declared.Ended.{Ended}

module _ (s : List ℕ) where
  after_names : (n p : ℕ) → below 4097 s 0 ≡ done n p
      → read front_at s 0 ≡ and_then (read (many n (number slot 513)) s p) (λ fs k. read (◌>>=◌ (number count 513) (λ c. give (front_with n p fs c))) s k)
  unfolding front_at read ◌>>=◌
  after_names n p e =
      number_on count 4097 (λ m. ◌>>=◌ here (λ q. ◌>>=◌ (many m (number slot 513)) (λ fs. ◌>>=◌ (number count 513) (λ c. give (front_with m q fs c))))) s 0 n p e
      ∙ read_bind (many n (number slot 513)) (λ fs. ◌>>=◌ (number count 513) (λ c. give (front_with n p fs c))) s p

  pub front_refused : (r q : ℕ) → below 4097 s 0 ≡ refused r q → Fronted.Refused r q ≡ fronted (read front_at s 0)
  unfolding front_at
  front_refused r q e = sym (ap fronted (number_refused count 4097 _ s 0 r q e))

  module _ (n p : ℕ) (e : below 4097 s 0 ≡ done n p) where
    pub names_refused : (r q : ℕ) → next (read (many n (number slot 513)) s p) ≡ Next.Refused r q → Fronted.Refused r q ≡ fronted (read front_at s 0)
    names_refused r q f = sym (ap fronted (after_names n p e ∙ then_stop _ _ (next_refused _ f)))

    module _ (k : ℕ) (f : next (read (many n (number slot 513)) s p) ≡ Next.At k) where
      after_finds : (fs : List ℕ) → read (many n (number slot 513)) s p ≡ done fs k → read front_at s 0 ≡ read (◌>>=◌ (number count 513) (λ c. give (front_with n p fs c))) s k
      after_finds fs g = after_names n p e ∙ then_on _ _ g

      pub front_read_lem : (c m : ℕ) → below 513 s k ≡ done c m → Fronted.Read n p c m ≡ fronted (read front_at s 0)
      unfolding read
      front_read_lem c m g =
          let a = next_at (read (many n (number slot 513)) s p) f in
          sym (ap fronted (after_finds a.0 a.1 ∙ number_on count 513 _ s k c m g))

      pub count_refused : (r q : ℕ) → below 513 s k ≡ refused r q → Fronted.Refused r q ≡ fronted (read front_at s 0)
      count_refused r q g =
          let a = next_at (read (many n (number slot 513)) s p) f in
          sym (ap fronted (after_finds a.0 a.1 ∙ number_refused count 513 _ s k r q g))

  -- the declarations
  module _ (at : ℕ) where
    pub declared_refused : (r q : ℕ) → below 1025 s at ≡ refused r q → Ended.Refused r q ≡ ended (read declared_at s at)
    unfolding declared_at
    declared_refused r q e = sym (ap ended (number_refused count 1025 _ s at r q e))

    module _ (c p : ℕ) (e : below 1025 s at ≡ done c p) where
      after_count : read declared_at s at ≡ and_then (read (many c (number slot (2 ^ 32))) s p) (λ ds n. done (record { declarations = c; declared_place = p; declared = ds }) n)
      unfolding declared_at read ◌>>=◌
      after_count =
          number_on count 1025 (λ m. ◌>>=◌ here (λ q. ◌>>=◌ (many m (number slot (2 ^ 32))) (λ ds. give (record { declarations = m; declared_place = q; declared = ds })))) s at c p e
          ∙ read_bind (many c (number slot (2 ^ 32))) (λ ds. give (record { declarations = c; declared_place = p; declared = ds })) s p

      pub declared_read_lem : (n : ℕ) → next (read (many c (number slot (2 ^ 32))) s p) ≡ Next.At n → Ended.Read c p n ≡ ended (read declared_at s at)
      declared_read_lem n f = let a = next_at (read (many c (number slot (2 ^ 32))) s p) f in sym (ap ended (after_count ∙ then_on _ _ a.1))

      pub numbers_refused : (r q : ℕ) → next (read (many c (number slot (2 ^ 32))) s p) ≡ Next.Refused r q → Ended.Refused r q ≡ ended (read declared_at s at)
      numbers_refused r q f = sym (ap ended (after_count ∙ then_stop _ _ (next_refused _ f)))

  -- what was read, from what the code's answer says
  front_is : (names finds c at : ℕ) → fronted (read front_at s 0) ≡ Fronted.Read names finds c at → (fs : List ℕ) × (read front_at s 0 ≡ done (front_with names finds fs c) at)
  front_is names finds c at e = go (read front_at s 0) refl e
    where
      go : (o : Outcome Front) → read front_at s 0 ≡ o → fronted o ≡ Fronted.Read names finds c at → (fs : List ℕ) × (read front_at s 0 ≡ done (front_with names finds fs c) at)
      go (done f n) x y =
          let a : f.names ≡ names = cc in
          let b : f.finds_place ≡ finds = cc in
          let d : f.slot_count ≡ c = cc in
          let k : n ≡ at = cc in
          (f.finds, x ∙ rw (← a, ← b, ← d, ← k))
      go (refused r q) x y = let z : ◌≡◌ {A = ℕ} 0 1 = cc in absurd (omega arith)

  no_front : (r q : ℕ) → fronted (read front_at s 0) ≡ Fronted.Refused r q → read front_at s 0 ≡ refused r q
  no_front r q e = go (read front_at s 0) refl e
    where
      go : (o : Outcome Front) → read front_at s 0 ≡ o → fronted o ≡ Fronted.Refused r q → read front_at s 0 ≡ refused r q
      go (done f n) x y = let z : ◌≡◌ {A = ℕ} 0 1 = cc in absurd (omega arith)
      go (refused r' q') x y = let a : r' ≡ r = cc in let b : q' ≡ q = cc in x ∙ rw (a, b)

  module _ (ed : Edition) (at : ℕ) (f : Front) (ss : List Placed) where
    -- the end of an image, from what is said of its declarations
    end_of : read (end_at ed f ss) s at ≡ and_then (read declared_at s at) (λ d n. done (record { edition = ed; front = f; slots = ss; declared = d }) n)
    unfolding end_at read
    end_of = read_bind declared_at _ s at

    pub no_end : (r q : ℕ) → Ended.Refused r q ≡ ended (read declared_at s at) → Framed.Refused r q ≡ framed (whole s (read (end_at ed f ss) s at))
    unfolding whole
    no_end r q e = go (read declared_at s at) refl e
      where
        go : (o : Outcome Declared) → read declared_at s at ≡ o → Ended.Refused r q ≡ ended o → Framed.Refused r q ≡ framed (whole s (read (end_at ed f ss) s at))
        go (done d n) x y = let z : ◌≡◌ {A = ℕ} 0 1 = cc in absurd (omega arith)
        go (refused r' q') x y = let a : r ≡ r' = cc in let b : q ≡ q' = cc in rw (a, b) (sym (ap (λ (o : Outcome Image). framed (whole s o)) (end_of ∙ then_stop _ _ x)))

    module _ (c p n : ℕ) (e : Ended.Read c p n ≡ ended (read declared_at s at)) where
      ending : (d : Declared) × (read declared_at s at ≡ done d n) × (d.declarations ≡ c) × (d.declared_place ≡ p)
      ending = go (read declared_at s at) refl e
        where
          go : (o : Outcome Declared) → read declared_at s at ≡ o → Ended.Read c p n ≡ ended o → (d : Declared) × (read declared_at s at ≡ done d n) × (d.declarations ≡ c) × (d.declared_place ≡ p)
          go (done d m) x y = let k : m ≡ n = cc in (d, x ∙ ap (done d) k, cc, cc)
          go (refused r q) x y = let z : ◌≡◌ {A = ℕ} 0 1 = cc in absurd (omega arith)

      pub extra : n < length s → Framed.Refused 6 n ≡ framed (whole s (read (end_at ed f ss) s at))
      unfolding whole
      extra h = let d = ending in sym (ap (λ (o : Outcome Image). framed (whole s o)) (end_of ∙ then_on _ _ d.1) ∙ simp (lt-ltb _ _ h))

      pub complete : length s ≤ n → Framed.Read (record { edition = ed; names = f.names; finds = f.finds_place; slots = f.slot_count; declarations = c; declared = p }) ≡ framed (whole s (read (end_at ed f ss) s at))
      unfolding whole frame_in
      complete h =
          let d = ending in
          sym (ap (λ (o : Outcome Image). framed (whole s o)) (end_of ∙ then_on _ _ d.1) ∙ simp (le-ltb _ _ h) (rw (d.2, d.3)))

  -- a test that led to a value
  whole_done : (o : Outcome Image) (i : Image) (n : ℕ) → whole s o ≡ done i n → (o ≡ done i n) × (length s ≤ n)
  unfolding whole
  whole_done (done j m) i n e = go (ltb m (length s)) refl e
    where
      go : (b : Bool) → ltb m (length s) ≡ b → cond b (refused 6 m) (done j m) ≡ done i n → (done j m ≡ done i n) × (length s ≤ n)
      go true x y = let z : ◌≡◌ {A = ℕ} 0 1 = cc in absurd (omega arith)
      go false x y = let k : m ≡ n = cc in (y, omega (arith, ltb-false m (length s) x))
  whole_done (refused r q) i n e = let z : ◌≡◌ {A = ℕ} 0 1 = cc in absurd (omega arith)

  -- the image that a front and slots end in
  record Ending (ed : Edition) (f : Front) (ss : List Placed) (p : ℕ) (i : Image) (n : ℕ) : Type 0 where
    edition_same : i.edition ≡ ed
    front_same : i.front ≡ f
    slots_same : i.slots ≡ ss
    declared_read : read declared_at s p ≡ done i.declared n
    last : length s ≤ n

  ending_is : (ed : Edition) (f : Front) (ss : List Placed) (p : ℕ) (i : Image) (n : ℕ) → (read (end_at ed f ss) s p ≡ done i n) × (length s ≤ n) → Ending ed f ss p i n
  ending_is ed f ss p i n w =
      let d = then_done (read declared_at s p) _ (sym (end_of ed p f ss) ∙ w.0) in
      let g = given d.3 in
      record {
        edition_same = ap (λ (j : Image). j.edition) (sym g.0);
        front_same = ap (λ (j : Image). j.front) (sym g.0);
        slots_same = ap (λ (j : Image). j.slots) (sym g.0);
        declared_read = d.2 ∙ ap (done d.0) g.1 ∙ ap (λ (j : Image). done j.declared n) g.0;
        last = w.1;
      }

  -- what the code says of an image, and of a table that had l
  abbrev pub Said : Edition → Framed → (l l' : List ℕ) → Type 0
  Said ed x l l' = (x ≡ framed (image_of ed s)) × (l' ≡ sets l 0 (starts_of (readable_slots ed s)))

  too_big : (ed : Edition) → 65536 < length s → image_of ed s ≡ refused 1 0
  unfolding image_of
  too_big ed h = simp (lt-ltb _ _ h)

  pub big : (ed : Edition) → 65536 < length s → (l : List ℕ) → Said ed (Framed.Refused 1 0) l l
  unfolding readable_slots
  big ed h l = (sym (ap framed (too_big ed h)), simp (lt-ltb _ _ h))

  module _ (ed : Edition) (h : length s ≤ 65536) where
    small : image_of ed s ≡ whole s (and_then (read front_at s 0) (λ f at. and_then (read (many f.slot_count (placed_at ed f.names)) s at) (λ ss p. read (end_at ed f ss) s p)))
    unfolding image_of image_at and_then read
    small = simp (le-ltb _ _ h) (ap (whole s) (read_bind front_at _ s 0 ∙ inner (read front_at s 0)))
      where
        inner : (o : Outcome Front) → and_then o (λ f at. read (◌>>=◌ (many f.slot_count (placed_at ed f.names)) (λ ss. end_at ed f ss)) s at)
            ≡ and_then o (λ f at. and_then (read (many f.slot_count (placed_at ed f.names)) s at) (λ ss p. read (end_at ed f ss) s p))
        inner (done f at) = read_bind (many f.slot_count (placed_at ed f.names)) _ s at
        inner (refused r q) = refl

    slots_after_lem : {o : Outcome Front} → read front_at s 0 ≡ o → readable_slots ed s ≡ slots_after ed s o
    unfolding readable_slots
    slots_after_lem e = simp (le-ltb _ _ h) (ap (slots_after ed s) e)

    pub no_names : (r q : ℕ) → fronted (read front_at s 0) ≡ Fronted.Refused r q → (l : List ℕ) → Said ed (Framed.Refused r q) l l
    unfolding whole
    no_names r q e l =
        let f = no_front r q e in (
          sym (ap framed (small ∙ ap (whole s) (then_stop _ _ f))),
          ap (λ (ss : List Placed). sets l 0 (starts_of ss)) (sym (slots_after_lem f)),
        )

    module _ (names finds c at : ℕ) (e : fronted (read front_at s 0) ≡ Fronted.Read names finds c at) where
      written : (l l' : List ℕ) → l' ≡ sets l 0 (starts_of (readable c (placed_at ed names) s at)) → l' ≡ sets l 0 (starts_of (readable_slots ed s))
      written l l' w = w ∙ ap (λ (ss : List Placed). sets l 0 (starts_of ss)) (sym (slots_after_lem (front_is names finds c at e).1))

      pub no_slots : (r q : ℕ) → next (read (many c (placed_at ed names)) s at) ≡ Next.Refused r q → (l l' : List ℕ)
          → l' ≡ sets l 0 (starts_of (readable c (placed_at ed names) s at)) → Said ed (Framed.Refused r q) l l'
      unfolding whole
      no_slots r q f l l' w =
          (sym (ap framed (small ∙ ap (whole s) (then_on _ _ (front_is names finds c at e).1 ∙ then_stop _ _ (next_refused _ f)))), written l l' w)

      pub image_read : (p : ℕ) → next (read (many c (placed_at ed names)) s at) ≡ Next.At p → (x : Framed) → ((fs : List ℕ) (ss : List Placed) → x ≡ framed (whole s (read (end_at ed (front_with names finds fs c) ss) s p)))
          → (l l' : List ℕ) → l' ≡ sets l 0 (starts_of (readable c (placed_at ed names) s at)) → Said ed x l l'
      image_read p g x y l l' w =
          let f = front_is names finds c at e in
          let a = next_at (read (many c (placed_at ed names)) s at) g in
          (y f.0 a.0 ∙ sym (ap framed (small ∙ ap (whole s) (then_on _ _ f.1 ∙ then_on _ _ a.1))), written l l' w)

-- the parts of a front that was read
pub record FrontParts (s : List ℕ) (f : Front) : Type 0 where
  pub names_read : below 4097 s 0 ≡ done f.names f.finds_place
  pub few_names : f.names ≤ 4096
  pub finds_end : ℕ
  pub finds_read : read (many f.names (number slot 513)) s f.finds_place ≡ done f.finds finds_end
  pub few_slots : f.slot_count ≤ 512

pub front_parts : (s : List ℕ) (f : Front) (n : ℕ) → read front_at s 0 ≡ done f n → FrontParts s f
unfolding front_at read ◌>>=◌
front_parts s f n e =
    let a = read_done (number count 4097) (λ m. ◌>>=◌ here (λ q. ◌>>=◌ (many m (number slot 513)) (λ fs. ◌>>=◌ (number count 513) (λ c. give (front_with m q fs c))))) s 0 f n e in
    after a.first a.middle (sym (read_number count 4097 s 0) ∙ a.here) a.rest
  where
    make : (m p : ℕ) (fs : List ℕ) (k c : ℕ) → below 4097 s 0 ≡ done m p → c < 513 → read (many m (number slot 513)) s p ≡ done fs k → front_with m p fs c ≡ f → FrontParts s f
    make m p fs k c w v r e = rw (← e) (record { names_read = w; few_names = omega (arith, (below_is s 0 4097 m p w).under); finds_end = k; finds_read = r; few_slots = omega arith })

    after : (m p : ℕ) → below 4097 s 0 ≡ done m p → read (◌>>=◌ here (λ q. ◌>>=◌ (many m (number slot 513)) (λ fs. ◌>>=◌ (number count 513) (λ c. give (front_with m q fs c))))) s p ≡ done f n → FrontParts s f
    after m p u r =
        let b = read_done (many m (number slot 513)) (λ fs. ◌>>=◌ (number count 513) (λ c. give (front_with m p fs c))) s p f n r in
        let d = read_done (number count 513) (λ c. give (front_with m p b.first c)) s b.middle f n b.rest in
        let v = (below_is s b.middle 513 d.first d.middle (sym (read_number count 513 s b.middle) ∙ d.here)).under in
        make m p b.first b.middle d.first u v b.here (given d.rest).0

-- the parts of declarations that were read
pub declared_parts : (s : List ℕ) (at : ℕ) (d : Declared) (n : ℕ) → read declared_at s at ≡ done d n → read (many d.declarations (number slot (2 ^ 32))) s d.declared_place ≡ done d.declared n
unfolding declared_at read ◌>>=◌
declared_parts s at d n e =
    let a = read_done (number count 1025) (λ m. ◌>>=◌ here (λ q. ◌>>=◌ (many m (number slot (2 ^ 32))) (λ ds. give (record { declarations = m; declared_place = q; declared = ds })))) s at d n e in
    after a.first a.middle a.rest
  where
    after : (m p : ℕ) → read (◌>>=◌ here (λ q. ◌>>=◌ (many m (number slot (2 ^ 32))) (λ ds. give (record { declarations = m; declared_place = q; declared = ds })))) s p ≡ done d n
        → read (many d.declarations (number slot (2 ^ 32))) s d.declared_place ≡ done d.declared n
    after m p r =
        let b = read_done (many m (number slot (2 ^ 32))) (λ ds. give (record { declarations = m; declared_place = p; declared = ds })) s p d n r in
        let g = given b.rest in
        rw (← g.0) (b.here ∙ ap (done b.first) g.1)

-- the parts of an image that was accepted
pub record Accepted (ed : Edition) (s : List ℕ) (i : Image) (end : ℕ) : Type 0 where
  pub edition : i.edition ≡ ed
  pub few : length s ≤ 65536
  pub slots_place : ℕ
  pub declarations_place : ℕ
  pub front_read : read front_at s 0 ≡ done i.front slots_place
  pub slots_read : read (many i.front.slot_count (placed_at ed i.front.names)) s slots_place ≡ done i.slots declarations_place
  pub declared_read : read declared_at s declarations_place ≡ done i.declared end
  pub last : length s ≤ end

pub accepted : (ed : Edition) (s : List ℕ) (i : Image) (n : ℕ) → image_of ed s ≡ done i n → Accepted ed s i n
accepted ed s i n e = by_cases (dec_lt 65536 (length s)) (λ h. absurd (not_done (too_big s ed h) e)) (λ h. within (omega arith))
  where
    within : length s ≤ 65536 → Accepted ed s i n
    within h =
        let d = whole_done s _ i n (sym (small s ed h) ∙ e) in
        let f = then_done (read front_at s 0) _ d.0 in
        let g = then_done (read (many f.0.slot_count (placed_at ed f.0.names)) s f.1) _ f.3 in
        let k = ending_is s ed f.0 g.0 g.1 i n (g.3, d.1) in
        record {
          edition = k.edition_same;
          few = h;
          slots_place = f.1;
          declarations_place = g.1;
          front_read = f.2 ∙ ap (λ (x : Front). done x f.1) (sym k.front_same);
          slots_read = ap (λ (x : Front). read (many x.slot_count (placed_at ed x.names)) s f.1) k.front_same ∙ g.2 ∙ ap (λ (ss : List Placed). done ss g.1) (sym k.slots_same);
          declared_read = k.declared_read;
          last = k.last;
        }

-- its slots were all read
pub all_readable : (ed : Edition) (s : List ℕ) (i : Image) (n : ℕ) → image_of ed s ≡ done i n → readable_slots ed s ≡ i.slots
all_readable ed s i n e =
    let a = accepted ed s i n e in
    slots_after_lem s ed a.few a.front_read ∙ readable_all (placed_at ed i.front.names) s i.front.slot_count a.slots_place i.slots a.declarations_place a.slots_read
