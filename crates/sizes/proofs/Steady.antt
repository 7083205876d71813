-- Where nothing leads back to itself, and what is stored was worked out, the size of a slot depends neither on the stored sizes
-- nor on the slots being worked out, and so not on the order of the turns. Its ends are then lengths.
use Rattle.std.specs.Prelude.{◌≡◌, refl, length}
use Rattle.std.proofs.Math.Path.{sym, ap}
use Rattle.std.proofs.Common.{subst, ◌∙◌, ⊎_elim}
use Prim.Native.Nat.{ℕ, zero, suc, ◌-◌, ◌≤◌, ◌<◌}
use native.Mathlib.Omega.{arith}
use mathlib.Core.List.{Memᴰ}
use Rattle.std.proofs.Math.Option.{Option, none, some, none-ne-some, some-injective}
use Rattle.image.specs.Schema.{Schema}
use Rattle.sizes.specs.Sizes.{Layout, Size, Worked, Sized, Resolver, fields_size, union_size}
use Rattle.sizes.specs.Names.{Content, fields, variants, bits, terminal, anything, content_of, State, Working, nothing, inserted, content_size, name_rule, name_within, enough, name_size}
use Rattle.sizes.specs.Check.{body_size, own_size}
use Rattle.sizes.specs.Lengths.{ContentLength, SlotLength, content_parts, parts_of, terminal_parts, LeadsTo, MadeOf, NothingLeadsBack, at_once, by_way_of, itself, reached}
use Rattle.sizes.specs.Demand.{Attained}
use Rattle.sizes.specs.Steady.{no_sizes, plain_size, Settled, Apart}
use Rattle.sizes.proofs.Laws.{Ends, ends}
use Rattle.sizes.proofs.Rules.{named_is}
use Rattle.sizes.proofs.Sound.{On, HoldsAt, HoldsFor, sound_content}
use Rattle.sizes.proofs.Rank.{inserted_cases, not_marked, from_part, no_loop_part, terminal_part, part_rank, part_rank_lem, part_rank_bound}
use Rattle.sizes.proofs.Fuel.{Agree, body_agree, content_agree}

module _ (L : Layout) (S : Schema) where
  none_settled : (i : ℕ) → Settled L S no_sizes i
  none_settled i j m s e = absurd (none-ne-some s e)

  part_settled : (st : State) (i j : ℕ) → Memᴰ j (parts_of S i) → Settled L S st i → Settled L S st j
  part_settled st i j p settled k m = settled k (from_part (parts_of S) i j k p m)

  part_apart : (w : Working) (i j : ℕ) → Memᴰ j (parts_of S i) → Apart S w i → Apart S w j
  part_apart w i j p apart k m = apart k (from_part (parts_of S) i j k p m)

  back : (i j : ℕ) → Memᴰ j (parts_of S i) → MadeOf S j i → LeadsTo S i i
  back i j p (itself e) = at_once (subst (λ x. Memᴰ x (parts_of S i)) e p)
  back i j p (reached l) = by_way_of p l

  inside_apart : (w : Working) (i j : ℕ) → Memᴰ j (parts_of S i) → NothingLeadsBack S i → Apart S w i →
      Apart S (inserted i w) j
  inside_apart w i j p free apart k m = not_marked (inserted i w k) (λ e. ⊎_elim
      (λ d. free i (itself refl) (back i j p (subst (λ x. MadeOf S j x) d m)))
      (λ d. let z = sym d ∙ apart k (from_part (parts_of S) i j k p m) in let y : ◌≡◌ {A = ℕ} 0 1 = cc in omega arith)
      (inserted_cases i w k e))

  own_apart : (i j : ℕ) → Memᴰ j (parts_of S i) → NothingLeadsBack S i → Apart S (inserted i nothing) j
  own_apart i j p free = inside_apart nothing i j p free (λ x m. refl)

  -- a stored size, or the parts
  content_steady : (c : Content) (stored : Option Size) (x : Worked) (beside inside beside' inside' : Resolver) →
      ((s : Size) → stored ≡ some s → x ≡ Sized s) →
      x ≡ content_size L none beside' inside' c → Agree beside beside' (terminal_parts c) → Agree inside inside' (content_parts c) →
      content_size L stored beside inside c ≡ x
  unfolding content_size
  content_steady c none x b i b' i' known e h h' = content_agree L none b b' i i' c h h' ∙ sym e
  content_steady (fields fs) (some s) x b i b' i' known e h h' = sym (known s refl)
  content_steady (variants vs) (some s) x b i b' i' known e h h' = sym (known s refl)
  content_steady (bits k) (some s) x b i b' i' known e h h' = sym e
  content_steady (terminal t) (some s) x b i b' i' known e h h' = content_agree L none b b' i i' (terminal t) h h' ∙ sym e
  content_steady anything (some s) x b i b' i' known e h h' = sym e

  -- the slot's size by itself is the rule for it, after `k` times the rule for its parts
  pub record Unrolled (i : ℕ) : Type 0 where
    pub k : ℕ
    pub often : suc (length S.slots) ≤ k
    pub rule : plain_size L S i
        ≡ content_size L none (name_within L S no_sizes k nothing) (name_within L S no_sizes k (inserted i nothing)) (content_of S i)

  unrolled : (i : ℕ) → Unrolled i
  unfolding plain_size name_size name_within name_rule
  unrolled i =
      let e : enough S ≡ suc (enough S - 1) = omega arith in
      record { k = enough S - 1; often = omega arith; rule = ap (λ (x : ℕ). name_within L S no_sizes x nothing i) e }

  -- after `f` times the rule, whatever else is stored and being worked out, the size is there
  abbrev Steady : ℕ → Type 0
  Steady i = (st : State) → Settled L S st i → (w : Working) → Apart S w i → (f : ℕ) → part_rank S i < f →
      name_within L S st f w i ≡ plain_size L S i

  -- by the rank of the slot
  steady : (b i : ℕ) → part_rank S i < b → NothingLeadsBack S i → Steady i
  unfolding name_within name_rule
  steady zero i lb free st settled w apart f lf = absurd (omega arith)
  steady (suc b) i lb free st settled w apart zero lf = absurd (omega arith)
  steady (suc b) i lb free st settled w apart (suc f) lf =
      let u = unrolled i in
      let bound = part_rank_bound S i in
      let lower : (j : ℕ) → Memᴰ j (parts_of S i) → part_rank S j < part_rank S i = λ j p. part_rank_lem S i j free p in
      let known : (j : ℕ) → Memᴰ j (parts_of S i) → Steady j
      = λ j p. steady b j (let l = lower j p in omega arith) (no_loop_part (parts_of S) i j p free) in
      let bare : (w : Working) (j : ℕ) → Memᴰ j (parts_of S i) → Apart S w j → name_within L S no_sizes u.k w j ≡ plain_size L S j
      = λ w j p apart. known j p no_sizes (none_settled j) w apart u.k (let l = lower j p in let o = u.often in omega arith) in
      let mine : (w : Working) (j : ℕ) → Memᴰ j (parts_of S i) → Apart S w j → name_within L S st f w j ≡ plain_size L S j
      = λ w j p apart. known j p st (part_settled st i j p settled) w apart f (let l = lower j p in omega arith) in
      rw (apart i (itself refl))
      (content_steady (content_of S i) (st i) (plain_size L S i) _ _ _ _ (settled i (itself refl)) u.rule
      (λ j q. let p = terminal_part (content_of S i) j q in
      mine w j p (part_apart w i j p apart) ∙ sym (bare nothing j p (λ x m. refl)))
      (λ j p.
      mine (inserted i w) j p (inside_apart w i j p free apart) ∙ sym (bare (inserted i nothing) j p (own_apart i j p free))))

  -- what a name comes to depends neither on the stored sizes nor on what is being worked out
  pub name_steady : (i : ℕ) → NothingLeadsBack S i → (st : State) → Settled L S st i → (w : Working) → Apart S w i →
      name_size L S st w i ≡ plain_size L S i
  unfolding name_size
  name_steady i free st settled w apart =
      steady (suc (part_rank S i)) i (omega arith) free st settled w apart (enough S) (omega (arith, part_rank_bound S i))

  part_steady : (i : ℕ) → NothingLeadsBack S i → (st : State) → Settled L S st i →
      Agree (name_size L S st (inserted i nothing)) (plain_size L S) (parts_of S i)
  part_steady i free st settled j p =
      let free' = no_loop_part (parts_of S) i j p free in
      name_steady j free' st (part_settled st i j p settled) (inserted i nothing) (own_apart i j p free)

  -- the size of a slot by itself follows from those of its parts by themselves
  pub plain_obeys : (i : ℕ) → NothingLeadsBack S i →
      plain_size L S i ≡ content_size L none (plain_size L S) (plain_size L S) (content_of S i)
  plain_obeys i free =
      let u = unrolled i in
      let bound = part_rank_bound S i in
      let bare : (w : Working) (j : ℕ) → Memᴰ j (parts_of S i) → Apart S w j → name_within L S no_sizes u.k w j ≡ plain_size L S j
      = λ w j p apart. let l = part_rank_lem S i j free p in let o = u.often in
      steady (part_rank S i) j l (no_loop_part (parts_of S) i j p free) no_sizes (none_settled j) w apart u.k (omega arith) in
      u.rule ∙ content_agree L none _ _ _ _ (content_of S i)
      (λ j q. bare nothing j (terminal_part (content_of S i) j q) (λ x m. refl))
      (λ j p. bare (inserted i nothing) j p (own_apart i j p free))

  body_plain : (c : Content) (x : Worked) → body_size L (plain_size L S) c ≡ some x →
      content_size L none (plain_size L S) (plain_size L S) c ≡ x
  unfolding body_size content_size
  body_plain (fields fs) x e = some-injective (fields_size L (plain_size L S) fs) x e
  body_plain (variants vs) x e = some-injective (union_size L (plain_size L S) vs) x e
  body_plain (bits b) x e = absurd (none-ne-some x e)
  body_plain (terminal t) x e = absurd (none-ne-some x e)
  body_plain anything x e = absurd (none-ne-some x e)

  -- what a turn works out is the size by itself, or its refusal
  pub own_plain : (st : State) (i : ℕ) → NothingLeadsBack S i → Settled L S st i → (x : Worked) →
      own_size L S st i ≡ some x → plain_size L S i ≡ x
  unfolding own_size
  own_plain st i free settled x e =
      let same = body_agree _ _ L (content_of S i) (part_steady i free st settled) in
      plain_obeys i free ∙ body_plain (content_of S i) x (sym same ∙ e)

  -- ## The ends are lengths

  plain_ends : (b i : ℕ) → part_rank S i < b → NothingLeadsBack S i → HoldsAt Ends L S (plain_size L S) i
  plain_ends zero i lb free s q = absurd (omega arith)
  plain_ends (suc b) i lb free s q =
      let parts : HoldsFor Ends L S (plain_size L S) (parts_of S i)
      = λ j p. plain_ends b j (let lower = part_rank_lem S i j free p in omega arith) (no_loop_part (parts_of S) i j p free) in
      let e = sym (plain_obeys i free) ∙ q in
      let none_stored : (s' : Size) → none ≡ some s' → On Ends (ContentLength L S (content_of S i)) s'
      = λ s' z. absurd (none-ne-some s' z) in
      ends.same (SlotLength L S i) _ _ (named_is L S i)
      (sound_content Ends ends L S (plain_size L S) (plain_size L S) (content_of S i) none none_stored parts parts s e)

  pub plain_attained : (i : ℕ) → NothingLeadsBack S i → (s : Size) → plain_size L S i ≡ Sized s → Attained (SlotLength L S i) s
  plain_attained i free s q =
      let a = plain_ends (suc (part_rank S i)) i (omega arith) free s q in
      record { low = a.low; high = a.high }
