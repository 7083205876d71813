-- A turn, and the turns in order, by the code's steps. Assumes nothing.
use Prim.Native.Nat.{ℕ, suc, ◌+◌, ◌-◌, ◌*◌, ◌^◌, ◌≤◌, ◌<◌}
use mathlib.Core.Path.{◌≡◌, refl, sym, ap, subst, ◌∙◌}
use mathlib.Core.List.{List, ◌∷◌}
use mathlib.Core.Option.{none, some}
use native.Mathlib.Omega.{arith}
use lib.ListN.{length, get_or, get_or-eq_default}
use lib.Seq.{sets}
use Rattle.number.specs.Grammar.{slot, number, many, done, refused, below, read}
use Rattle.number.proofs.Reading.{not_done, given, read_number, front}
use Rattle.slot.specs.Slot.{Slot, empty, message, enum, flags, union, newtype, config, alias, trait, impl}
use Rattle.image.specs.Schema.{Schema, slot_of}
use Rattle.sizes.specs.declared.Layout.{Layout}
use Rattle.sizes.specs.declared.Size.{Size}
use Rattle.sizes.specs.declared.Operation.{Operation}
use Rattle.sizes.specs.declared.Worked.{Worked}
use Rattle.sizes.specs.declared.Worked.TheVariants.{Sized, Over}
use Rattle.sizes.specs.Sizes.{Resolver}
use Rattle.sizes.specs.Names.{State, content_in, content_of}
use Rattle.sizes.specs.Check.{body_size, own_size, store, storing, turn, onward, turns, check_sizes, brought, table_of, size_row}
use Rattle.sizes.specs.Check as check
use Rattle.sizes.specs.Demand.{Sizable, is_message, is_union}
use Rattle.rows.proofs.Table.{place_is, stored}
use Rattle.wiresize.specs.Rows.{RowsHold}
use Rattle.wiresize.specs.Asked.{Held, turn_of}
use Rattle.turns.specs.Sizing.{Begun, TurnTaken, Through}
use Rattle.wiresize.specs.declared.Turned.{Turned}
use Rattle.std.specs.Prelude.{Result, Ok, Err, ⊤, MatchResult, IsErrAnd}

module _ (S : Schema) where
  pub holds : (st : State) (l rows : List ℕ) → 3 * length S.slots ≤ length l → rows ≡ sets l 0 (table_of S st) → RowsHold S st rows
  holds st l rows h e = record { place = λ i d p q. ap (λ (r : List ℕ). get_or r (3 * i + d) 0) e ∙ place_is S st l h i d p q }

module _ (L : Layout) (S : Schema) where
  own_past : (st : State) (i : ℕ) → length S.slots ≤ i → own_size L S st i ≡ none
  unfolding own_size content_of content_in body_size slot_of
  own_past st i h = rw (get_or-eq_default S.slots empty {n = i} h)

  body_sizable : (r : Resolver) (i : ℕ) (x : Slot) (w : Worked) → body_size L r (content_in S i x) ≡ some w → Sizable x
  unfolding body_size content_in
  body_sizable r i empty w e = let z : ◌≡◌ {A = ℕ} 0 1 = cc in absurd (omega arith)
  body_sizable r i (message m) w e = is_message
  body_sizable r i (enum m) w e = let z : ◌≡◌ {A = ℕ} 0 1 = cc in absurd (omega arith)
  body_sizable r i (flags m) w e = let z : ◌≡◌ {A = ℕ} 0 1 = cc in absurd (omega arith)
  body_sizable r i (union m) w e = is_union
  body_sizable r i (newtype m) w e = let z : ◌≡◌ {A = ℕ} 0 1 = cc in absurd (omega arith)
  body_sizable r i config w e = let z : ◌≡◌ {A = ℕ} 0 1 = cc in absurd (omega arith)
  body_sizable r i (alias m) w e = let z : ◌≡◌ {A = ℕ} 0 1 = cc in absurd (omega arith)
  body_sizable r i (trait m) w e = let z : ◌≡◌ {A = ℕ} 0 1 = cc in absurd (omega arith)
  body_sizable r i (impl m) w e = let z : ◌≡◌ {A = ℕ} 0 1 = cc in absurd (omega arith)

  own_sizable : (st : State) (i : ℕ) (w : Worked) → own_size L S st i ≡ some w → Sizable (slot_of S i)
  unfolding own_size content_of
  own_sizable st i w e = body_sizable _ i (slot_of S i) w e

  turn_none : (st : State) (i : ℕ) → own_size L S st i ≡ none → turn L S st i ≡ check.accepted st
  unfolding turn storing
  turn_none st i e = rw e

  turn_sized : (st : State) (i : ℕ) (z : Size) → own_size L S st i ≡ some (Sized z) → turn L S st i ≡ check.accepted (store i z st)
  unfolding turn storing
  turn_sized st i z e = rw e

  turn_over : (st : State) (i : ℕ) (o : Operation) → own_size L S st i ≡ some (Over o) → turn L S st i ≡ check.refused o i
  unfolding turn storing
  turn_over st i o e = rw e

  -- the ways through a turn
  module _ (st : State) (i : ℕ) (l rows : List ℕ) (room : 3 * length S.slots ≤ length l) (e : rows ≡ sets l 0 (table_of S st)) where
    pub beyond : length S.slots ≤ i → TurnTaken L S st i l rows (Ok tt)
    beyond h = (st, turn_none st i (own_past st i h), e)

    pub other : (r : Turned) → turn_of r ≡ own_size L S st i → r ≡ Turned.Other → TurnTaken L S st i l rows (Ok tt)
    other r o q = (st, turn_none st i (sym o ∙ ap turn_of q), e)

    pub over : (r : Turned) (o : Operation) → turn_of r ≡ own_size L S st i → r ≡ Turned.Over o → TurnTaken L S st i l rows (Err o)
    over r o own q = turn_over st i o (sym own ∙ ap turn_of q)

    pub sized : (r : Turned) (z : Size) → turn_of r ≡ own_size L S st i → r ≡ Turned.Sized z → (row after : List ℕ) → row ≡ size_row (some z)
        → after ≡ sets rows (3 * i) row → TurnTaken L S st i l after (Ok tt)
    sized r z o q row after p f =
        let w = sym o ∙ ap turn_of q in (
          store i z st,
          turn_sized st i z w,
          f ∙ ap (λ (x : List ℕ). sets rows (3 * i) x) p ∙ ap (λ (x : List ℕ). sets x (3 * i) (size_row (some z))) e ∙ stored S st z l room i (own_sizable st i (Sized z) w),
        )

turned_on : (L : Layout) (S : Schema) (st : State) (v : ℕ) (st' : State) (is : List ℕ) → turn L S st v ≡ check.accepted st' → turns L S st (v ∷ is) ≡ turns L S st' is
unfolding turns onward
turned_on L S st v st' is a = rw a

-- the places that are left behind `i` of them, and the sizes stored so far
module _ (L : Layout) (s : List ℕ) (S : Schema) (l₀ : List ℕ) (count : ℕ) where
  pub record Left (l rows : List ℕ) (p i : ℕ) : Type 0 where
    pub state : State
    pub places : List ℕ
    pub end : ℕ
    pub reads : read (many (count - i) (number slot (2 ^ 32))) s p ≡ done places end
    pub same : check_sizes L S ≡ turns L S state places
    pub held : rows ≡ sets l 0 (table_of S state)

  pub record Going (rows : List ℕ) (p i : ℕ) : Type 0 where
    pub long : length rows ≡ length l₀
    pub left_over : (l : List ℕ) → 3 * length S.slots ≤ length l → l₀ ≡ sets l 0 (table_of S (brought S)) → Left l rows p i

  pub first_turn : (p end : ℕ) → read (many count (number slot (2 ^ 32))) s p ≡ done S.declared end → Going l₀ p 0
  unfolding check_sizes
  first_turn p end e =
      let d : count - 0 ≡ count = omega arith in
      record { long = refl; left_over = λ l h q. record { state = brought S; places = S.declared; end = end; reads = rw d e; same = refl; held = q } }

  module _ (rows : List ℕ) (p i : ℕ) (g : Going rows p i) where
    pub last_turn : count ≤ i → (l : List ℕ) → 3 * length S.slots ≤ length l → l₀ ≡ sets l 0 (table_of S (brought S)) → Through L S l rows (Ok tt)
    unfolding turns many read
    last_turn h l r e =
        let w = g.left_over l r e in
        let z : count - i ≡ 0 = omega arith in
        let k = given (rw z at w.reads) in
        (w.state, w.same ∙ ap (turns L S w.state) (sym k.0), w.held)

    module _ (h : i < count) where
      -- the first of the places left
      record First (l : List ℕ) (w : Left l rows p i) : Type 0 where
        value : ℕ
        others : List ℕ
        middle : ℕ
        reads : below (2 ^ 32) s p ≡ done value middle
        rest : read (many (count - (i + 1)) (number slot (2 ^ 32))) s middle ≡ done others w.end
        whole : w.places ≡ value ∷ others

      first_of : (l : List ℕ) (w : Left l rows p i) → First l w
      first_of l w =
          let d : count - i ≡ suc (count - (i + 1)) = omega arith in
          let f = front (number slot (2 ^ 32)) s (count - (i + 1)) p w.places w.end (subst (λ (k : ℕ). read (many k (number slot (2 ^ 32))) s p ≡ done w.places w.end) d w.reads) in
          record { value = f.first; others = f.others; middle = f.middle; reads = sym (read_number slot (2 ^ 32) s p) ∙ f.here; rest = f.rest; whole = f.whole }

      pub stop_turn : (r q : ℕ) → below (2 ^ 32) s p ≡ refused r q → (x : Result ⊤ (Operation × ℕ)) (l : List ℕ) → 3 * length S.slots ≤ length l → l₀ ≡ sets l 0 (table_of S (brought S)) → Through L S l rows x
      stop_turn r q e x l k f = absurd (not_done e (first_of l (g.left_over l k f)).reads)

      module _ (v n : ℕ) (e : below (2 ^ 32) s p ≡ done v n) (after : List ℕ) (b : Result ⊤ Operation)
          (t : (l : List ℕ) (st : State) → 3 * length S.slots ≤ length l → rows ≡ sets l 0 (table_of S st) → TurnTaken L S st v l after b) where
        pub over_turn : (o : Operation) → b ≡ Err o → (l : List ℕ) → 3 * length S.slots ≤ length l → l₀ ≡ sets l 0 (table_of S (brought S)) → Through L S l after (Err (o, v))
        unfolding turns onward
        over_turn o q l k f =
            let w = g.left_over l k f in
            let z = first_of l w in
            let y = (given (sym z.reads ∙ e)).0 in
            let u : turn L S w.state v ≡ check.refused o v = subst (λ (x : Result ⊤ Operation). TurnTaken L S w.state v l after x) q (t l w.state k w.held) in
            w.same ∙ ap (turns L S w.state) (z.whole ∙ ap (λ (x : ℕ). x ∷ z.others) y) ∙ rw u

        pub next_turn : (a : ⊤) → b ≡ Ok a → length after ≡ length rows → Going after n (i + 1)
        next_turn a q m =
            record {
              long = m ∙ g.long;
              left_over = λ l k f. onto l k (g.left_over l k f);
            }
          where
            onto : (l : List ℕ) → 3 * length S.slots ≤ length l → Left l rows p i → Left l after n (i + 1)
            onto l k w =
                let o = first_of l w in
                let y = given (sym o.reads ∙ e) in
                let u : TurnTaken L S w.state v l after (Ok a) = subst (λ (x : Result ⊤ Operation). TurnTaken L S w.state v l after x) q (t l w.state k w.held) in
                record {
                  state = u.0;
                  places = o.others;
                  end = w.end;
                  reads = subst (λ (x : ℕ). read (many (count - (i + 1)) (number slot (2 ^ 32))) s x ≡ done o.others w.end) y.1 o.rest;
                  same = w.same ∙ ap (turns L S w.state) (o.whole ∙ ap (λ (x : ℕ). x ∷ o.others) y.0) ∙ turned_on L S w.state v u.0 o.others u.1;
                  held = u.2;
                }

-- what `map_err` made of a turn's answer
abbrev Mapped : (Operation → Operation × ℕ → Type 0) → Result ⊤ Operation → Result ⊤ (Operation × ℕ) → Type 0
Mapped Q r x = MatchResult r (λ a. x ≡ Ok a) (λ o. IsErrAnd x (Q o))

pub mapped_ok : (Q : Operation → Operation × ℕ → Type 0) (r : Result ⊤ Operation) (x : Result ⊤ (Operation × ℕ)) → Mapped Q r x → (a : ⊤) → x ≡ Ok a → r ≡ Ok a
mapped_ok Q (Ok b) x h a e = refl
mapped_ok Q (Err o) x h a e = absurd (rw e at h)

pub mapped_err : (Q : Operation → Operation × ℕ → Type 0) (r : Result ⊤ Operation) (x : Result ⊤ (Operation × ℕ)) → Mapped Q r x
    → (v : ℕ) → ((o : Operation) (w : Operation × ℕ) → Q o w → w ≡ (o, v)) → (w : Operation × ℕ) → x ≡ Err w → (o : Operation) × (r ≡ Err o) × (w ≡ (o, v))
mapped_err Q (Ok a) x h v f w e = absurd (cc)
mapped_err Q (Err o) x h v f w e = (o, refl, f o w (rw e at h))

-- at each turn the table holds a state
pub turn_held : (L : Layout) (s : List ℕ) (S : Schema) (l₀ : List ℕ) (count : ℕ) (rows : List ℕ) (p i : ℕ) → Begun S l₀ → Going L s S l₀ count rows p i → Held S rows
turn_held L s S l₀ count rows p i b g =
    let w = g.left_over b.base b.room b.filled in
    record { state = w.state; holds = holds S w.state b.base rows b.room w.held }
