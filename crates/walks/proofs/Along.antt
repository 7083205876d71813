-- The code's steps through a name, and along the names of a slot. Assumes nothing.
use Prim.Native.Nat.{ℕ, zero, suc, ◌+◌, ◌-◌, ◌/◌, ◌%◌, ◌^◌, ◌<◌, ◌≤◌}
use mathlib.Core.Path.{◌≡◌, sym, ap, ap₂, subst, ◌∙◌}
use mathlib.Core.List.{List, [], ◌∷◌}
use mathlib.Core.Bool.{Bool, true, false, ◌&&◌}
use native.Mathlib.Omega.{arith}
use native.Mathlib.Numerals.{add-one}
use lib.Dec.{eqb}
use lib.ListN.{length, replicate, get_or, take, drop, length-set, length-take, length-drop, length-append, length-replicate}
use lib.Seq.{drop-cons}
use Rattle.slot.specs.Slot.{Slot, empty, message, Message}
use Rattle.graph.specs.Loops.{weight, unvisited, unvisited_start, spent}
use Rattle.image.specs.Schema.{Schema, slot_of}
use Rattle.findings.specs.Endless.{counted, entered, left, Walk, walk_name, start, endless_in}
use Rattle.findings.specs.declared.RecursionState.{RecursionState}
use Rattle.parts.specs.Names.{all_of, slot_names, is_message}
use Rattle.walks.specs.Walk.{walk_part, walk_parts, row, Held, room, PartWalked, SlotWalked, Counted}
use Rattle.walks.proofs.Walking.{Whole, Moved, stays, parts_moved, fields_bare, slot_walk, steady}

pub before : {a b c : ℕ} → a < b → b ≡ c → a < c
before h e = omega arith

pub behind : {a b c : ℕ} → b ≤ a → b ≡ c → c ≤ a
behind h e = omega arith

-- ## A name

-- a slot that is entered
module _ (i : ℕ) (il : i < 512) (st : RecursionState) (w : Whole st) (v : get_or st.visited i false ≡ false) (j : Bool) (s : RecursionState) (en : s ≡ entered i j st) where
  pub inside_fewer : unvisited s.visited < unvisited st.visited
  unfolding entered
  inside_fewer = rw en (omega (arith, spent st.visited (λ x. 1) i (omega (arith, w.visited)) v))

  pub inside_fits : (S : Schema) → st.count + room S st.visited + 0 < 2 ^ 32 → s.count + room S s.visited + length (slot_names (slot_of S i)) < 2 ^ 32
  unfolding entered
  inside_fits S f = rw en (omega (arith, spent st.visited (λ x. length (slot_names (slot_of S x))) i (omega (arith, w.visited)) v))

-- the name of a part, and whether it is direct
module _ (messages : List Bool) (first parts : List ℕ) (p i : ℕ) (own : i ≡ p / 2) (d e : Bool) (st : RecursionState) (is : e ≡ (d && eqb (p % 2) 1)) where
  -- from what the walk of a name says, whatever the schema
  told : (r : RecursionState) → ((S : Schema) → Held S messages first parts → (n : ℕ) → unvisited st.visited < suc n → r ≡ walk_name S (suc n) i e st)
      → PartWalked messages first parts p d st r
  unfolding walk_part
  told r h =
      record {
        walked = λ S held n l.
            let k : n ≡ suc (n - 1) = omega arith in
            subst (λ (m : ℕ). r ≡ walk_name S m (p / 2) (d && eqb (p % 2) 1) st) (sym k)
            (h S held (n - 1) (omega arith) ∙ ap₂ (λ (x : ℕ) (b : Bool). walk_name S (suc (n - 1)) x b st) own is);
      }

  pub name_past : 512 ≤ i → Whole st → PartWalked messages first parts p d st st
  name_past h w = told st (λ S held n l. sym ((steady S held.few (suc n)).past i e st h w))

  pub name_found : get_or st.path i false ≡ true → e ≡ true → PartWalked messages first parts p d st (counted st)
  unfolding walk_name
  name_found h g = told (counted st) (λ S held n l. rw (h, g))

  pub name_back : get_or st.path i false ≡ true → e ≡ false → PartWalked messages first parts p d st st
  unfolding walk_name
  name_back h g = told st (λ S held n l. rw (h, g))

  pub name_visited : get_or st.path i false ≡ false → get_or st.visited i false ≡ true → PartWalked messages first parts p d st st
  unfolding walk_name
  name_visited h g = told st (λ S held n l. rw (h, g))

  -- a slot that is entered
  module _ (il : i < 512) (w : Whole st) (v : get_or st.visited i false ≡ false) (j : Bool) (s : RecursionState) (en : s ≡ entered i j st) where
    pub name_inside : get_or st.path i false ≡ false → j ≡ (get_or messages i false && e) → (a r : RecursionState) → SlotWalked messages first parts i e s a → r ≡ left i j a
        → PartWalked messages first parts p d st r
    unfolding walk_name
    name_inside h jo a r ro le = told r (λ S held n l.
        let k : j ≡ (is_message (slot_of S i) && e) = jo ∙ ap (λ (b : Bool). b && e) (held.message i) in
        let f = inside_fewer i il st w v j s en in
        rw (h, v)
        (le
        ∙ ap₂ (λ (b : Bool) (t : RecursionState). left i b t) k (ro.walked S held n (omega arith) ∙ ap (walk_parts (λ x y z. walk_name S n x y z) e (slot_names (slot_of S i))) (en ∙ ap (λ (b : Bool). entered i b st) k))
        ∙ sym (slot_walk S (λ x y z. walk_name S n x y z) (steady S held.few n) e i (slot_of S i) st w)))

-- ## The names of a slot

-- what is left of a row from p on
rest : (parts : List ℕ) (end p : ℕ) → p < end → end ≤ length parts → take (end - p) (drop p parts) ≡ get_or parts p 0 ∷ take (end - (p + 1)) (drop (p + 1) parts)
rest parts end p l h =
    let z : end - p ≡ suc (end - (p + 1)) = omega arith in
    rw (z, drop-cons parts p 0 (omega arith), add-one)

-- the loop over a row: from st, at p with s
pub record Along (S : Schema) (first parts : List ℕ) (i : ℕ) (d : Bool) (st : RecursionState) (p : ℕ) (s : RecursionState) : Type 0 where
  pub low : get_or first i 0 ≤ p
  pub moved : Moved S (p - get_or first i 0) st s
  pub same : (n : ℕ) → unvisited st.visited < n
      → walk_parts (λ x y z. walk_name S n x y z) d (take (get_or first (i + 1) 0 - p) (drop p parts)) s ≡ walk_parts (λ x y z. walk_name S n x y z) d (slot_names (slot_of S i)) st

module _ (S : Schema) (messages : List Bool) (first parts : List ℕ) (held : Held S messages first parts) (i : ℕ) (d : Bool) (st : RecursionState) where
  row_length : get_or first i 0 ≤ get_or first (i + 1) 0 → length (slot_names (slot_of S i)) ≡ get_or first (i + 1) 0 - get_or first i 0
  unfolding row
  row_length o = sym (ap length (held.names i)) ∙ simp (length-take, length-drop) (omega (arith, held.inside i))

  pub along_start : (p : ℕ) → p ≡ get_or first i 0 → Along S first parts i d st p st
  unfolding row
  along_start p e =
      rw e
      record {
        low = omega arith;
        moved = stays S _ st;
        same = λ n h. ap (λ (l : List ℕ). walk_parts (λ x y z. walk_name S n x y z) d l st) (held.names i);
      }

  part_moved : (p : ℕ) (s r : RecursionState) → Whole s → PartWalked messages first parts p d s r → Moved S 1 s r
  unfolding walk_part
  part_moved p s r ws k =
      subst (λ (t : RecursionState). Moved S 1 s t) (sym (k.walked S held (suc (unvisited s.visited)) (le_self (unvisited s.visited))))
      ((steady S held.few (suc (unvisited s.visited))).moves (p / 2) (d && eqb (p % 2) 1) s ws)
    where
      le_self : (x : ℕ) → x < suc x
      le_self x = omega arith

  module _ (p : ℕ) (s : RecursionState) (a : Along S first parts i d st p s) where
    pub along_fits : p < get_or first (i + 1) 0 → st.count + room S st.visited + length (slot_names (slot_of S i)) < 2 ^ 32 → s.count + room S s.visited + 0 < 2 ^ 32
    along_fits l f = let o : get_or first i 0 ≤ get_or first (i + 1) 0 = omega (arith, a.low) in omega (arith, a.moved.most, row_length o, a.low)

    pub along_on : p < get_or first (i + 1) 0 → Whole st → (r : RecursionState) → PartWalked messages first parts (get_or parts p 0) d s r → Along S first parts i d st (p + 1) r
    unfolding walk_parts
    along_on l w r k =
        let name : ℕ → Walk = λ n x y z. walk_name S n x y z in
        let ws : Whole s = record { path = a.moved.path ∙ w.path; visited = a.moved.visited ∙ w.visited } in
        let m : Moved S 1 s r = part_moved (get_or parts p 0) s r ws k in
        record {
          low = omega (arith, a.low);
          moved = record {
            path = m.path ∙ a.moved.path;
            visited = m.visited ∙ a.moved.visited;
            fewer = omega (arith, m.fewer, a.moved.fewer);
            most = omega (arith, m.most, a.moved.most, a.low);
          };
          same = λ n h.
              ap (walk_parts (name n) d (take (get_or first (i + 1) 0 - (p + 1)) (drop (p + 1) parts))) (k.walked S held n (omega (arith, a.moved.fewer)))
              ∙ ap (λ (q : List ℕ). walk_parts (name n) d q s) (sym (rest parts (get_or first (i + 1) 0) p l (held.inside i)))
              ∙ a.same n h;
        }

    pub along_end : get_or first (i + 1) 0 ≤ p → (n : ℕ) → unvisited st.visited < n → s ≡ walk_parts (λ x y z. walk_name S n x y z) d (slot_names (slot_of S i)) st
    unfolding walk_parts
    along_end l n h =
        let z : get_or first (i + 1) 0 - p ≡ 0 = omega arith in
        sym (ap (λ (x : ℕ). walk_parts (λ x y z. walk_name S n x y z) d (take x (drop p parts)) s) z) ∙ a.same n h

-- ## A declared message

-- all names together
all_rows : (n : ℕ) (xs : List Slot) → weight (replicate n false) (λ i. length (slot_names (get_or xs i empty))) ≤ length (all_of slot_names xs)
unfolding weight all_of slot_names
all_rows zero xs = omega arith
all_rows (suc n) [] = omega (arith, all_rows n [])
all_rows (suc n) (x ∷ xs) = simp length-append (omega (arith, all_rows n xs))

one_row : (xs : List Slot) (i : ℕ) → length (slot_names (get_or xs i empty)) ≤ length (all_of slot_names xs)
unfolding all_of slot_names
one_row [] i = omega arith
one_row (x ∷ xs) zero = simp length-append (omega arith)
one_row (x ∷ xs) (suc i) = simp length-append (omega (arith, one_row xs i))

start_whole : (i : ℕ) → Whole (start i)
unfolding start
start_whole i = record { path = length-set (replicate 512 false) i true ∙ length-replicate 512 false; visited = length-replicate 512 false }

module _ (messages : List Bool) (first parts : List ℕ) (i : ℕ) where
  module _ (S : Schema) (held : Held S messages first parts) where
    start_room : (start i).count + room S (start i).visited + length (slot_names (slot_of S i)) ≤ 65536
    unfolding start slot_of
    start_room = omega (arith, all_rows 512 S.slots, one_row S.slots i, held.most)

    pub start_fits : (start i).count + room S (start i).visited + length (slot_names (slot_of S i)) < 2 ^ 32
    start_fits = omega (arith, start_room)

    message_count : (m : Message) → slot_of S i ≡ message m → endless_in S i m.fields ≡ (walk_parts (λ x y z. walk_name S 513 x y z) true (slot_names (slot_of S i)) (start i)).count
    unfolding endless_in slot_names
    message_count m e =
        ap (λ (t : RecursionState). t.count)
        (fields_bare S (λ x y z. walk_name S 513 x y z) (steady S held.few 513) true m.fields (start i) (start_whole i)
        ∙ ap (λ (x : Slot). walk_parts (λ x y z. walk_name S 513 x y z) true (slot_names x) (start i)) (sym e))

  pub count_is : (S : Schema) → Held S messages first parts → (r : RecursionState) → SlotWalked messages first parts i true (start i) r → Counted messages first parts i r.count
  unfolding start
  count_is T t r k =
      record {
        count = λ a.
            ap (λ (x : RecursionState). x.count) (k.walked a.schema a.held 513 (omega (arith, unvisited_start)))
            ∙ sym (message_count a.schema a.held a.holder a.there);
        most =
            let q = k.walked T t 513 (omega (arith, unvisited_start)) in
            let w = parts_moved T (λ x y z. walk_name T 513 x y z) (steady T t.few 513) true (slot_names (slot_of T i)) (start i) (start_whole i) in
            omega (arith, w.most, start_room T t, ap (λ (x : RecursionState). x.count) q);
      }

  pub count_none : get_or first (i + 1) 0 ≤ get_or first i 0 → Counted messages first parts i 0
  unfolding row start walk_parts
  count_none h =
      record {
        count = λ a.
            let z : get_or first (i + 1) 0 - get_or first i 0 ≡ 0 = omega arith in
            let n : [] ≡ slot_names (slot_of a.schema i) = sym (ap (λ (x : ℕ). take x (drop (get_or first i 0) parts)) z) ∙ a.held.names i in
            sym
            (message_count a.schema a.held a.holder a.there
            ∙ ap (λ (l : List ℕ). (walk_parts (λ x y z. walk_name a.schema 513 x y z) true l (start i)).count) (sym n));
        most = omega arith;
      }
