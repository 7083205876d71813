-- In an image that is read the limits of findings are enough. Assumes nothing.
use Prim.Native.Nat.{ℕ, zero, suc, ◌/◌, ◌%◌, ◌≤◌, ◌<◌}
use mathlib.Core.Path.{◌≡◌, refl, sym, ap, subst, ◌∙◌}
use mathlib.Core.List.{List, [], ◌∷◌}
use mathlib.Core.Bool.{Bool, true, false, cond, ◌&&◌}
use mathlib.Core.Logic.{by_cases}
use native.Mathlib.Omega.{arith}
use native.Mathlib.Decide.{dec_lt}
use lib.Dec.{eqb}
use lib.ListN.{length, get_or, take, replicate, length-replicate}
use lib.Seq.{sets}
use Rattle.number.specs.Grammar.{Outcome, done, refused}
use Rattle.tree.specs.Tree.{Tree, leaf, named, generic}
use Rattle.graph.specs.Loops.{weight, unvisited}
use Rattle.image.specs.Schema.{Schema, slot_of}
use Rattle.image.specs.Image.{Image, image_of, frame_in, framed, starts_of, readable_slots}
use Rattle.image.specs.declared.Frame.{Frame}
use Rattle.reader.specs.Reading.{answered, reading_of, schema_of}
use Rattle.reader.specs.Promise.{Promise}
use Rattle.reader.specs.declared.Reading.{Reading}
use Rattle.reader.proofs.Judging.{judged_said}
use Rattle.findings.specs.Meaning.{argument_of, leaf_meant, substitute, applied, meaning_of}
use Rattle.findings.specs.Endless.{counted, entered, left, walk_name, walk_slot}
use Rattle.findings.specs.declared.RecursionState.{RecursionState}
use Rattle.parts.specs.Names.{slot_names, is_message}
use Rattle.walks.specs.Walk.{walk_part, walk_parts}
use Rattle.walks.proofs.Walking.{Whole, whole_after, entered_whole, slot_walk, steady}
use Rattle.walks.proofs.Along.{inside_fewer}
use Rattle.meanings.proofs.Heights.{within}
use Rattle.meanings.proofs.Ended.{alias_ranked}
use Rattle.meanings.proofs.Enough.{enough}
use Rattle.typeck.specs.Enough.{LimitsEnough}
use Rattle.slot.specs.declared.Edition.{Edition}

-- an image that is read keeps the promise, for a table of its starts
kept : (ed : Edition) (s : List ℕ) (f : Frame) → reading_of ed s ≡ Reading.Accepted f → (f.edition ≡ ed) × (starts : List ℕ) × Promise s starts f
unfolding reading_of
kept ed s f e = go (image_of ed s) refl
  where
    blank : List ℕ
    blank = replicate 512 0

    go : (o : Outcome Image) → image_of ed s ≡ o → (f.edition ≡ ed) × (starts : List ℕ) × Promise s starts f
    go (done i n) x =
        let l = sets blank 0 (starts_of (readable_slots ed s)) in
        let a = judged_said ed s blank l (frame_in i) (omega (arith, length-replicate {A = ℕ} 512 0)) (sym (ap framed x)) refl _ refl in
        let q = a.answer ∙ e in
        (a.edition f q, take f.slots l, a.promise f q)
    go (refused r p) x = let q : Reading.Refused r p ≡ Reading.Accepted f = sym (ap answered x) ∙ e in let z : ◌≡◌ {A = ℕ} 0 1 = cc in absurd (omega arith)

-- ## Aliases

-- a generic of T, where T stands for t
abbrev of_t : ℕ → Tree
of_t n = generic n (leaf (named 0))

named_same : {i j : ℕ} → leaf (named i) ≡ leaf (named j) → i ≡ j
named_same e = cc

aliases_enough : (s starts : List ℕ) (f : Frame) → Promise s starts f → (chain : ℕ) → 512 ≤ chain → (n : ℕ) (t : Tree)
    → applied (schema_of f.edition s) chain n t ≡ applied (schema_of f.edition s) 512 n t
unfolding meaning_of substitute leaf_meant argument_of
aliases_enough s starts f p chain h n t =
    let r = within (schema_of f.edition s) (alias_ranked s starts f p) (of_t n) in
    named_same (enough s starts f p (0 ∷ []) (t ∷ []) (of_t n) chain (omega arith))

-- ## Walks

most_unvisited : (w : List Bool) → unvisited w ≤ length w
unfolding weight
most_unvisited [] = omega arith
most_unvisited (true ∷ w) = let h = most_unvisited w in omega arith
most_unvisited (false ∷ w) = let h = most_unvisited w in omega arith

module _ (S : Schema) (few : length S.slots ≤ 512) where
  -- names that are walked with m and with n alike, where fewer than b slots are not visited
  abbrev Alike : (b m n : ℕ) → Type 0
  Alike b m n = (i : ℕ) (d : Bool) (st : RecursionState) → Whole st → unvisited st.visited < b → walk_name S m i d st ≡ walk_name S n i d st

  parts_alike : (b m n : ℕ) → Alike b m n → (d : Bool) (ps : List ℕ) (st : RecursionState) → Whole st → unvisited st.visited < b
      → walk_parts (λ j e t. walk_name S m j e t) d ps st ≡ walk_parts (λ j e t. walk_name S n j e t) d ps st
  unfolding walk_parts walk_part
  parts_alike b m n h d [] st w l = refl
  parts_alike b m n h d (p ∷ ps) st w l =
      let e = d && eqb (p % 2) 1 in
      let moved = (steady S few m).moves (p / 2) e st w in
      parts_alike b m n h d ps (walk_name S m (p / 2) e st) (whole_after moved w) (omega (arith, moved.fewer))
      ∙ ap (walk_parts (λ j e t. walk_name S n j e t) d ps) (h (p / 2) e st w l)

  alike : (b m n : ℕ) → b ≤ m → b ≤ n → Alike b m n
  unfolding walk_name
  alike zero m n x y i d st w l = absurd (omega arith)
  alike (suc b) zero n x y i d st w l = absurd (omega arith)
  alike (suc b) (suc m) zero x y i d st w l = absurd (omega arith)
  alike (suc b) (suc m) (suc n) x y i d st w l = by_cases (dec_lt i 512)
      (λ h. let a = alike b m n (omega arith) (omega arith) in one (get_or st.path i false) (get_or st.visited i false) (slots m) (slots n) (inside h a))
      (λ h. (steady S few (suc m)).past i d st (omega arith) w ∙ sym ((steady S few (suc n)).past i d st (omega arith) w))
    where
      slots : ℕ → RecursionState
      slots k = walk_slot (λ j e t. walk_name S k j e t) i d (slot_of S i) st

      inside : i < 512 → Alike b m n → get_or st.visited i false ≡ false → slots m ≡ slots n
      inside h a v =
          let j = is_message (slot_of S i) && d in
          slot_walk S (λ j e t. walk_name S m j e t) (steady S few m) d i (slot_of S i) st w
          ∙ ap (left i j)
          (parts_alike b m n a d (slot_names (slot_of S i)) (entered i j st) (entered_whole i j st w)
          (omega (arith, inside_fewer i h st w v j (entered i j st) refl)))
          ∙ sym (slot_walk S (λ j e t. walk_name S n j e t) (steady S few n) d i (slot_of S i) st w)

      one : (a v : Bool) (x y : RecursionState) → (v ≡ false → x ≡ y) → cond a (cond d (counted st) st) (cond v st x) ≡ cond a (cond d (counted st) st) (cond v st y)
      one true v x y e = refl
      one false true x y e = refl
      one false false x y e = e refl

  walks_enough : (k : ℕ) → 513 ≤ k → (i : ℕ) (d : Bool) (st : RecursionState) → length st.path ≡ 512 → length st.visited ≡ 512
      → walk_name S k i d st ≡ walk_name S 513 i d st
  walks_enough k h i d st p v =
      alike 513 k 513 h (omega arith) i d st (record { path = p; visited = v }) (omega (arith, most_unvisited st.visited))

pub limits_enough : (ed : Edition) (s : List ℕ) (f : Frame) → reading_of ed s ≡ Reading.Accepted f → LimitsEnough (schema_of ed s)
limits_enough ed s f e =
    let (same, starts, promise) = kept ed s f e in
    let few : length (schema_of f.edition s).slots ≤ 512 = omega (arith, promise.count, promise.few) in
    subst (λ (x : Edition). LimitsEnough (schema_of x s)) same
    record { aliases = aliases_enough s starts f promise; walks = walks_enough (schema_of f.edition s) few }
