-- What is left to do: slots that are not marked, then newtypes that may follow one another, then bytes. Assumes nothing.
use Prim.Native.Nat.{ℕ, ◌+◌, ◌-◌, ◌*◌, ◌≤◌, ◌<◌}
use mathlib.Core.Path.{◌≡◌, refl, sym, ap, subst, fun_ext}
use mathlib.Core.List.Memᴰ
use mathlib.Core.List.{List, []}
use mathlib.Core.Bool.{Bool, true, false}
use native.Mathlib.Omega.{arith}
use lib.ListN.{length, get_or, set}
use Rattle.number.specs.Grammar.{Outcome, done, refused, read}
use Rattle.tree.specs.Tree.{Tree, Wrap, leaf, wrap, fixed_array, pair, named, bits_inline, result_of, wrap_kind, optional, array, set_of, vec2, vec3, vec4, quat, mat3, mat4}
use Rattle.slot.specs.Field.{type_at}
use Rattle.image.specs.Schema.{Schema}
use Rattle.image.specs.declared.Frame.{Frame}
use Rattle.reader.specs.Reading.{schema_of}
use Rattle.sizes.specs.Elements.{count_of}
use Rattle.sizes.specs.Names.{terminal, content_of, Working, inserted}
use Rattle.sizes.specs.Lengths.{wrap_parts, type_parts}
use Rattle.sizes.proofs.Rank.{unmarked_below, unmarked_fresh, above, above_append, terminal_rank, type_rank, type_rank_name, type_rank_bound, terminal_rank_bound, terminal_rank_is}
use Rattle.sizes.proofs.Fuel.{inserted_is}
use Rattle.wiresize.specs.Asked.{marked, Ready}
use Rattle.wiresize.proofs.Ends.{newtypes_end}

abbrev tree_or : Outcome Tree → Tree
tree_or (done t n) = t
tree_or (refused r p) = leaf (bits_inline [])

unfoldable pub unmarked : List Bool → ℕ
unmarked w = unmarked_below 512 (marked w)

unfoldable pub type_left : List ℕ → Frame → (at : ℕ) → List Bool → ℕ
type_left s f at w = (unmarked w * 1024 + type_rank (schema_of f.edition s) (tree_or (read (type_at f.names) s at))) * 131072 + (length s - at)

unfoldable pub name_left : Schema → (id : ℕ) → List Bool → ℕ
name_left S i w = (unmarked w * 1024 + terminal_rank S i) * 131072 + 131071

unfoldable pub element_left : List Bool → ℕ
element_left w = (unmarked w * 1024 + 800) * 131072

unfoldable pub plain_left : List Bool → ℕ
plain_left w = (unmarked w * 1024 + 850) * 131072

unfoldable pub field_left : List Bool → ℕ
field_left w = (unmarked w * 1024 + 900) * 131072

unfoldable pub variants_left : List Bool → ℕ
variants_left w = (unmarked w * 1024 + 950) * 131072

unfoldable pub body_left : List Bool → ℕ
body_left w = (unmarked w * 1024 + 1000) * 131072

pub field_in_variants : (w : List Bool) → field_left w < variants_left w
unfolding field_left variants_left
field_in_variants w = omega arith

pub variants_in_body : (w : List Bool) → variants_left w < body_left w
unfolding variants_left body_left
variants_in_body w = omega arith

module _ (s starts : List ℕ) (f : Frame) (rows : List ℕ) (w : List Bool) (ready : Ready s starts f rows w) where
  rank_small : (t : Tree) → type_rank (schema_of f.edition s) t ≤ 514
  rank_small t = let b = type_rank_bound (schema_of f.edition s) t in let c = ready.promise.count in let d = ready.promise.few in omega arith

  name_small : (i : ℕ) → terminal_rank (schema_of f.edition s) i ≤ 513
  name_small i = let b = terminal_rank_bound (schema_of f.edition s) i in let c = ready.promise.count in let d = ready.promise.few in omega arith

  pub type_in_element : (at : ℕ) → type_left s f at w < element_left w
  unfolding type_left element_left
  type_in_element at =
      let a = rank_small (tree_or (read (type_at f.names) s at)) in let b = ready.promise.small in omega arith

  pub element_in_plain : element_left w < plain_left w
  unfolding element_left plain_left
  element_in_plain = omega arith

  pub type_in_plain : (at : ℕ) → type_left s f at w < plain_left w
  unfolding type_left plain_left
  type_in_plain at =
      let a = rank_small (tree_or (read (type_at f.names) s at)) in let b = ready.promise.small in omega arith

  pub name_in_field : (i : ℕ) → name_left (schema_of f.edition s) i w < field_left w
  unfolding name_left field_left
  name_in_field i = let a = name_small i in omega arith

  pub plain_in_field : plain_left w < field_left w
  unfolding plain_left field_left
  plain_in_field = omega arith

  -- a slot that is marked now
  pub body_in_name : (i : ℕ) → i < f.slots → get_or w i false ≡ false → body_left (set w i true) < name_left (schema_of f.edition s) i w
  unfolding body_left name_left unmarked
  body_in_name i h e =
      let c = ready.marks in
      let d = ready.promise.few in
      let q : inserted i (marked w) ≡ marked (set w i true) = fun_ext (λ j. sym (inserted_is w i j (omega arith))) in
      let l : unmarked_below 512 (marked (set w i true)) < unmarked_below 512 (marked w) = subst (λ (u : Working). unmarked_below 512 u < unmarked_below 512 (marked w)) q (unmarked_fresh 512 i (marked w) (omega arith) e) in
      omega arith

  module _ (at : ℕ) (t : Tree) (end : ℕ) (whole : read (type_at f.names) s at ≡ done t end) where
    rank_at_lem : type_left s f at w ≡ (unmarked w * 1024 + type_rank (schema_of f.edition s) t) * 131072 + (length s - at)
    unfolding type_left
    rank_at_lem = rw whole

    pub name_in_type : (i : ℕ) → t ≡ leaf (named i) → name_left (schema_of f.edition s) i w < type_left s f at w
    unfolding name_left type_parts
    name_in_type i e =
        let a = type_rank_name (schema_of f.edition s) (leaf (named i)) i (Memᴰ.head refl) in
        let b : type_rank (schema_of f.edition s) t ≡ type_rank (schema_of f.edition s) (leaf (named i)) = ap (type_rank (schema_of f.edition s)) e in
        let r = rank_at_lem in
        omega arith

    -- a newtype's terminal type
    pub terminal_in_name : (i : ℕ) → content_of (schema_of f.edition s) i ≡ terminal t → type_left s f at w < name_left (schema_of f.edition s) i w
    unfolding name_left
    terminal_in_name i e =
        let a = terminal_rank_is (schema_of f.edition s) (newtypes_end s starts f ready.promise) i t e in
        let b = ready.promise.small in
        let r = rank_at_lem in
        omega arith

  module _ (at n : ℕ) (t u : Tree) (end e : ℕ) (whole : read (type_at f.names) s at ≡ done t end) (part : read (type_at f.names) s n ≡ done u e)
      (after : at < n) (within : n ≤ length s) where
    smaller : type_rank (schema_of f.edition s) u ≤ type_rank (schema_of f.edition s) t → type_left s f n w < type_left s f at w
    smaller h = let a = rank_at_lem at t end whole in let b = rank_at_lem n u e part in omega arith

    pub child_in_wrap : (x : Wrap) → t ≡ wrap x u → (wrap_kind x ≡ 5 → ⊥) → (wrap_kind x ≡ 7 → ⊥) → type_left s f n w < type_left s f at w
    unfolding type_rank type_parts
    child_in_wrap x e' p q = smaller (rw e' (go x p q))
      where
        go : (x : Wrap) → (wrap_kind x ≡ 5 → ⊥) → (wrap_kind x ≡ 7 → ⊥) → above (terminal_rank (schema_of f.edition s)) (type_parts u) ≤ above (terminal_rank (schema_of f.edition s)) (wrap_parts (count_of x) (type_parts u))
        go optional p q = omega arith
        go array p q = absurd (p refl)
        go set_of p q = absurd (q refl)
        go vec2 p q = omega arith
        go vec3 p q = omega arith
        go vec4 p q = omega arith
        go quat p q = omega arith
        go mat3 p q = omega arith
        go mat4 p q = omega arith

    pub element_in_array : (k : ℕ) → t ≡ fixed_array u k → type_left s f n w < type_left s f at w
    unfolding type_rank type_parts
    element_in_array k e' = smaller (rw e' (omega arith))

    pub ok_in_result : (v : Tree) → t ≡ pair result_of u v → type_left s f n w < type_left s f at w
    unfolding type_rank type_parts
    ok_in_result v e' = smaller (rw e' (omega (arith, above_append (terminal_rank (schema_of f.edition s)) (type_parts u) (type_parts v))))

    pub err_in_result : (v : Tree) → t ≡ pair result_of v u → type_left s f n w < type_left s f at w
    unfolding type_rank type_parts
    err_in_result v e' = smaller (rw e' (omega (arith, above_append (terminal_rank (schema_of f.edition s)) (type_parts v) (type_parts u))))
