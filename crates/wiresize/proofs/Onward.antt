-- A type's children stand behind its head. Assumes nothing.
use Prim.Native.Nat.{ℕ, ◌≤◌, ◌<◌}
use mathlib.Core.Path.{◌≡◌, refl, sym, ap, ◌∙◌}
use mathlib.Core.List.{List}
use native.Mathlib.Omega.{arith}
use lib.ListN.{length}
use Rattle.number.specs.Grammar.{kind, number, done, read}
use Rattle.number.proofs.Reading.{read_done, read_number, then_done}
use Rattle.number.proofs.InRange.{below_is}
use Rattle.tree.specs.Tree.{Tree}
use Rattle.tree.specs.TreeAt.{Node, none, one, two, sized, applied, body_at, head_at, shape}
use Rattle.tree.specs.declared.Sort.TheVariants.{Resolved}
use Rattle.tree.specs.declared.Head.{Head}
use Rattle.slot.specs.Field.{type_at}
use Rattle.view.proofs.Onward.{goes_on}
use Rattle.settling.proofs.Heads.{level}

-- the position after a head
abbrev pub place_in : Head → ℕ
place_in (Head.Leaf k g v n) = n
place_in (Head.One k n) = n
place_in (Head.Two k n) = n
place_in (Head.Sized n) = n
place_in (Head.Generic v n) = n
place_in (Head.Refused r p) = p

shape_place : (node : Node) (n : ℕ) → place_in (shape (done node n)) ≡ n
shape_place (none l) n = refl
shape_place (one w) n = refl
shape_place (two p) n = refl
shape_place sized n = refl
shape_place (applied v) n = refl

module _ (names : ℕ) (s : List ℕ) (at : ℕ) where
  pub head_forward : (node : Node) (n : ℕ) → read (head_at Resolved names) s at ≡ done node n → (at < n) × (n ≤ length s)
  unfolding head_at
  head_forward node n e =
      let a = read_done (number kind 17) (body_at Resolved names) s at node n e in
      let b = below_is s at 17 a.first a.middle (sym (read_number kind 17 s at) ∙ a.here) in
      let r = goes_on (body_at Resolved names a.first) s a.middle a.rest in
      (omega (arith, b.after, r.forward), r.within b.within)

  -- a type's children stand behind its head
  pub behind_head : (x : Head) → shape (read (head_at Resolved names) s at) ≡ x → (t : Tree) (end : ℕ) → read (type_at names) s at ≡ done t end
      → (at < place_in x) × (place_in x ≤ length s)
  behind_head x e t end q =
      let a = then_done (read (head_at Resolved names) s at) _ (sym (level names s 31 at) ∙ q) in
      let p = head_forward a.0 a.1 a.2 in
      let z : place_in x ≡ a.1 = ap place_in (sym e ∙ ap shape a.2) ∙ shape_place a.0 a.1 in
      (omega arith, omega arith)
