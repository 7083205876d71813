-- How many nodes an element is, and a field that its limit bears on. Assumes nothing.
use Prim.Native.Nat.{ℕ, suc, ◌+◌}
use mathlib.Core.Path.{◌≡◌, sym, ap, ◌∙◌}
use native.Mathlib.Omega.{arith}
use Rattle.tree.specs.Tree.{Tree}
use Rattle.sizes.specs.declared.Size.{Size}
use Rattle.sizes.specs.declared.Worked.{Worked}
use Rattle.sizes.specs.declared.Worked.TheVariants.{Sized}
use Rattle.sizes.specs.Elements.{Element, item, entry}
use Rattle.sizes.specs.Sizes.{then}
use Rattle.sizes.proofs.Steps.{then_made}
use Rattle.sizes.specs.Nodes.{type_nodes, element_nodes}

pub item_nodes : {e : Element} {t : Tree} → e ≡ item t → {v : ℕ} → v ≡ type_nodes t → 1 + v ≡ suc (element_nodes e)
unfolding element_nodes
item_nodes {e} {t} q h = let f : element_nodes e ≡ type_nodes t = ap element_nodes q in omega arith

pub entry_nodes : {e : Element} {t u : Tree} → e ≡ entry t u → {v w : ℕ} → v ≡ type_nodes t → w ≡ type_nodes u → 1 + v + w ≡ suc (element_nodes e)
unfolding element_nodes
entry_nodes {e} {t} {u} q h k = let f : element_nodes e ≡ type_nodes t + type_nodes u = ap element_nodes q in omega arith

-- a size was made of a size
pub part_sized : {w v : Worked} (make : Size → Worked) {z : Size} → w ≡ then v make → w ≡ Sized z → (y : Size) × (v ≡ Sized y)
part_sized {v = v} make {z = z} e q = let m = then_made v make z (sym e ∙ q) in (m.part, m.given)
