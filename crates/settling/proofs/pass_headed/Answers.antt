use mathlib.Core.Path.{refl, sym, ◌∙◌}
use Rattle.settling.proofs.Heads.{type_parts_lem}
use Rattle.settling.proofs.pass_headed.Goals as goal

pub returns-in-Leaf : goal.returns-in-Leaf
returns-in-Leaf c = record { passed = λ t end q. (refl, (type_parts_lem _ _ _ _ (sym c.requires ∙ c.in-Leaf.is) t end q).5) }
