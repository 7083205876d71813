use mathlib.Core.Path.{refl}
use Rattle.meanings.proofs.Noting.{look_name, look_other}
use Rattle.meanings.proofs.look_up_leaf.Goals as goal

pub returns-then-kind-ne3-clause-right : goal.returns-then-kind-ne3-clause-right
returns-then-kind-ne3-clause-right c = look_other _ _ _ _ _ _ _ _ _ c.if-kind-ne3.true refl

pub returns-clause-right : goal.returns-clause-right
returns-clause-right c = look_name _ _ _ _ _ _ _ _ _ c.if-kind-ne3.false _ c.argument-found.ensures c.put.ensures
