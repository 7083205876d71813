use Rattle.std.proofs.Common.{rules, arith, ◌∙◌, refl, tests}
use Rattle.std.proofs.lemmas.Iterator.{YieldsList-from_range}
use Rattle.std.proofs.lemmas.Iterator.Search.{any_from_yields_List}
use Rattle.reach.proofs.Backing.{hits, any_in_order}
use Rattle.reach.proofs.is_from.Goals as goal

pub returns : goal.returns
returns c =
    let a = c.args in
    any_from_yields_List (hits a.rows.now a.starts.now a.i) _ _ _ c.any.ensures.ran (YieldsList-from_range 0 a.count a.count refl (omega arith)) (λ x b q k. search (rules, tests))
    ∙ any_in_order (hits a.rows.now a.starts.now a.i) a.count
