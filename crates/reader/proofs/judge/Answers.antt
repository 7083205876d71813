use Rattle.tree.specs.declared.Sort.TheVariants.{Resolved, Expression}
use Rattle.reader.proofs.Telling.{judged_by}
use Rattle.reader.proofs.Judging.{located, few_names_lem, told_names, told_loop}
use Rattle.reader.proofs.judge.Goals as goal

pub lost_name-lost-requires : goal.lost_name-lost-requires
lost_name-lost-requires c = (_, located _ _ _ c.requires)

pub looped-newtype-requires : goal.looped-newtype-requires
looped-newtype-requires c = let v = c.requires in (few_names_lem _ _ _ v, (_, located _ _ _ v))

pub looped-alias-requires : goal.looped-alias-requires
looped-alias-requires c = let v = c.requires in (few_names_lem _ _ _ v, (_, located _ _ _ v))

pub returns : goal.returns
returns c =
    let v = c.requires in
    judged_by _ _ _ _ _ _ _ _
    (told_names _ _ _ v _ c.lost_name-lost.ensures)
    (told_loop _ _ _ v Resolved _ c.looped-newtype.ensures)
    (told_loop _ _ _ v Expression _ c.looped-alias.ensures)
    c.or_refuse-last.ensures c.or_refuse.ensures c.or_refuse-2.ensures
